-- Where nothing is done before a part of a production, the wide reading does nothing of its own either.
use Rattle.cpp_link.proofs.Basics.{◌≡◌, refl, sym, subst, arith, ℕ, ◌<◌, Bool, true, false, ◌&&◌, nat_eq, Production, quiet_parts, steps_apart}

-- the first part of a parameter isn't the second
first : (l : Bool) (before : ℕ) → before < 1 → (l && nat_eq before 1) ≡ false
first l before lt =
    let none : before ≡ 0 = omega (arith, lt) in
    subst (λ k. (l && nat_eq k 1) ≡ false) (sym none) (either l)
  where
    either : (b : Bool) → (b && nat_eq 0 1) ≡ false
    either true = refl
    either false = refl

pub quiet_apart : (p : Production) (l : Bool) (before : ℕ) → before < quiet_parts p → steps_apart p l before ≡ false
unfolding quiet_parts steps_apart
quiet_apart Production.Parameter l before lt = first l before lt
quiet_apart Production.NestParameter l before lt = first l before lt
quiet_apart Production.ParameterArgument l before lt = first l before lt
quiet_apart Production.ParameterExpression l before lt = first l before lt
quiet_apart Production.Holder l before lt = first true before lt
quiet_apart Production.NamedModule l before lt = first true before lt
quiet_apart Production.HeldArguments l before lt = absurd (omega (arith, lt))
quiet_apart Production.DeclaredFirst l before lt = absurd (omega (arith, lt))
quiet_apart Production.Constraint l before lt = absurd (omega (arith, lt))
quiet_apart Production.Encoding l before lt = absurd (omega (arith, lt))
quiet_apart Production.EncodingLiteral l before lt = first l before lt
quiet_apart _ l before lt = refl
