-- The productions that end with a number, by their own numbers.
use Rattle.cpp_link.proofs.Basics.{◌≡◌, refl, sym, ◌∙◌, ap, arith, ℕ, zero, suc, ◌+◌, ◌-◌, List, [], ◌∷◌, map, get_or, Bool, true, false, ◌&&◌, ◌||◌, nat_eq, false≢true, and_parts, eqb-true, ne_eqb, productions, production_at, both, is_numbered, LAMBDA, UNNAMED}
use Rattle.cpp_link.proofs.Reading.{count_got}

unfoldable same : Bool → Bool → Bool
same true b = b
same false true = false
same false false = true

same_is : (a b : Bool) → same a b ≡ true → a ≡ b
unfolding same
same_is true true e = refl
same_is true false e = absurd (false≢true e)
same_is false true e = absurd (false≢true e)
same_is false false e = refl

-- whether the entries numbered a and b are true and no others, in a list whose first entry has number k
unfoldable told_by : List Bool → (k a b : ℕ) → Bool
told_by [] k a b = nat_eq (suc a - k) 0 && nat_eq (suc b - k) 0
told_by (x ∷ xs) k a b = same x (nat_eq k a || nat_eq k b) && told_by xs (suc k) a b

is_told : (xs : List Bool) (k a b n : ℕ) → told_by xs k a b ≡ true → get_or xs n false ≡ (nat_eq (k + n) a || nat_eq (k + n) b)
unfolding told_by
is_told [] k a b n e =
    let p = and_parts (nat_eq (suc a - k) 0) (nat_eq (suc b - k) 0) e in
    sym (both (λ x y. x || y) (ne_eqb (k + n) a (λ h. omega (arith, eqb-true (suc a - k) 0 p.0, h))) (ne_eqb (k + n) b (λ h. omega (arith, eqb-true (suc b - k) 0 p.1, h))))
is_told (x ∷ xs) k a b zero e =
    let same_number : k ≡ k + 0 = omega arith in
    same_is x (nat_eq k a || nat_eq k b) (and_parts _ _ e).0 ∙ ap (λ m. nat_eq m a || nat_eq m b) same_number
is_told (x ∷ xs) k a b (suc n) e =
    let same_number : suc k + n ≡ k + suc n = omega arith in
    is_told xs (suc k) a b n (and_parts _ _ e).1 ∙ ap (λ m. nat_eq m a || nat_eq m b) same_number

pub numbered_told : (n : ℕ) → is_numbered (production_at n) ≡ (nat_eq n LAMBDA || nat_eq n UNNAMED)
unfolding productions is_numbered told_by same
numbered_told n =
    let same_number : 0 + n ≡ n = omega arith in
    sym (count_got is_numbered n) ∙ is_told (map is_numbered productions) 0 LAMBDA UNNAMED n refl ∙ ap (λ m. nat_eq m LAMBDA || nat_eq m UNNAMED) same_number
