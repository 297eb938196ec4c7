-- The names of a path, one by one.
use Rattle.rust_legacy.proofs.Basics.{◌≡◌, ◌≤◌, ◌<◌, ℕ, ◌+◌, ◌++◌, List, [], ◌∷◌, length, drop, refl, ap, sym, ◌∙◌, arith, append_assoc, length-append, subst, Bool, true, false, cond, append-nil, Some, codes, unwrap_or, nat_le, nat_tests, text_of, cost_of, AreNames, Name, name_in, front_at, names_parts, shown_name}

-- what names cost as an item; no names cost nothing
abbrev pub names_cost : (front : List ℕ) → List (List ℕ) → ℕ
names_cost front [] = 0
names_cost front (name ∷ rest) = cost_of (names_parts front (name ∷ rest))

pub names_text-next : (front : List ℕ) (name : List ℕ) (rest : List (List ℕ))
    → text_of (names_parts front (name ∷ rest)) ≡ front ++ (text_of (shown_name name) ++ text_of (names_parts (codes "::") rest))
names_text-next [] name [] = refl
names_text-next (b ∷ front) name [] = refl
names_text-next [] name (next ∷ rest) = ap (λ t. text_of (shown_name name) ++ t) (append-nil (text_of (names_parts (codes "::") (next ∷ rest))))
names_text-next (b ∷ front) name (next ∷ rest) =
    ap (λ t. (b ∷ front) ++ (text_of (shown_name name) ++ t)) (append-nil (text_of (names_parts (codes "::") (next ∷ rest))))

pub names_cost-next : (front : List ℕ) (name : List ℕ) (rest : List (List ℕ))
    → names_cost front (name ∷ rest) ≡ 1 + length front + cost_of (shown_name name) + names_cost (codes "::") rest
names_cost-next [] name [] = omega arith
names_cost-next (b ∷ front) name [] = omega arith
names_cost-next [] name (next ∷ rest) = omega arith
names_cost-next (b ∷ front) name (next ∷ rest) = omega arith

-- the name at a place is the first of the names from there on
pub first_name : (s : List ℕ) (at to : ℕ) (names : List (List ℕ)) (found : Name) → at < to → AreNames s at to names → name_in (drop at s) ≡ Some found
    → (rest : List (List ℕ)) × (names ≡ found.bytes ∷ rest) × AreNames s (at + found.size) to rest
first_name s at to [] found some are is = absurd (omega (arith, some, are))
first_name s at to (name ∷ rest) found some are is =
    let same : record { bytes = name; size = are.0 } ≡ found = ap (λ o. unwrap_or o found) (sym are.1 ∙ is) in
    (rest, ap (λ n. n.bytes ∷ rest) same, subst (λ n. AreNames s (at + n.size) to rest) same are.2)

-- each name except the first comes after ::
pub front_later : (at : ℕ) → 3 < at → front_at at ≡ codes "::"
front_later at later = by (nat_le at 3) refl
  where
    by : (b : Bool) → nat_le at 3 ≡ b → cond {A = List ℕ} b [] (codes "::") ≡ codes "::"
    by true e = (let early : at ≤ 3 = grind (arith, nat_tests, e) in absurd (omega (arith, early, later)))
    by false e = refl

-- what names show and what they cost, by the first one and the others
pub record Parted (front : List ℕ) (names : List (List ℕ)) (name : List ℕ) (rest : List (List ℕ)) : Type 0 where
  pub text : text_of (names_parts front names) ≡ front ++ (text_of (shown_name name) ++ text_of (names_parts (codes "::") rest))
  pub cost : names_cost front names ≡ 1 + length front + cost_of (shown_name name) + names_cost (codes "::") rest

pub parted : (front : List ℕ) (names : List (List ℕ)) (name : List ℕ) (rest : List (List ℕ)) → names ≡ name ∷ rest → Parted front names name rest
parted front names name rest is =
    record {
      text = ap (λ n. text_of (names_parts front n)) is ∙ names_text-next front name rest;
      cost = ap (names_cost front) is ∙ names_cost-next front name rest;
    }

-- the bytes written so far and the later ones are the whole text
pub text_goes : (out mid new front text later whole : List ℕ) → mid ≡ out ++ front → new ≡ mid ++ text → out ++ (front ++ (text ++ later)) ≡ whole → new ++ later ≡ whole
text_goes out mid new front text later whole a b is =
    ap (λ n. n ++ later) (b ∙ ap (λ m. m ++ text) a) ∙ append_assoc (out ++ front) text later ∙ append_assoc out front (text ++ later) ∙ is

-- the bytes written so far are no longer than the whole text
pub text_within : (out front text later whole : List ℕ) → out ++ (front ++ (text ++ later)) ≡ whole → length out + length front + length text ≤ length whole
text_within out front text later whole is =
    omega (arith, ap length (sym is), length-append out (front ++ (text ++ later)), length-append front (text ++ later), length-append text later)

-- some names cost what their item costs
pub names_cost_is : (front : List ℕ) (names : List (List ℕ)) → 0 < length names → names_cost front names ≡ cost_of (names_parts front names)
names_cost_is front [] some = absurd (omega (arith, some))
names_cost_is front (name ∷ rest) some = refl
