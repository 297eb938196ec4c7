-- The least number of bytes that spell a tree without parts.
use Rattle.cpp_press_laws.proofs.Basics.{◌≡◌, ℕ, zero, suc, ◌<◌, ◌≤◌, length, List, [], ◌∷◌, ◌++◌, Bool, true, false, arith, length-append, cond, codes, ◌||◌, nat_lt, ◌/◌, ◌%◌, Cpp, IsSeparator, digits_in, decimal_digit, Qualifiers, either, decimal, counted, ordinal, qualifier_letters, IsSpellableName, Slot, literal_type, IsBuiltin, has_letters}

digits-long : (most n : ℕ) → 0 < length (digits_in 10 decimal_digit (suc most) n)
digits-long most n =
    either (λ ds. 0 < length ds) (nat_lt n 10) (decimal_digit n ∷ [])
    (digits_in 10 decimal_digit most (n / 10) ++ decimal_digit (n % 10) ∷ []) (λ h. omega arith)
    (λ h. omega (arith, length-append (digits_in 10 decimal_digit most (n / 10)) (decimal_digit (n % 10) ∷ [])))

pub counted-long : (name : List ℕ) → 0 < length (counted name)
unfolding counted decimal
counted-long name = omega (arith, length-append (digits_in 10 decimal_digit 40 (length name)) name, digits-long 39 (length name))

pub some-bytes : (name : List ℕ) → IsSeparator Cpp [] name → 1 ≤ length name
some-bytes [] is = absurd is
some-bytes (b ∷ bs) is = omega arith

pub source-long : (internal : Bool) (name : List ℕ) → IsSpellableName name → 2 ≤ length (cond internal (codes "L") [] ++ counted name)
unfolding counted decimal
source-long true name is = omega (arith, counted-long name)
source-long false name is =
    omega (
      arith,
      length-append (digits_in 10 decimal_digit 40 (length name)) name,
      digits-long 39 (length name),
      some-bytes name is.first,
    )

pub ordinal-long : (k : ℕ) → 1 ≤ length (ordinal k)
unfolding ordinal
ordinal-long zero = omega arith
ordinal-long (suc n) = omega (arith, length-append (decimal n) (codes "_"))

pub truth-long : (truth : Bool) → 1 ≤ length (cond truth (codes "Lb1E") (codes "Lb0E"))
truth-long true = omega arith
truth-long false = omega arith

pub builtin-long : (slot : Slot) (code : List ℕ) → IsBuiltin slot code → 1 ≤ length code
builtin-long slot (b ∷ bs) h = omega arith
builtin-long literal_type [] h = absurd h
builtin-long _ [] h = absurd h

pub letters-long : (q : Qualifiers) → has_letters q ≡ true → 0 < length (qualifier_letters q)
unfolding has_letters qualifier_letters
letters-long q h = go q.restrict q.volatile q.const h
  where
    go : (r v c : Bool) → r || v || c ≡ true → 0 < length (cond r (codes "r") [] ++ cond v (codes "V") [] ++ cond c (codes "K") [])
    go true true true k = omega arith
    go true true false k = omega arith
    go true false true k = omega arith
    go true false false k = omega arith
    go false true true k = omega arith
    go false true false k = omega arith
    go false false true k = omega arith
    go false false false k = cc

pub marks-long : (c x : Bool) → 0 < length (cond x (codes "Do") [] ++ codes "F" ++ cond c (codes "Y") [])
marks-long true true = omega arith
marks-long true false = omega arith
marks-long false true = omega arith
marks-long false false = omega arith
