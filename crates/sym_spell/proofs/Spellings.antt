-- Spellings one after the other; and two functions that write the same digits.
use Rattle.std.proofs.Common.{◌≡◌, ℕ, zero, suc, ◌+◌, ◌/◌, ◌%◌, ◌<◌, length, List, [], ◌∷◌, ◌++◌, Bool, true, false, refl, ap, arith, append_assoc, append-nil, length-append}
use Rattle.std.specs.Prelude.{nat_lt}
use Rattle.std.proofs.lemmas.Bool.{ltb-true, lt-ltb}
use mathlib.Core.Path.{fun_ext}
use Rattle.sym_spell.specs.Pressing.{Pressed, Pressing, ◌and◌, nothing}
use Rattle.sym_spell.specs.Digits.{digits_in, digit_in, decimal_digit, digit36, digits_of}

joined : {C : Type 0} (xs ys : List ℕ) (h : Pressing C) (cs : List C) (p q : ℕ) → p ≡ q
    → ◌≡◌ {A = Pressed C} (record { bytes = (xs ++ ys) ++ (h p cs).bytes; components = (h p cs).components }) (record { bytes = xs ++ (ys ++ (h q cs).bytes); components = (h q cs).components })
joined xs ys h cs p q same = rw (same, append_assoc xs ys (h q cs).bytes) refl

-- two spellings one after the other, at a place
pub and-assoc-at : {C : Type 0} (f g h : Pressing C) (place : ℕ) (cs : List C) → ((f and g) and h) place cs ≡ (f and (g and h)) place cs
and-assoc-at f g h place cs =
    let a = f place cs in
    let b = g (place + length a.bytes) a.components in
    joined a.bytes b.bytes h b.components (place + length (a.bytes ++ b.bytes)) (place + length a.bytes + length b.bytes) (omega (arith, length-append a.bytes b.bytes))

pub and-assoc : {C : Type 0} (f g h : Pressing C) → ◌≡◌ {A = Pressing C} ((f and g) and h) (f and (g and h))
and-assoc f g h = fun_ext (λ place. fun_ext (λ cs. and-assoc-at f g h place cs))

whole : {C : Type 0} (one : Pressed C) → ◌≡◌ {A = Pressed C} (record { bytes = one.bytes ++ []; components = one.components }) one
whole one = rw (append-nil one.bytes) refl

pub and-nothing-at : {C : Type 0} (f : Pressing C) (place : ℕ) (cs : List C) → (f and nothing) place cs ≡ f place cs
and-nothing-at f place cs = whole (f place cs)

pub and-nothing : {C : Type 0} (f : Pressing C) → ◌≡◌ {A = Pressing C} (f and nothing) f
and-nothing f = fun_ext (λ place. fun_ext (λ cs. and-nothing-at f place cs))

moved : {C : Type 0} (f : Pressing C) (p q : ℕ) (cs : List C) → p ≡ q → ◌≡◌ {A = Pressed C} (record { bytes = (f p cs).bytes; components = (f p cs).components }) (f q cs)
moved f p q cs same = rw same refl

pub nothing-and-at : {C : Type 0} (f : Pressing C) (place : ℕ) (cs : List C) → (nothing and f) place cs ≡ f place cs
nothing-and-at f place cs = moved f (place + 0) place cs (omega arith)

pub nothing-and : {C : Type 0} (f : Pressing C) → ◌≡◌ {A = Pressing C} (nothing and f) f
nothing-and f = fun_ext (λ place. fun_ext (λ cs. nothing-and-at f place cs))

-- two functions that give the same digits write the same bytes
pub digits-same : (base : ℕ) (f g : ℕ → ℕ) → ((n : ℕ) → n % base < base) → ((d : ℕ) → d < base → f d ≡ g d) → (most n : ℕ) → digits_in base f most n ≡ digits_in base g most n
digits-same base f g rest same zero n = refl
digits-same base f g rest same (suc most) n = go (nat_lt n base) refl (digits-same base f g rest same most (n / base))
  where
    go : (b : Bool) → nat_lt n base ≡ b → digits_in base f most (n / base) ≡ digits_in base g most (n / base)
        → elim b as (λ _. List ℕ) [ true ↦ f n ∷ [] | false ↦ digits_in base f most (n / base) ++ f (n % base) ∷ [] ]
        ≡ elim b as (λ _. List ℕ) [ true ↦ g n ∷ [] | false ↦ digits_in base g most (n / base) ++ g (n % base) ∷ [] ]
    go true is more = ap (λ d. d ∷ []) (same n (ltb-true n base is))
    go false is more = rw (more, same (n % base) (rest n)) refl

pub digits-ten : (n : ℕ) → digits_of 10 n ≡ digits_in 10 decimal_digit 40 n
unfolding digits_of
digits-ten n = digits-same 10 (digit_in 10) decimal_digit (λ m. omega arith) (λ d low. one d (nat_lt d 10) refl low) 40 n
  where
    one : (d : ℕ) (b : Bool) → nat_lt d 10 ≡ b → d < 10 → digit_in 10 d ≡ decimal_digit d
    one d true is low = rw is refl
    one d false is low = absurd (apart is (lt-ltb d 10 low))
      where
        apart : nat_lt d 10 ≡ false → nat_lt d 10 ≡ true → ⊥
        apart h k = cc

pub digits-capital : (n : ℕ) → digits_of 36 n ≡ digits_in 36 digit36 40 n
unfolding digits_of
digits-capital n = refl
