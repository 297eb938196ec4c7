-- The digits of a number have its value.
use Rattle.std.proofs.Common.{◌≡◌, ℕ, zero, suc, ◌+◌, ◌*◌, ◌/◌, ◌%◌, ◌<◌, ◌≤◌, length, List, [], ◌∷◌, ◌++◌, Bool, true, false, refl, arith, length-append}
use Rattle.std.specs.Prelude.{nat_lt, ◌≢◌}
use Rattle.std.specs.List.{AllByRecursion}
use Rattle.std.proofs.lemmas.Bool.{leb-true, lt-ltb}
use Rattle.std.proofs.lemmas.Bool.Decides.{nat_tests}
use Rattle.sym_core.specs.declared.NumberKind.{NumberKind}
use Rattle.sym_core.specs.declared.NumberKind.TheVariants.{Length}
use Rattle.sym_core.specs.Number.{AreDigits, IsLengthForm, is_digit_of}
use Rattle.sym_core.specs.Value.{radix_of, digit_value, value_onto, counted_value}
use Rattle.sym_spell.specs.Digits.{digits_in, decimal_digit, most_of}

-- the laws of division by a base that the proofs use
pub record Divides (base : ℕ) : Type 0 where
  pub joined : (n : ℕ) → n / base * base + n % base ≡ n
  pub rest : (n : ℕ) → n % base < base
  pub fewer : (n r : ℕ) → n < base * r → n / base < r

value-append : (kind : NumberKind) (high : ℕ) (cs : List ℕ) (c : ℕ)
    → value_onto kind high (cs ++ (c ∷ [])) ≡ value_onto kind high cs * radix_of kind + digit_value kind c
value-append kind high [] c = refl
value-append kind high (d ∷ ds) c = value-append kind (high * radix_of kind + digit_value kind d) ds c

pub digits-value : (kind : NumberKind) (base : ℕ) → radix_of kind ≡ base → Divides base → (write : ℕ → ℕ)
    → ((d : ℕ) → d < base → digit_value kind (write d) ≡ d) → (fuel n : ℕ) → n < most_of base fuel
    → value_onto kind 0 (digits_in base write fuel n) ≡ n
digits-value kind base same by_base write back zero n small = omega (arith, small)
digits-value kind base same by_base write back (suc fuel) n small =
    go (nat_lt n base) refl (digits-value kind base same by_base write back fuel (n / base) (by_base.fewer n (most_of base fuel) small))
  where
    go : (b : Bool) → nat_lt n base ≡ b → value_onto kind 0 (digits_in base write fuel (n / base)) ≡ n / base
        → value_onto kind 0 (elim b as (λ _. List ℕ) [
          | true ↦ write n ∷ []
          | false ↦ digits_in base write fuel (n / base) ++
              (write (n % base) ∷ [])
        ]) ≡ n
    go true below high = rw (back n (leb-true (suc n) base below)) (omega arith)
    go false above high =
        rw (value-append kind 0 (digits_in base write fuel (n / base)) (write (n % base)), high, same, back (n % base) (by_base.rest n))
        (by_base.joined n)

all-append : (P : ℕ → Type 0) (cs : List ℕ) (c : ℕ) → AllByRecursion P cs → P c → AllByRecursion P (cs ++ (c ∷ []))
all-append P [] c h k = (k, tt)
all-append P (d ∷ ds) c h k = (h.0, all-append P ds c h.1 k)

pub digits-all : (base : ℕ) → Divides base → (write : ℕ → ℕ) (P : ℕ → Type 0) → ((d : ℕ) → d < base → P (write d)) → (fuel n : ℕ)
    → AllByRecursion P (digits_in base write fuel n)
digits-all base by_base write P good zero n = tt
digits-all base by_base write P good (suc fuel) n = go (nat_lt n base) refl (digits-all base by_base write P good fuel (n / base))
  where
    go : (b : Bool) → nat_lt n base ≡ b → AllByRecursion P (digits_in base write fuel (n / base))
        → AllByRecursion P (elim b as (λ _. List ℕ) [ true ↦ write n ∷ [] | false ↦ digits_in base write fuel (n / base) ++ (write (n % base) ∷ []) ])
    go true below high = (good n (leb-true (suc n) base below), tt)
    go false above high = all-append P (digits_in base write fuel (n / base)) (write (n % base)) high (good (n % base) (by_base.rest n))

false-true : (b : Bool) → b ≡ false → b ≡ true → ⊥
false-true b h k = cc

not-below : (n base : ℕ) → nat_lt n base ≡ false → base ≤ n
not-below n base above =
    let bad : n < base → ⊥ = λ less. false-true (nat_lt n base) above (lt-ltb n base less) in omega (arith, bad)

pub digits-count : (base : ℕ) → Divides base → (write : ℕ → ℕ) → (fuel k n : ℕ) → n < most_of base (suc k)
    → length (digits_in base write fuel n) ≤ suc k
digits-count base by_base write zero k n small = omega arith
digits-count base by_base write (suc fuel) zero n small = go (nat_lt n base) refl
  where
    go : (b : Bool) → nat_lt n base ≡ b
        → length {A = ℕ} (elim b as (λ _. List ℕ) [
          | true ↦ write n ∷ []
          | false ↦ digits_in base write fuel (n / base) ++ (write (n % base) ∷ [])
        ]) ≤ 1
    go true below = omega arith
    go false above = absurd (omega (arith, small, not-below n base above))
digits-count base by_base write (suc fuel) (suc k) n small = go (nat_lt n base) refl
    (digits-count base by_base write fuel k (n / base) (by_base.fewer n (most_of base (suc k)) small))
  where
    go : (b : Bool) → nat_lt n base ≡ b → length (digits_in base write fuel (n / base)) ≤ suc k
        → length {A = ℕ} (elim b as (λ _. List ℕ) [
          | true ↦ write n ∷ []
          | false ↦ digits_in base write fuel (n / base) ++ (write (n % base) ∷ [])
        ]) ≤ suc (suc k)
    go true below few = omega arith
    go false above few = omega (arith, few, length-append (digits_in base write fuel (n / base)) (write (n % base) ∷ []))

pub digits-some : (base : ℕ) (write : ℕ → ℕ) (fuel n : ℕ) → 0 < length (digits_in base write (suc fuel) n)
digits-some base write fuel n = go (nat_lt n base)
  where
    go : (b : Bool) → 0 < length {A = ℕ} (elim b as (λ _. List ℕ) [
      | true ↦ write n ∷ []
      | false ↦ digits_in base write fuel (n / base) ++
          (write (n % base) ∷ [])
    ])
    go true = omega arith
    go false = omega (arith, length-append (digits_in base write fuel (n / base)) (write (n % base) ∷ []))

-- in a kind of number where no digits denote 0, the digits of n denote n + 1
pub counted-digits : (kind : NumberKind) (base : ℕ) → radix_of kind ≡ base → Divides base → (write : ℕ → ℕ)
    → ((d : ℕ) → d < base → digit_value kind (write d) ≡ d) → (fuel n : ℕ) → n < most_of base (suc fuel)
    → counted_value kind (digits_in base write (suc fuel) n) ≡ n + 1
counted-digits kind base same by_base write back fuel n small =
    go (digits_in base write (suc fuel) n) (digits-some base write fuel n) (digits-value kind base same by_base write back (suc fuel) n small)
  where
    go : (ds : List ℕ) → 0 < length ds → value_onto kind 0 ds ≡ n → counted_value kind ds ≡ n + 1
    go [] some is = absurd (omega (arith, some))
    go (d ∷ ds) some is = rw is refl

-- ## Base 10

pub divides10 : Divides 10
divides10 = record { joined = λ n. omega arith; rest = λ n. omega arith; fewer = λ n r less. omega (arith, less) }

pub back10 : (d : ℕ) → d < 10 → digit_value Length (decimal_digit d) ≡ d
back10 d less = omega arith

pub good10 : (d : ℕ) → d < 10 → is_digit_of Length (decimal_digit d) ≡ true
good10 d less = grind (arith, nat_tests)

abbrev Leads : List ℕ → Type 0
Leads [] = ⊥
Leads (c ∷ cs) = c ≢ 48

leads-append : (cs ds : List ℕ) → Leads cs → Leads (cs ++ ds)
leads-append [] ds h = absurd h
leads-append (c ∷ cs) ds h = h

-- a number that isn't 0 doesn't begin with 0
digits-lead : (fuel n : ℕ) → 0 < n → n < most_of 10 fuel → Leads (digits_in 10 decimal_digit fuel n)
digits-lead zero n some small = absurd (omega (arith, some, small))
digits-lead (suc fuel) n some small = go (nat_lt n 10) refl (digits-lead fuel (n / 10))
  where
    go : (b : Bool) → nat_lt n 10 ≡ b → (0 < n / 10 → n / 10 < most_of 10 fuel → Leads (digits_in 10 decimal_digit fuel (n / 10)))
        → Leads (elim b as (λ _. List ℕ) [
          | true ↦ decimal_digit n ∷ []
          | false ↦ digits_in 10 decimal_digit fuel (n / 10) ++
              (decimal_digit (n % 10) ∷ [])
        ])
    go true below high = λ is. omega (arith, some, is)
    go false above high =
        leads-append (digits_in 10 decimal_digit fuel (n / 10)) (decimal_digit (n % 10) ∷ [])
        (high (omega (arith, not-below n 10 above)) (divides10.fewer n (most_of 10 fuel) small))

leads-form : (ds : List ℕ) → Leads ds → length ds ≤ 9 → IsLengthForm ds
leads-form [] h few = absurd h
leads-form (d ∷ []) h few = tt
leads-form (d ∷ e ∷ ds) h few = (h, omega (arith, few))

-- the digits of a name's length have the form of a length
pub length-form : (n : ℕ) → n ≤ 999999999 → IsLengthForm (digits_in 10 decimal_digit 40 n)
length-form zero small = tt
length-form (suc n) small =
    leads-form (digits_in 10 decimal_digit 40 (suc n)) (digits-lead 40 (suc n) (omega arith) (omega (arith, small)))
    (digits-count 10 divides10 decimal_digit 40 8 (suc n) (omega (arith, small)))

pub length-digits : (n : ℕ) → AreDigits Length (digits_in 10 decimal_digit 40 n)
length-digits n = digits-all 10 divides10 decimal_digit (λ c. is_digit_of Length c ≡ true) good10 40 n

pub length-value : (n : ℕ) → n ≤ 999999999 → value_onto Length 0 (digits_in 10 decimal_digit 40 n) ≡ n
length-value n small = digits-value Length 10 refl divides10 decimal_digit back10 40 n (omega (arith, small))
