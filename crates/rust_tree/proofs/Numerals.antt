-- A number and its hexadecimal digits.
use Rattle.rust_tree.proofs.Basics.{◌≡◌, ℕ, zero, suc, ◌+◌, ◌-◌, ◌*◌, ◌/◌, ◌%◌, ◌<◌, ◌≤◌, List, [], ◌∷◌, ◌++◌, length, true, false, refl, ap, ◌∙◌, arith, append-nil, digit_glyph, ne_eqb, hexadecimal, hexadecimal_before, HasNoZero}
use Rattle.std.proofs.lemmas.Bool.Decides.{nat_tests}
use Rattle.sym_core.specs.Number.{is_digit_of, AreDigits}
use Rattle.sym_core.specs.Value.{digit_value, value_onto, value_of}
use Rattle.sym_core.specs.declared.NumberKind.TheVariants.{Hex}

-- reading and writing digits are inverse to each other
glyph-value : (b : ℕ) → is_digit_of Hex b ≡ true → digit_glyph false (digit_value Hex b) ≡ b
glyph-value b h = grind (arith, nat_tests)

value-glyph : (d : ℕ) → d < 16 → digit_value Hex (digit_glyph false d) ≡ d
value-glyph d h = grind (arith, nat_tests)

digit-small : (b : ℕ) → is_digit_of Hex b ≡ true → digit_value Hex b < 16
digit-small b h = grind (arith, nat_tests)

digit-some : (b : ℕ) → is_digit_of Hex b ≡ true → (b ≡ 48 → ⊥) → 0 < digit_value Hex b
digit-some b h some = grind (arith, nat_tests)

before-more : (k n : ℕ) (later : List ℕ) → 0 < n → hexadecimal_before (suc k) n later ≡ hexadecimal_before k (n / 16) (digit_glyph false (n % 16) ∷ later)
unfolding hexadecimal_before
before-more k n later h = rw (ne_eqb n 0 (λ e. omega (arith, e, h)), hexadecimal_before) refl

before-none : (k : ℕ) (later : List ℕ) → hexadecimal_before k 0 later ≡ later
unfolding hexadecimal_before
before-none zero later = refl
before-none (suc k) later = refl

-- the digits of a number are those of its front, if the front isn't zero, and then its other digits
digits-behind : (v : ℕ) (ds later : List ℕ) (k : ℕ) → 0 < v → AreDigits Hex ds
    → hexadecimal_before (k + length ds) (value_onto Hex v ds) later ≡ hexadecimal_before k v (ds ++ later)
digits-behind v [] later k some are = let none : k + 0 ≡ k = omega arith in ap (λ n. hexadecimal_before n v later) none
digits-behind v (d ∷ ds) later k some are =
    let small = digit-small d are.0 in
    let next : ℕ = v * 16 + digit_value Hex d in
    let count : k + length (d ∷ ds) ≡ suc k + length ds = omega arith in
    let front : next / 16 ≡ v = omega (arith, small) in
    let last : next % 16 ≡ digit_value Hex d = omega (arith, small) in
    ap (λ n. hexadecimal_before n (value_onto Hex next ds) later) count
    ∙ digits-behind next ds later (suc k) (omega (arith, some)) are.1
    ∙ before-more k next (ds ++ later) (omega (arith, some))
    ∙ ap (λ n. hexadecimal_before k n (digit_glyph false (next % 16) ∷ ds ++ later)) front
    ∙ ap (λ n. hexadecimal_before k v (digit_glyph false n ∷ ds ++ later)) last
    ∙ ap (λ b. hexadecimal_before k v (b ∷ ds ++ later)) (glyph-value d are.0)

-- a number is no smaller than the count of the digits after its first one
value-long : (v : ℕ) (ds : List ℕ) → 0 < v → v + length ds ≤ value_onto Hex v ds
value-long v [] some = omega arith
value-long v (d ∷ ds) some = omega (arith, value-long (v * 16 + digit_value Hex d) ds (omega (arith, some)))

-- digits without zeros in front are the digits of the number that they denote
pub digits-are : (ds : List ℕ) → AreDigits Hex ds → HasNoZero ds → hexadecimal (value_of Hex ds) ≡ ds
unfolding hexadecimal
digits-are [] are some = before-none 0 []
digits-are (d ∷ ds) are some =
    let v : ℕ = digit_value Hex d in
    let small = digit-small d are.0 in
    let more = digit-some d are.0 some in
    let whole : ℕ = value_onto Hex v ds in
    let k : ℕ = whole - suc (length ds) in
    let long = value-long v ds more in
    let count : whole ≡ suc k + length ds = omega (arith, long, more) in
    let start : 0 * 16 + v ≡ v = omega arith in
    ap (λ n. hexadecimal_before (value_onto Hex n ds) (value_onto Hex n ds) []) start
    ∙ ap (λ n. hexadecimal_before n whole []) count
    ∙ digits-behind v ds [] (suc k) more are.1
    ∙ before-more k v (ds ++ []) more
    ∙ ap (λ n. hexadecimal_before k n (digit_glyph false (v % 16) ∷ ds ++ [])) (let none : v / 16 ≡ 0 = omega (arith, small) in none)
    ∙ before-none k (digit_glyph false (v % 16) ∷ ds ++ [])
    ∙ ap (λ n. digit_glyph false n ∷ ds ++ []) (let same : v % 16 ≡ v = omega (arith, small) in same)
    ∙ ap (λ b. b ∷ ds ++ []) (glyph-value d are.0)
    ∙ ap (λ l. d ∷ l) (append-nil ds)

value-before : (k n : ℕ) (later : List ℕ) → n ≤ k → value_onto Hex 0 (hexadecimal_before k n later) ≡ value_onto Hex n later
value-before k zero later few = ap (value_onto Hex 0) (before-none k later)
value-before zero (suc n) later few = absurd (omega arith)
value-before (suc k) (suc n) later few =
    let m : ℕ = suc n in
    let less : m / 16 ≤ k = omega arith in
    let small : m % 16 < 16 = omega arith in
    let split : m / 16 * 16 + m % 16 ≡ m = omega arith in
    ap (value_onto Hex 0) (before-more k m later (omega arith))
    ∙ value-before k (m / 16) (digit_glyph false (m % 16) ∷ later) less
    ∙ ap (λ d. value_onto Hex (m / 16 * 16 + d) later) (value-glyph (m % 16) small)
    ∙ ap (λ v. value_onto Hex v later) split

-- the digits of a number denote it
pub value-hexadecimal : (n : ℕ) → value_of Hex (hexadecimal n) ≡ n
unfolding hexadecimal
value-hexadecimal n = value-before n n [] (omega arith)
