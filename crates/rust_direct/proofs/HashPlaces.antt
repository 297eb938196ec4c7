-- Where numbers of at most eleven digits are.
use Rattle.rust_direct.proofs.Basics.{◌≡◌, ◌≢◌, ℕ, ◌+◌, ◌-◌, ◌*◌, ◌^◌, ◌≤◌, ◌<◌, suc, List, [], ◌∷◌, ◌++◌, length, take, drop, get_or, true, refl, ap, sym, subst, ◌∙◌, arith, add-zero, inl, inr, length-append, length-drop, length-take-le, take-append-drop, nat_tests, Base62, is_digit_of, AreDigits, greatest_u64, StandsAt, stands-join, IsNumberAt, IsSmallNumberAt, HasDisambiguator, EachPasses}
use Rattle.std.proofs.Math.Nat.{pow-zero, pow-suc, mul_assoc, mul_comm, mul-le-mul_right, pow-le-pow_right}
use Rattle.sym_core.specs.Value.{digit_value, value_onto, counted_value}
use Rattle.rust_direct.proofs.LaneLemmas.{lt-or-le, piece-byte, piece-pass}

digit-small : (b : ℕ) → is_digit_of Base62 b ≡ true → digit_value Base62 b < 62
digit-small b h = grind (arith, nat_tests)

-- n digits denote less than 62 to the power of n
below : (v : ℕ) (ds : List ℕ) → AreDigits Base62 ds → value_onto Base62 v ds < (v + 1) * 62 ^ length ds
below v [] are = rw (pow-zero 62) (omega arith)
below v (d ∷ ds) are =
    let small = digit-small d are.0 in
    let later = below (v * 62 + digit_value Base62 d) ds are.1 in
    let one : (v * 62 + digit_value Base62 d + 1) * 62 ^ length ds ≤ (v + 1) * 62 * 62 ^ length ds = mul-le-mul_right (62 ^ length ds) (omega (arith, small)) in
    let same : (v + 1) * 62 * 62 ^ length ds ≡ (v + 1) * 62 ^ suc (length ds) = mul_assoc (v + 1) 62 (62 ^ length ds) ∙ ap (λ p. (v + 1) * p) (mul_comm 62 (62 ^ length ds) ∙ sym (pow-suc 62 (length ds))) in
    omega (arith, later, one, same)

-- a digit other than Y and Z is at most 59
digit-lower : (b : ℕ) → is_digit_of Base62 b ≡ true → b ≢ 89 → b ≢ 90 → digit_value Base62 b ≤ 59
digit-lower b h y z = grind (arith, nat_tests)

all-digits : (ds : List ℕ) → ((k : ℕ) → k < length ds → is_digit_of Base62 (get_or ds k 0) ≡ true) → AreDigits Base62 ds
all-digits [] h = tt
all-digits (d ∷ ds) h = (h 0 (omega arith), all-digits ds (λ k less. h (suc k) (omega (arith, less))))

-- the first two of eleven digits of a small number have at most the value 1361
low-pair : (d e : ℕ) → is_digit_of Base62 e ≡ true → digit_value Base62 d ≤ 21 → (digit_value Base62 d ≡ 21 → (e ≢ 89) × (e ≢ 90))
    → digit_value Base62 d * 62 + digit_value Base62 e ≤ 1361
low-pair d e is low second =
    elim (lt-or-le (digit_value Base62 d) 21) [
      | inl less ↦ omega (arith, less, digit-small e is)
      | inr most ↦
          let same : digit_value Base62 d ≡ 21 = omega (arith, low, most) in
          omega (arith, same, digit-lower e is (second same).0 (second same).1)
    ]

-- up to eleven digits denote less than the greatest number of 64 bits, if the first two of eleven are small
counted-small : (ds : List ℕ) → length ds ≤ 11 → AreDigits Base62 ds → (length ds ≡ 11 → digit_value Base62 (get_or ds 0 0) ≤ 21)
    → (length ds ≡ 11 → digit_value Base62 (get_or ds 0 0) ≡ 21 → (get_or ds 1 0 ≢ 89) × (get_or ds 1 0 ≢ 90))
    → counted_value Base62 ds + 1 ≤ greatest_u64
counted-small [] few are first second = omega arith
counted-small (d ∷ []) few are first second = omega (arith, digit-small d are.0)
counted-small (d ∷ e ∷ ds) few are first second = elim (lt-or-le (length ds) 9) [ inl h ↦ short h | inr h ↦ long (omega (arith, few, h)) ]
  where
    pair : ℕ
    pair = (0 * 62 + digit_value Base62 d) * 62 + digit_value Base62 e

    less : value_onto Base62 pair ds < (pair + 1) * 62 ^ length ds
    less = below pair ds are.1.1

    short : length ds < 9 → counted_value Base62 (d ∷ e ∷ ds) + 1 ≤ greatest_u64
    short h =
        let most : (pair + 1) * 62 ^ length ds ≤ 3844 * 62 ^ length ds = mul-le-mul_right (62 ^ length ds) (omega (arith, digit-small d are.0, digit-small e are.1.0)) in
        let small : length ds ≤ 8 = omega (arith, h) in
        let eight : 62 ^ length ds ≤ 62 ^ 8 = pow-le-pow_right {n = 62} (omega arith) small in
        omega (arith, less, most, eight)

    long : length ds ≡ 9 → counted_value Base62 (d ∷ e ∷ ds) + 1 ≤ greatest_u64
    long nine =
        let all : length (d ∷ e ∷ ds) ≡ 11 = omega (arith, nine) in
        let most : (pair + 1) * 62 ^ length ds ≤ 1362 * 62 ^ length ds =
        mul-le-mul_right (62 ^ length ds) (omega (arith, low-pair d e are.1.0 (first all) (second all))) in
        omega (arith, less, most, ap (λ n. 62 ^ n) nine)

-- digits and the mark after them are a number
pub number-found : (s : List ℕ) (at : ℕ) (own : List ℕ) → own ≡ take (length own) (drop at s) → AreDigits Base62 own → length own ≤ 11
    → StandsAt s (at + length own) (95 ∷ []) → IsNumberAt s at (counted_value Base62 own) (at + length own + 1)
number-found s at own own_is are few mark = record {
  token = record { before = []; own = own; behind = 95 ∷ [] };
  is_number = record { bare = refl; digits = (are, few); ends = refl };
  counts = refl;
  stands = stands-join s at own (95 ∷ []) (drop (length own) (drop at s), there) mark;
  ends = omega (arith, length-append own (95 ∷ []));
}
  where
    there : drop at s ≡ own ++ drop (length own) (drop at s)
    there = sym (take-append-drop (length own) (drop at s)) ∙ ap (λ l. l ++ drop (length own) (drop at s)) (sym own_is)

-- up to eleven digits and the mark after them are a number
pub hash-found : (s : List ℕ) (at count : ℕ) → at ≤ length s → 16 ≤ length s - at → count ≤ 11
    → (count ≡ 11 → digit_value Base62 (get_or s at 0) ≤ 21)
    → (count ≡ 11 → digit_value Base62 (get_or s at 0) ≡ 21 → (get_or s (at + 1) 0 ≢ 89) × (get_or s (at + 1) 0 ≢ 90))
    → EachPasses (is_digit_of Base62) s at count → StandsAt s (at + count) (95 ∷ []) → IsSmallNumberAt s at (at + count + 1)
hash-found s at count within long few first second each mark = (
  counted_value Base62 own,
  subst (λ n. IsNumberAt s at (counted_value Base62 own) (at + n + 1)) size
      (number-found s at own (ap (λ n. take n (drop at s)) (sym size)) are (omega (arith, size, few)) (subst (λ n. StandsAt s (at + n) (95 ∷ [])) (sym size) mark)),
  counted-small own (omega (arith, size, few)) are
      (λ all. subst (λ b. digit_value Base62 b ≤ 21) (same-0 (eleven all)) (first (eleven all)))
      (λ all is. subst (λ b. (b ≢ 89) × (b ≢ 90)) (same-1 (eleven all)) (second (eleven all) (ap (λ b. digit_value Base62 b) (same-0 (eleven all)) ∙ is))),
)
  where
    own : List ℕ
    own = take count (drop at s)

    size : length own ≡ count
    size = length-take-le count (drop at s) (omega (arith, few, long, length-drop at s))

    eleven : length own ≡ 11 → count ≡ 11
    eleven all = omega (arith, size, all)

    same-0 : count ≡ 11 → get_or s at 0 ≡ get_or own 0 0
    same-0 all = sym (piece-byte s at count 0 (omega (arith, all)) ∙ ap (λ n. get_or s n 0) (add-zero at))

    same-1 : count ≡ 11 → get_or s (at + 1) 0 ≡ get_or own 1 0
    same-1 all = sym (piece-byte s at count 1 (omega (arith, all)))

    are : AreDigits Base62 own
    are = all-digits own (λ k less. piece-pass (is_digit_of Base62) s at count each k (omega (arith, size, less)))

-- the digits between two places and the mark after them are a number
pub digits-found : (s : List ℕ) (at mark value : ℕ) (own : List ℕ) → at ≤ mark → mark ≤ length s → mark - at ≤ 11 → own ≡ take (mark - at) (drop at s)
    → AreDigits Base62 own → value ≡ counted_value Base62 own → StandsAt s mark (95 ∷ []) → IsNumberAt s at value (mark + 1)
digits-found s at mark value own low within few own_is are counts stands =
    let size : length own ≡ mark - at = ap length own_is ∙ length-take-le (mark - at) (drop at s) (omega (arith, low, within, length-drop at s)) in
    let end : at + length own ≡ mark = omega (arith, size, low) in
    subst (λ v. IsNumberAt s at v (mark + 1)) (sym counts)
    (subst (λ m. IsNumberAt s at (counted_value Base62 own) (m + 1)) end
    (number-found s at own (own_is ∙ ap (λ n. take n (drop at s)) (sym size)) are (omega (arith, size, few)) (subst (λ m. StandsAt s m (95 ∷ [])) (sym end) stands)))

-- a disambiguator whose number is small
pub hash-disambiguator : (s : List ℕ) (at behind end : ℕ) → StandsAt s at (115 ∷ []) → behind ≡ at + 1 → IsSmallNumberAt s behind end → HasDisambiguator s at end
hash-disambiguator s at behind end letter behind_is small =
    (small.0 + 1, inr (small.0, letter, subst (λ k. IsNumberAt s k small.0 end) behind_is small.1, refl, small.2))
