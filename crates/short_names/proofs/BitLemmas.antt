-- The places where `std::` may begin, as bits.
use Rattle.short_names.proofs.Basics.{◌≡◌, ◌<◌, ◌≤◌, ◌+◌, ◌-◌, ◌/◌, ◌%◌, ◌^◌, ℕ, true, false, cond, List, length, drop, get_or, map, sym, ap, ap₂, ◌∙◌, subst, arith, codes, shr-shr, lt_of_not-le, get_or-drop, w64, get_or-zip2, get_or-chunk, length-chunk, length-zip2, bit_mask_l, mask_l-mod, mask_l-lt, get_or-map, length-map, begins_std}
use Rattle.std.specs.Int.{bit_at, trailing_zeros}
use Rattle.std.proofs.lemmas.Nat.Bits.{bit_at-trailing_zeros, bit_at-zero, bit_at_above}
use Rattle.std.proofs.lemmas.Nat.{shr_le}
use lib.Lanes.{chunk, zip2, mask_l, top}
use Rattle.short_names.proofs.FrontLemmas.{front-byte, false-from}

-- a bit of a number is a bit of the number shifted right
pub bit_at-shr : (n s k : ℕ) → s ≤ k → bit_at n k ≡ bit_at (n / 2 ^ s) (k - s)
bit_at-shr n s k le =
    let on : k ≡ s + (k - s) = omega arith in
    ap (λ j. n / 2 ^ j % 2) on ∙ ap (λ m. m % 2) (sym (shr-shr n s (k - s)))

pub none-left : (n s k : ℕ) → s ≤ k → n / 2 ^ s ≡ 0 → bit_at n k ≡ 0
none-left n s k le none = bit_at-shr n s k le ∙ ap (λ m. bit_at m (k - s)) none ∙ bit_at-zero (k - s)

module _ (n s : ℕ) (some : 0 < n / 2 ^ s) (fits : n < 2 ^ 64) where
  lowest : (trailing_zeros w64 (n / 2 ^ s) < 64) × (bit_at (n / 2 ^ s) (trailing_zeros w64 (n / 2 ^ s)) ≡ 1) × ((i : ℕ) → i < trailing_zeros w64 (n / 2 ^ s) → bit_at (n / 2 ^ s) i ≡ 0)
  lowest = bit_at-trailing_zeros w64 (n / 2 ^ s) some (omega (arith, shr_le n s, fits))

  pub none-before : (k : ℕ) → s ≤ k → k < s + trailing_zeros w64 (n / 2 ^ s) → bit_at n k ≡ 0
  none-before k le lt = bit_at-shr n s k le ∙ lowest.2 (k - s) (omega (arith, le, lt))

  pub lowest-within : (count : ℕ) → n < 2 ^ count → s + trailing_zeros w64 (n / 2 ^ s) < count
  lowest-within count small =
      lt_of_not-le (λ above.
      let t = trailing_zeros w64 (n / 2 ^ s) in
      let on : s + t - s ≡ t = omega arith in
      let none = bit_at_above n count (s + t) small above in
      let one = bit_at-shr n s (s + t) (omega arith) ∙ ap (bit_at (n / 2 ^ s)) on ∙ lowest.1 in
      absurd (omega (arith, none, one)))

-- ## Lanes

-- the bits of lanes, each computed from the third and the fourth byte after a place
module _ (n : ℕ) (text : List ℕ) (at : ℕ) (room : at + 3 + n ≤ length text) (few : n ≤ 64)
    (h : ℕ → ℕ → ℕ) (f g : ℕ → ℕ) (a b : List ℕ) (thirds : a ≡ map f (chunk (at + 2) n text)) (fourths : b ≡ map g (chunk (at + 3) n text)) where
  long-a : length a ≡ n
  long-a = ap length thirds ∙ length-map (chunk (at + 2) n text) f ∙ length-chunk (at + 2) n text (omega (arith, room))

  long-b : length b ≡ n
  long-b = ap length fourths ∙ length-map (chunk (at + 3) n text) g ∙ length-chunk (at + 3) n text (omega (arith, room))

  long : length (map (top 7) (zip2 h a b)) ≡ n
  long = length-map (zip2 h a b) (top 7) ∙ length-zip2 h a b (long-a ∙ sym long-b) ∙ long-a

  lane : (k : ℕ) → k < n → get_or (map (top 7) (zip2 h a b)) k false ≡ top 7 (h (f (get_or text (at + 2 + k) 0)) (g (get_or text (at + 3 + k) 0)))
  lane k within =
      let one : get_or a k 0 ≡ f (get_or text (at + 2 + k) 0) =
      ap (λ l. get_or l k 0) thirds
      ∙ get_or-map f (chunk (at + 2) n text) k 0 0 (omega (arith, within, length-chunk (at + 2) n text (omega (arith, room))))
      ∙ ap f (get_or-chunk (at + 2) n text k 0 within) in
      let two : get_or b k 0 ≡ g (get_or text (at + 3 + k) 0) =
      ap (λ l. get_or l k 0) fourths
      ∙ get_or-map g (chunk (at + 3) n text) k 0 0 (omega (arith, within, length-chunk (at + 3) n text (omega (arith, room))))
      ∙ ap g (get_or-chunk (at + 3) n text k 0 within) in
      get_or-map (top 7) (zip2 h a b) k 0 false (omega (arith, within, long-a, length-zip2 h a b (long-a ∙ sym long-b)))
      ∙ ap (top 7) (get_or-zip2 h a b k 0 0 0 (omega (arith, within, long-a)) (omega (arith, within, long-b)) ∙ ap₂ h one two)

  std-byte : (k j : ℕ) → j < 5 → begins_std (drop (at + k) text) ≡ true → get_or text (at + k + j) 0 ≡ get_or (codes "std::") j 0
  std-byte k j within is = sym (get_or-drop (at + k) text j 0) ∙ front-byte (drop (at + k) text) (codes "std::") j is within

  pub none-set : top 7 (h (f 100) (g 58)) ≡ true → (k : ℕ) → k < n → bit_at (mask_l (map (top 7) (zip2 h a b)) % 2 ^ 64) k ≡ 0 → begins_std (drop (at + k) text) ≡ false
  none-set sets k within clear =
      false-from (begins_std (drop (at + k) text)) (λ is.
      let third : get_or text (at + 2 + k) 0 ≡ 100 = ap (λ j. get_or text j 0) (omega arith) ∙ std-byte k 2 (omega arith) is in
      let fourth : get_or text (at + 3 + k) 0 ≡ 58 = ap (λ j. get_or text j 0) (omega arith) ∙ std-byte k 3 (omega arith) is in
      let set : get_or (map (top 7) (zip2 h a b)) k false ≡ true = lane k within ∙ ap₂ (λ x y. top 7 (h (f x) (g y))) third fourth ∙ sets in
      let one : bit_at (mask_l (map (top 7) (zip2 h a b)) % 2 ^ 64) k ≡ 1 =
      ap (λ m. bit_at m k) (mask_l-mod (map (top 7) (zip2 h a b)) 64 (omega (arith, long, few)))
      ∙ bit_mask_l (map (top 7) (zip2 h a b)) k ∙ ap (λ t. cond t 1 0) set in
      absurd (omega (arith, clear, one)))

  pub few-set : mask_l (map (top 7) (zip2 h a b)) % 2 ^ 64 < 2 ^ n
  few-set =
      let short : mask_l (map (top 7) (zip2 h a b)) < 2 ^ n = subst (λ k. mask_l (map (top 7) (zip2 h a b)) < 2 ^ k) long (mask_l-lt (map (top 7) (zip2 h a b))) in
      subst (λ m. m < 2 ^ n) (sym (mask_l-mod (map (top 7) (zip2 h a b)) 64 (omega (arith, long, few)))) short
