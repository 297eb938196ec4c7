-- Bytes that are examined together: their mask says that none of sixteen is barred.
use Rattle.cpp_direct.proofs.Basics.{◌≡◌, ℕ, ◌+◌, ◌-◌, ◌%◌, ◌^◌, ◌<◌, ◌≤◌, Bool, true, false, not, ◌||◌, List, map, length, get_or, Fits, w8, refl, sym, ap, ◌∙◌, subst, arith, nat_lt, agree_below, agree_below_at, not-true, ltb-true, ltb-false, map-map, mask_l-mod, length-chunk, get_or-chunk, leading_from_mask_l, length-map, is_name_byte, ReachesNameBytes, NameClass}
use Rattle.std.proofs.lemmas.List.Sums.{prefix_len_passes}
use lib.Lanes.{chunk, mask_l, top}

module _ (q : ℕ → Bool) (d : List ℕ) (i : ℕ) (z : List ℕ) (f : ℕ → ℕ) (room : i + 16 ≤ length d)
    (fits : (k : ℕ) → Fits w8 (get_or d k 0)) (none : mask_l (map (top 7) z) % 2 ^ 64 ≡ 0) (lanes : z ≡ map f (chunk i 16 d)) where
  abbrev stops : ℕ → Bool
  stops x = top 7 (f x)

  long : length (chunk i 16 d) ≡ 16
  long = length-chunk i 16 d room

  unset : mask_l (map stops (chunk i 16 d)) ≡ 0
  unset =
      let v = chunk i 16 d in
      sym (ap (λ l. mask_l l % 2 ^ 64) (ap (map (top 7)) lanes ∙ map-map (top 7) f v) ∙ mask_l-mod (map stops v) 64 (omega (arith, length-map v stops, long))) ∙ none

  clear : (n : ℕ) → n < 16 → stops (get_or d (i + n) 0) ≡ false
  clear n to =
      subst (λ x. stops x ≡ false) (get_or-chunk i 16 d n 0 to)
      (not-true _ (prefix_len_passes (λ x. not (stops x)) (chunk i 16 d) n 0 (omega (arith, leading_from_mask_l stops (chunk i 16 d) unset, long, to))))

  -- if no lane is set, each byte passes, since a byte passes if its lane isn't set
  pub none_of : agree_below (λ x. stops x || q x) (λ _. true) 256 ≡ true → (k : ℕ) → i ≤ k → k < i + 16 → q (get_or d k 0) ≡ true
  none_of all k low high =
      let n = k - i in
      subst (λ m. q (get_or d m 0) ≡ true) (omega (arith, low))
      (sym (ap (λ b. b || q (get_or d (i + n) 0)) (clear n (omega (arith, low, high))))
      ∙ agree_below_at (λ x. stops x || q x) (λ _. true) 256 (get_or d (i + n) 0) all (fits (i + n)).fits)

-- if the bytes before a place may be in a name, and so may sixteen bytes that begin at this place or before it, then so
-- may all bytes up to the end of the sixteen
pub reached-on : (bytes : List ℕ) (at from : ℕ) → ReachesNameBytes NameClass.Cpp bytes at → from ≤ at
    → ((k : ℕ) → from ≤ k → k < from + 16 → is_name_byte NameClass.Cpp (get_or bytes k 0) ≡ true) → ReachesNameBytes NameClass.Cpp bytes (from + 16)
reached-on bytes at from before low more k less = go (nat_lt k at) refl
  where
    go : (d : Bool) → nat_lt k at ≡ d → is_name_byte NameClass.Cpp (get_or bytes k 0) ≡ true
    go true d = before k (ltb-true k at d)
    go false d = more k (omega (arith, low, ltb-false k at d)) less
