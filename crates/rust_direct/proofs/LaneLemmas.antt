-- How the mask of sixteen bytes gives the bytes at their front that pass a test, and runs of bytes that pass it.
use Rattle.rust_direct.proofs.Basics.{◌≡◌, ℕ, ◌+◌, ◌-◌, ◌%◌, ◌^◌, ◌<◌, ◌≤◌, ◌⊎◌, zero, suc, Bool, true, false, not, ◌||◌, List, [], ◌∷◌, map, length, take, drop, get_or, replicate, Fits, w8, refl, sym, ap, ap₂, ◌∙◌, subst, arith, inl, inr, agree_below, agree_below_at, not-true, cases_eq, eq-eqb, ne_eqb, cond-true, cond-false, map-map, mask_l-mod, length-chunk, get_or-chunk, leading_from_mask_l, trailing_mask_l, length-map, get_or-take, get_or-drop, prefix_len, first_set, EachPasses}
use Rattle.std.proofs.lemmas.List.Sums.{prefix_len-le-length, prefix_len_passes}
use lib.Lanes.{chunk, zip2, mask_l, top}

zip2-map : (h : ℕ → ℕ → ℕ) (f g : ℕ → ℕ) (xs : List ℕ) → zip2 h (map f xs) (map g xs) ≡ map (λ x. h (f x) (g x)) xs
zip2-map h f g [] = refl
zip2-map h f g (x ∷ xs) = ap (λ r. h (f x) (g x) ∷ r) (zip2-map h f g xs)

-- an operation on two vectors, each computed lane by lane from v
pub joined : (h : ℕ → ℕ → ℕ) (f g : ℕ → ℕ) (v : List ℕ) {a b : List ℕ} → a ≡ map f v → b ≡ map g v → zip2 h a b ≡ map (λ x. h (f x) (g x)) v
joined h f g v p q = ap₂ (zip2 h) p q ∙ zip2-map h f g v

pub splat_is : (v : List ℕ) (n y : ℕ) → length v ≡ n → replicate n y ≡ map (λ _. y) v
splat_is [] n y e = ap (λ k. replicate k y) (sym e)
splat_is (x ∷ xs) n y e = ap (λ k. replicate k y) (sym e) ∙ ap (λ r. y ∷ r) (splat_is xs (length xs) y refl)

front_is : (p : ℕ → Bool) (v : List ℕ) → length v ≡ 16 → first_set (mask_l (map p v)) ≡ prefix_len (λ x. not (p x)) v
front_is p v long =
    elim (cases_eq (mask_l (map p v)) 0) [
      | inl none ↦ cond-true _ _ _ (eq-eqb _ _ none) ∙ sym (leading_from_mask_l p v none ∙ long)
      | inr some ↦ cond-false _ _ _ (ne_eqb _ _ some) ∙ trailing_mask_l p 64 v (omega (arith, long)) (omega arith)
    ]

module _ (q : ℕ → Bool) (d : List ℕ) (i r : ℕ) (z : List ℕ) (room : i + 16 ≤ length d)
    (fits : (k : ℕ) → Fits w8 (get_or d k 0)) (found : r ≡ first_set (mask_l (map (top 7) z) % 2 ^ 64))
    (f : ℕ → ℕ) (lanes : z ≡ map f (chunk i 16 d)) where
  abbrev stops : ℕ → Bool
  stops x = top 7 (f x)

  long : length (chunk i 16 d) ≡ 16
  long = length-chunk i 16 d room

  counted : r ≡ prefix_len (λ x. not (stops x)) (chunk i 16 d)
  counted =
      let v = chunk i 16 d in
      let mask = ap (λ l. mask_l l % 2 ^ 64) (ap (map (top 7)) lanes ∙ map-map (top 7) f v) ∙ mask_l-mod (map stops v) 64 (omega (arith, length-map v stops, long)) in
      found ∙ ap first_set mask ∙ front_is stops v long

  front-within : r ≤ 16
  front-within = omega (arith, counted, long, prefix_len-le-length (λ x. not (stops x)) (chunk i 16 d))

  goes-on : (k : ℕ) → k < r → stops (get_or d (i + k) 0) ≡ false
  goes-on k to =
      subst (λ x. stops x ≡ false) (get_or-chunk i 16 d k 0 (omega (arith, front-within)))
      (not-true _ (prefix_len_passes (λ x. not (stops x)) (chunk i 16 d) k 0 (omega (arith, counted))))

  -- each byte of the front passes the test, since no lane of the front stops
  pub front-passes : agree_below (λ x. stops x || q x) (λ _. true) 256 ≡ true → (r ≤ 16) × EachPasses q d i r
  front-passes all = (
    front-within,
    λ k short.
        sym (ap (λ b. b || q (get_or d (i + k) 0)) (goes-on k short)) ∙ agree_below_at (λ x. stops x || q x) (λ _. true) 256 (get_or d (i + k) 0) all (fits (i + k)).fits,
  )

pub lt-or-le : (m n : ℕ) → (m < n) ⊎ (n ≤ m)
lt-or-le zero zero = inr (omega arith)
lt-or-le zero (suc n) = inl (omega arith)
lt-or-le (suc m) zero = inr (omega arith)
lt-or-le (suc m) (suc n) = elim (lt-or-le m n) [ inl h ↦ inl (omega (arith, h)) | inr h ↦ inr (omega (arith, h)) ]

-- if the bytes up to `at` pass, and those from there to `to` pass, all of them pass
pub pass-on : (q : ℕ → Bool) (s : List ℕ) (from at to : ℕ) → from ≤ at → at ≤ to → EachPasses q s from (at - from) → EachPasses q s at (to - at)
    → EachPasses q s from (to - from)
pass-on q s from at to low high front rest k less =
    elim (lt-or-le k (at - from)) [
      | inl before ↦ front k before
      | inr after ↦ subst (λ n. q (get_or s n 0) ≡ true) (moved from at k low after) (rest (k - (at - from)) (omega (arith, low, high, after, less)))
    ]
  where
    moved : (from at k : ℕ) → from ≤ at → at - from ≤ k → at + (k - (at - from)) ≡ from + k
    moved from at k low after = omega (arith, low, after)

-- if the bytes up to `at` pass, and the sixteen bytes from there on pass, all of them pass
pub lanes-on : (q : ℕ → Bool) (s : List ℕ) (from at : ℕ) → from ≤ at → EachPasses q s from (at - from) → EachPasses q s at 16 → EachPasses q s from (at + 16 - from)
lanes-on q s from at low front lanes = pass-on q s from at (at + 16) low (omega arith) front (λ k less. lanes k (omega (arith, less)))

-- if sixteen bytes pass, so does each stretch at their end
pub last-pass : (q : ℕ → Bool) (s : List ℕ) (at to : ℕ) → at ≤ to → to - at ≤ 16 → 16 ≤ to → EachPasses q s (to - 16) 16 → EachPasses q s at (to - at)
last-pass q s at to low few enough each k less =
    subst (λ n. q (get_or s n 0) ≡ true) (moved at to k low few enough) (each (k + 16 - (to - at)) (omega (arith, less, few)))
  where
    moved : (at to k : ℕ) → at ≤ to → to - at ≤ 16 → 16 ≤ to → to - 16 + (k + 16 - (to - at)) ≡ at + k
    moved at to k low few enough = omega (arith, low, few, enough)

-- a byte of a piece is a byte of the whole
pub piece-byte : (s : List ℕ) (at size k : ℕ) → k < size → get_or (take size (drop at s)) k 0 ≡ get_or s (at + k) 0
piece-byte s at size k less = get_or-take size (drop at s) k 0 less ∙ get_or-drop at s k 0

-- each byte of a piece passes
pub piece-pass : (q : ℕ → Bool) (s : List ℕ) (at size : ℕ) → EachPasses q s at size → (k : ℕ) → k < size → q (get_or (take size (drop at s)) k 0) ≡ true
piece-pass q s at size each k less = subst (λ b. q b ≡ true) (sym (piece-byte s at size k less)) (each k less)

-- each byte of the whole that is in a piece passes, if each byte of the piece does
pub whole-pass : (q : ℕ → Bool) (s : List ℕ) (at size : ℕ) → ((k : ℕ) → k < size → q (get_or (take size (drop at s)) k 0) ≡ true) → EachPasses q s at size
whole-pass q s at size each k less = subst (λ b. q b ≡ true) (piece-byte s at size k less) (each k less)
