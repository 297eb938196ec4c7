-- From the mask of sixteen bytes to the bytes of a class at the front.
use Rattle.short_names.proofs.Basics.{◌≡◌, ℕ, ◌+◌, ◌%◌, ◌^◌, ◌<◌, ◌≤◌, Bool, true, false, not, ◌||◌, List, [], ◌∷◌, map, length, take, drop, get_or, replicate, Fits, w8, refl, sym, ap, ap₂, ◌∙◌, subst, arith, inl, inr, map-map, mask_l-mod, length-chunk, get_or-chunk, leading_from_mask_l, trailing_mask_l, take-add, prefix_len, list_all, first_set}
use Rattle.std.proofs.lemmas.Bool.{agree_below, agree_below_at, and_from, not-true, cases_eq, eq-eqb, ne_eqb, cond-true, cond-false}
use Rattle.std.proofs.lemmas.List.{length-map, length-take, get_or-take, get_or-drop}
use Rattle.std.proofs.lemmas.List.Sums.{list_all-from_AllPass, prefix_len-le-length, prefix_len_passes}
use Rattle.std.proofs.lemmas.List.Elements.{All-from_get_or}
use Rattle.std.proofs.lemmas.List.Folds.{list_all-append}
use lib.Lanes.{chunk, zip2, mask_l, top}

zip2-map : (h : ℕ → ℕ → ℕ) (f g : ℕ → ℕ) (xs : List ℕ) → zip2 h (map f xs) (map g xs) ≡ map (λ x. h (f x) (g x)) xs
zip2-map h f g [] = refl
zip2-map h f g (x ∷ xs) = ap (λ r. h (f x) (g x) ∷ r) (zip2-map h f g xs)

-- an operation on two vectors that were computed lane by lane from v
pub joined : (h : ℕ → ℕ → ℕ) (f g : ℕ → ℕ) (v : List ℕ) {a b : List ℕ} → a ≡ map f v → b ≡ map g v → zip2 h a b ≡ map (λ x. h (f x) (g x)) v
joined h f g v p q = ap₂ (zip2 h) p q ∙ zip2-map h f g v

pub splat_is : (v : List ℕ) (n y : ℕ) → length v ≡ n → replicate n y ≡ map (λ _. y) v
splat_is [] n y e = ap (λ k. replicate k y) (sym e)
splat_is (x ∷ xs) n y e = ap (λ k. replicate k y) (sym e) ∙ ap (λ r. y ∷ r) (splat_is xs (length xs) y refl)

front_is : (p : ℕ → Bool) (v : List ℕ) → length v ≡ 16 → first_set (mask_l (map p v)) ≡ prefix_len (λ x. not (p x)) v
front_is p v long =
    elim (cases_eq (mask_l (map p v)) 0) [
      | inl none ↦ cond-true _ _ _ (eq-eqb _ _ none) ∙ sym (leading_from_mask_l p v none ∙ long)
      | inr some ↦ cond-false _ _ _ (ne_eqb _ _ some) ∙ trailing_mask_l p 64 v (omega (arith, long)) (omega arith)
    ]

module _ (q : ℕ → Bool) (d : List ℕ) (i r : ℕ) (z : List ℕ) (room : i + 16 ≤ length d)
    (fits : (k : ℕ) → Fits w8 (get_or d k 0)) (found : r ≡ first_set (mask_l (map (top 7) z) % 2 ^ 64))
    (f : ℕ → ℕ) (lanes : z ≡ map f (chunk i 16 d)) where
  abbrev stops : ℕ → Bool
  stops x = top 7 (f x)

  long : length (chunk i 16 d) ≡ 16
  long = length-chunk i 16 d room

  counted : r ≡ prefix_len (λ x. not (stops x)) (chunk i 16 d)
  counted =
      let v = chunk i 16 d in
      let mask = ap (λ l. mask_l l % 2 ^ 64) (ap (map (top 7)) lanes ∙ map-map (top 7) f v) ∙ mask_l-mod (map stops v) 64 (omega (arith, length-map v stops, long)) in
      found ∙ ap first_set mask ∙ front_is stops v long

  front-within : r ≤ 16
  front-within = omega (arith, counted, long, prefix_len-le-length (λ x. not (stops x)) (chunk i 16 d))

  goes_on : (k : ℕ) → k < r → stops (get_or d (i + k) 0) ≡ false
  goes_on k to =
      subst (λ x. stops x ≡ false) (get_or-chunk i 16 d k 0 (omega (arith, front-within)))
      (not-true _ (prefix_len_passes (λ x. not (stops x)) (chunk i 16 d) k 0 (omega (arith, counted))))

  -- each byte of the front, at which no lane stops, passes q
  front-passes : agree_below (λ x. stops x || q x) (λ _. true) 256 ≡ true → list_all q (take r (drop i d)) ≡ true
  front-passes all =
      list_all-from_AllPass q (take r (drop i d)) (All-from_get_or (λ x. q x ≡ true) (take r (drop i d)) 0 (λ k inside.
      let short : k < r = omega (arith, inside, length-take r (drop i d)) in
      let at : get_or d (i + k) 0 ≡ get_or (take r (drop i d)) k 0 = sym (get_or-take r (drop i d) k 0 short ∙ get_or-drop i d k 0) in
      subst (λ x. q x ≡ true) at
      (sym (ap (λ b. b || q (get_or d (i + k) 0)) (goes_on k short)) ∙ agree_below_at (λ x. stops x || q x) (λ _. true) 256 (get_or d (i + k) 0) all (fits (i + k)).fits)))

  pub front_is_of : agree_below (λ x. stops x || q x) (λ _. true) 256 ≡ true → (r ≤ 16) × (list_all q (take r (drop i d)) ≡ true)
  front_is_of all = (front-within, front-passes all)

-- a front passes, and so do some bytes after it
pub all-longer : (q : ℕ → Bool) (text : List ℕ) (i r : ℕ) → list_all q (take i text) ≡ true → list_all q (take r (drop i text)) ≡ true → list_all q (take (i + r) text) ≡ true
all-longer q text i r front more = ap (list_all q) (take-add i r text) ∙ list_all-append q (take i text) (take r (drop i text)) ∙ and_from _ _ front more
