-- The elements of a list in a text that ends with them.
use Rattle.std.proofs.Common.{◌≡◌, ◌≢◌, ◌<◌, ◌≤◌, ◌+◌, ◌-◌, zero, suc, ℕ, List, [], ◌∷◌, ◌++◌, length, take, drop, get_or, codes, refl, sym, ap, ◌∙◌, arith, length-append, append_assoc, append-nil, take_all, length-take}
use Rattle.short_names.proofs.Basics.{drop_more, take_at, drop_at, joined, element, starts_of, AreElements}

-- what comes before the element at a place
lead : ℕ → List (List ℕ) → List ℕ
lead zero elements = []
lead (suc k) [] = []
lead (suc k) (element ∷ elements) = element ++ codes ", " ++ lead k elements

-- what comes after the first element, by the elements that follow it
tail : List (List ℕ) → List ℕ
tail [] = []
tail (next ∷ elements) = codes ", " ++ joined (next ∷ elements)

joined-first : (first : List ℕ) (elements : List (List ℕ)) → joined (first ∷ elements) ≡ first ++ tail elements
unfolding joined tail
joined-first first [] = sym (append-nil first)
joined-first first (next ∷ elements) = append_assoc first (codes ", ") (joined (next ∷ elements))

pub length-starts : (from : ℕ) (elements : List (List ℕ)) → length (starts_of from elements) ≡ length elements
unfolding starts_of
length-starts from [] = refl
length-starts from (first ∷ elements) = ap suc (length-starts (from + length first + 2) elements)

lead-splits : (k : ℕ) (elements : List (List ℕ)) → k < length elements → joined elements ≡ lead k elements ++ joined (drop k elements)
unfolding joined lead
lead-splits zero elements within = refl
lead-splits (suc k) [] within = absurd (omega (arith, within))
lead-splits (suc k) (first ∷ []) within = absurd (omega (arith, within))
lead-splits (suc k) (first ∷ next ∷ elements) within =
    ap (λ t. first ++ codes ", " ++ t) (lead-splits k (next ∷ elements) (omega (arith, within)))
    ∙ sym (append_assoc (first ++ codes ", ") (lead k (next ∷ elements)) (joined (drop k (next ∷ elements))))

start-is : (from k : ℕ) (elements : List (List ℕ)) → k < length elements → get_or (starts_of from elements) k 0 ≡ from + length (lead k elements)
unfolding starts_of lead
start-is from k [] within = absurd (omega (arith, within))
start-is from zero (first ∷ elements) within = omega arith
start-is from (suc k) (first ∷ elements) within =
    omega (arith, start-is (from + length first + 2) k elements (omega (arith, within)), length-append (first ++ codes ", ") (lead k elements), length-append first (codes ", "))

take-more : (k : ℕ) (elements : List (List ℕ)) → k < length elements → joined (take (suc k) elements) ≡ lead k elements ++ get_or elements k []
unfolding joined lead
take-more k [] within = absurd (omega (arith, within))
take-more zero (first ∷ elements) within = refl
take-more (suc k) (first ∷ []) within = absurd (omega (arith, within))
take-more (suc k) (first ∷ next ∷ elements) within =
    ap (λ t. first ++ codes ", " ++ t) (take-more k (next ∷ elements) (omega (arith, within)))
    ∙ sym (append_assoc (first ++ codes ", ") (lead k (next ∷ elements)) (get_or (next ∷ elements) k []))

-- each element begins two bytes after the end of the element before it
lead-next : (k : ℕ) (elements : List (List ℕ)) → k < length elements → length (lead (suc k) elements) ≡ length (joined (take (suc k) elements)) + 2
unfolding lead
lead-next k [] within = absurd (omega (arith, within))
lead-next zero (first ∷ elements) within =
    omega (arith, length-append (first ++ codes ", ") [], length-append first (codes ", "), ap length (take-more zero (first ∷ elements) within))
lead-next (suc k) (first ∷ elements) within =
    omega (
      arith,
      lead-next k elements (omega (arith, within)),
      ap length (take-more k elements (omega (arith, within))),
      ap length (take-more (suc k) (first ∷ elements) within),
      length-append (first ++ codes ", ") (lead (suc k) elements),
      length-append (first ++ codes ", ") (lead k elements),
      length-append first (codes ", "),
      length-append (lead k elements) (get_or elements k []),
      length-append (lead (suc k) (first ∷ elements)) (get_or elements k []),
    )

-- the text of all elements: what comes before one of them, that one, and the rest
from-one : (k : ℕ) (elements : List (List ℕ)) → k < length elements → joined elements ≡ lead k elements ++ (get_or elements k [] ++ tail (drop (k + 1) elements))
from-one k elements within =
    lead-splits k elements within
    ∙ ap (λ t. lead k elements ++ t) (ap joined (drop_more elements k [] within) ∙ joined-first (get_or elements k []) (drop (k + 1) elements))

first-within : (k : ℕ) (elements : List (List ℕ)) → k < length elements → length (joined (take k elements)) ≤ length (lead k elements)
unfolding joined lead
first-within zero elements within = omega arith
first-within (suc k) elements within = omega (arith, lead-next k elements (omega (arith, within)))

-- the text before an element is shorter than the whole text by at least the length of that element
pub joined-before : (k : ℕ) (elements : List (List ℕ)) → k < length elements → length (joined (take k elements)) + length (get_or elements k []) ≤ length (joined elements)
joined-before k elements within =
    omega (
      arith,
      first-within k elements within,
      ap length (from-one k elements within),
      length-append (lead k elements) (get_or elements k [] ++ tail (drop (k + 1) elements)),
      length-append (get_or elements k []) (tail (drop (k + 1) elements)),
    )

take-front : (p q r : List ℕ) → take (length (p ++ q)) (p ++ r) ≡ p ++ take (length q) r
take-front [] q r = refl
take-front (x ∷ p) q r = ap (λ t. x ∷ t) (take-front p q r)

-- the text of the first elements is a front of the text of all elements
pub front-of-joined : (count : ℕ) (elements : List (List ℕ)) → take (length (joined (take count elements))) (joined elements) ≡ joined (take count elements)
unfolding joined
front-of-joined zero elements = refl
front-of-joined (suc count) [] = refl
front-of-joined (suc zero) (first ∷ elements) = ap (take (length first)) (joined-first first elements) ∙ take_at first (tail elements) (length first) refl
front-of-joined (suc (suc count)) (first ∷ []) = take_all (length first) first (omega arith)
front-of-joined (suc (suc count)) (first ∷ next ∷ elements) =
    take-front (first ++ codes ", ") (joined (next ∷ take count elements)) (joined (next ∷ elements))
    ∙ ap (λ t. first ++ codes ", " ++ t) (front-of-joined (suc count) (next ∷ elements))

-- the text of the first elements isn't longer than the text of all elements
pub joined-front : (count : ℕ) (elements : List (List ℕ)) → length (joined (take count elements)) ≤ length (joined elements)
joined-front count elements = omega (arith, ap length (front-of-joined count elements), length-take (length (joined (take count elements))) (joined elements))

module _ (text starts : List ℕ) (elements : List (List ℕ)) (e : AreElements text starts elements) where
  pub starts-length : length starts ≡ length elements
  starts-length = ap length e.starts_are ∙ length-starts (length e.before) elements

  pub start-zero : get_or starts 0 0 ≡ length e.before
  unfolding lead
  start-zero = ap (λ s. get_or s 0 0) e.starts_are ∙ start-is (length e.before) 0 elements e.some ∙ omega arith

  pub start-next : (k : ℕ) → suc k < length elements → get_or starts (suc k) 0 ≡ length e.before + length (joined (take (suc k) elements)) + 2
  start-next k within =
      omega (arith, ap (λ s. get_or s (suc k) 0) e.starts_are, start-is (length e.before) (suc k) elements within, lead-next k elements (omega (arith, within)))

  pub text-length : length text ≡ length e.before + length (joined elements)
  text-length = ap length e.text_is ∙ length-append e.before (joined elements)

  none-joined : (count : ℕ) → count ≡ 0 → length (joined (take count elements)) ≡ 0
  unfolding joined
  none-joined count none = ap (λ n. length (joined (take n elements))) none

  -- where the first elements end
  pub end-none : (count : ℕ) → count ≡ 0 → get_or starts 0 0 ≡ length e.before + length (joined (take count elements))
  end-none count none = omega (arith, start-zero, none-joined count none)

  pub end-next : (count : ℕ) → count ≢ 0 → count < length starts → (2 ≤ get_or starts count 0) × (get_or starts count 0 - 2 ≡ length e.before + length (joined (take count elements)))
  end-next zero some within = absurd (some refl)
  end-next (suc k) some within =
      let next = start-next k (omega (arith, within, starts-length)) in
      (omega (arith, next), omega (arith, next))

  pub end-all : (count : ℕ) → length starts ≤ count → length text ≡ length e.before + length (joined (take count elements))
  end-all count past = text-length ∙ ap (λ es. length e.before + length (joined es)) (sym (take_all count elements (omega (arith, past, starts-length))))

  pub first-end : (count : ℕ) → length (joined (take count elements)) ≤ length (joined elements)
  first-end count = omega (arith, ap length (front-of-joined count elements), length-take (length (joined (take count elements))) (joined elements))

  module _ (k : ℕ) (within : k < length starts) where
    inside : k < length elements
    inside = omega (arith, within, starts-length)

    start-at : get_or starts k 0 ≡ length e.before + length (lead k elements)
    start-at = ap (λ s. get_or s k 0) e.starts_are ∙ start-is (length e.before) k elements inside

    next-end : length (joined (take (k + 1) elements)) ≡ length (lead k elements) + length (get_or elements k [])
    next-end =
        let on : k + 1 ≡ suc k = omega arith in
        ap (λ n. length (joined (take n elements))) on ∙ ap length (take-more k elements inside) ∙ length-append (lead k elements) (get_or elements k [])

    from-start : drop (get_or starts k 0) text ≡ get_or elements k [] ++ tail (drop (k + 1) elements)
    from-start =
        let rest = get_or elements k [] ++ tail (drop (k + 1) elements) in
        ap (λ t. drop (get_or starts k 0) t) (e.text_is ∙ ap (λ t. e.before ++ t) (from-one k elements inside) ∙ sym (append_assoc e.before (lead k elements) rest))
        ∙ drop_at (e.before ++ lead k elements) rest (get_or starts k 0) (length-append e.before (lead k elements) ∙ sym start-at)

    -- an element lies between its start and the end of the elements up to it
    pub element-bounds : (get_or starts k 0 ≤ length e.before + length (joined (take (k + 1) elements))) × (length e.before + length (joined (take (k + 1) elements)) ≤ length text)
    element-bounds = (omega (arith, start-at, next-end), omega (arith, text-length, first-end (k + 1)))

    pub element-is : (end : ℕ) → end ≡ length e.before + length (joined (take (k + 1) elements)) → take (end - get_or starts k 0) (drop (get_or starts k 0) text) ≡ element elements k
    element-is end at =
        ap (take (end - get_or starts k 0)) from-start
        ∙ take_at (get_or elements k []) (tail (drop (k + 1) elements)) (end - get_or starts k 0) (omega (arith, at, start-at, next-end))

  -- the first elements, from where the first element begins
  pub first-are : (count end : ℕ) → end ≡ length e.before + length (joined (take count elements)) → take (end - get_or starts 0 0) (drop (get_or starts 0 0) text) ≡ joined (take count elements)
  first-are count end at =
      let long : end - get_or starts 0 0 ≡ length (joined (take count elements)) = omega (arith, at, start-zero) in
      ap (λ n. take n (drop (get_or starts 0 0) text)) long
      ∙ ap (take (length (joined (take count elements)))) (ap (λ t. drop (get_or starts 0 0) t) e.text_is ∙ drop_at e.before (joined elements) (get_or starts 0 0) (sym start-zero))
      ∙ front-of-joined count elements

  pub first-bounds : (count : ℕ) → (get_or starts 0 0 ≤ length e.before + length (joined (take count elements))) × (length e.before + length (joined (take count elements)) ≤ length text)
  first-bounds count = (omega (arith, start-zero), omega (arith, text-length, first-end count))
