-- An item prints its parts, and the code's parts of the item print the same.
use Rattle.sym_print.proofs.Basics.{◌≡◌, ℕ, zero, suc, ◌<◌, List, [], ◌∷◌, refl, sym, ap, ◌∙◌, arith, Item, Part, Sub, Unshared, bytes, item, joined}
use Rattle.sym_print.specs.Unfold.{PartOf, text, sub, printed_parts, RanksBelow, printed_to, printed, AreParts, AreAlike}

-- parts print the same by any two functions that agree on items of a smaller rank
pub printed_parts-same : {I : Type 0} (rank : I → ℕ) (f h : I → Unshared) (n : ℕ) → ((i : I) → rank i < n → f i ≡ h i)
    → (parts : List (PartOf I)) → RanksBelow rank n parts → printed_parts f parts ≡ printed_parts h parts
printed_parts-same rank f h n same [] below = refl
printed_parts-same rank f h n same (text b ∷ rest) below = ap (bytes b) (printed_parts-same rank f h n same rest below)
printed_parts-same rank f h n same (sub i ∷ rest) below =
    ap (λ p. item p (printed_parts f rest)) (same i below.0) ∙ ap (item (h i)) (printed_parts-same rank f h n same rest below.1)

module _ {I : Type 0} (parts_of : I → List (PartOf I)) (rank : I → ℕ) (falls : (i : I) → RanksBelow rank (rank i) (parts_of i)) where
  -- any depth above the rank is enough
  pub printed_to-enough : (n m : ℕ) (i : I) → rank i < n → rank i < m → printed_to parts_of n i ≡ printed_to parts_of m i
  unfolding printed_to
  printed_to-enough zero m i p q = absurd (omega arith)
  printed_to-enough (suc n) zero i p q = absurd (omega arith)
  printed_to-enough (suc n) (suc m) i p q =
      printed_parts-same rank (printed_to parts_of n) (printed_to parts_of m) (rank i)
      (λ j below. printed_to-enough n m j (omega arith) (omega arith)) (parts_of i) (falls i)

  -- an item prints its parts, in order
  pub printed-parts : (i : I) → printed parts_of rank i ≡ printed_parts (printed parts_of rank) (parts_of i)
  unfolding printed printed_to
  printed-parts i =
      printed_parts-same rank (printed_to parts_of (rank i)) (printed parts_of rank) (rank i)
      (λ j below. printed_to-enough (rank i) (suc (rank j)) j below (omega arith)) (parts_of i) (falls i)

  module _ {C : Type 0} (item_of : Item C → I) (bytes_of : Part C → List ℕ) where
    -- the code's parts print what the unshared item's parts do
    pub joined-parts : (parts : List (Part C)) (others : List (PartOf I)) → AreParts item_of bytes_of parts others
        → joined (λ i. printed parts_of rank (item_of i)) bytes_of parts ≡ printed_parts (printed parts_of rank) others
    joined-parts [] [] same = refl
    joined-parts [] (_ ∷ _) same = elim same [ ]
    joined-parts (Sub i ∷ rest) (sub j ∷ others) same =
        ap (λ k. item (printed parts_of rank k) (joined (λ i. printed parts_of rank (item_of i)) bytes_of rest)) same.0
        ∙ ap (item (printed parts_of rank j)) (joined-parts rest others same.1)
    joined-parts (Sub i ∷ rest) [] same = elim same [ ]
    joined-parts (Sub i ∷ rest) (text b ∷ others) same = elim same [ ]
    joined-parts (part ∷ rest) [] same = elim same [ ]
    joined-parts (part ∷ rest) (sub j ∷ others) same = elim same [ ]
    joined-parts (part ∷ rest) (text b ∷ others) same =
        ap (λ c. bytes c (joined (λ i. printed parts_of rank (item_of i)) bytes_of rest)) same.0
        ∙ ap (bytes b) (joined-parts rest others same.1)

    -- a layout whose parts are those of the unshared item prints what the item does
    pub prints_the_same : (i : Item C) (parts : List (Part C)) → AreParts item_of bytes_of parts (parts_of (item_of i))
        → printed parts_of rank (item_of i) ≡ joined (λ j. printed parts_of rank (item_of j)) bytes_of parts
    prints_the_same i parts same = printed-parts (item_of i) ∙ sym (joined-parts parts (parts_of (item_of i)) same)

-- Items that are related, and whose parts are alike, print the same. So a closed tree prints the same in any context.
module _ {I J : Type 0} (R : I → J → Type 0) where
  alike_parts : (f : I → Unshared) (h : J → Unshared) (rank : I → ℕ) (rank2 : J → ℕ) (n m : ℕ) → ((i : I) (j : J) → rank i < n → rank2 j < m → R i j → f i ≡ h j)
      → (parts : List (PartOf I)) (others : List (PartOf J)) → RanksBelow rank n parts → RanksBelow rank2 m others → AreAlike R parts others → printed_parts f parts ≡ printed_parts h others
  alike_parts f h rank rank2 n m same [] [] p q alike = refl
  alike_parts f h rank rank2 n m same (text b ∷ rest) (text c ∷ others) p q alike =
      ap (λ d. bytes d (printed_parts f rest)) alike.0 ∙ ap (bytes c) (alike_parts f h rank rank2 n m same rest others p q alike.1)
  alike_parts f h rank rank2 n m same (sub i ∷ rest) (sub j ∷ others) p q alike =
      ap (λ u. item u (printed_parts f rest)) (same i j p.0 q.0 alike.0) ∙ ap (item (h j)) (alike_parts f h rank rank2 n m same rest others p.1 q.1 alike.1)
  alike_parts f h rank rank2 n m same [] (text _ ∷ _) p q alike = elim alike [ ]
  alike_parts f h rank rank2 n m same [] (sub _ ∷ _) p q alike = elim alike [ ]
  alike_parts f h rank rank2 n m same (text _ ∷ _) [] p q alike = elim alike [ ]
  alike_parts f h rank rank2 n m same (sub _ ∷ _) [] p q alike = elim alike [ ]
  alike_parts f h rank rank2 n m same (text _ ∷ _) (sub _ ∷ _) p q alike = elim alike [ ]
  alike_parts f h rank rank2 n m same (sub _ ∷ _) (text _ ∷ _) p q alike = elim alike [ ]

  module _ (parts_of : I → List (PartOf I)) (rank : I → ℕ) (falls : (i : I) → RanksBelow rank (rank i) (parts_of i))
      (parts_of2 : J → List (PartOf J)) (rank2 : J → ℕ) (falls2 : (j : J) → RanksBelow rank2 (rank2 j) (parts_of2 j))
      (alike : (i : I) (j : J) → R i j → AreAlike R (parts_of i) (parts_of2 j)) where
    alike_to : (n m : ℕ) (i : I) (j : J) → rank i < n → rank2 j < m → R i j → printed_to parts_of n i ≡ printed_to parts_of2 m j
    unfolding printed_to
    alike_to zero m i j p q r = absurd (omega arith)
    alike_to (suc n) zero i j p q r = absurd (omega arith)
    alike_to (suc n) (suc m) i j p q r =
        alike_parts (printed_to parts_of n) (printed_to parts_of2 m) rank rank2 (rank i) (rank2 j)
        (λ a b below below2 related. alike_to n m a b (omega arith) (omega arith) related) (parts_of i) (parts_of2 j) (falls i) (falls2 j) (alike i j r)

    pub alike-prints : (i : I) (j : J) → R i j → printed parts_of rank i ≡ printed parts_of2 rank2 j
    unfolding printed
    alike-prints i j r = alike_to (suc (rank i)) (suc (rank2 j)) i j (omega arith) (omega arith) r
