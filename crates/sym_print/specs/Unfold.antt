-- What items of an unshared tree print. A language gives items, their parts, and a rank that falls from an item to its parts.
use Rattle.std.specs.Prelude.{ℕ, zero, suc, ◌<◌, ◌≡◌, List, [], ◌∷◌}
use Rattle.sym_print.specs.Unshared.{Unshared, done, bytes, item}
use Rattle.sym_print.specs.declared.layout.Item.{Item}
use Rattle.sym_print.specs.declared.layout.Part.{Part}
use Rattle.sym_print.specs.declared.layout.Part.TheVariants.{Sub}

-- one part of an item: a byte text, or another item
pub data PartOf (I : Type 0) : Type 0 where
  text : List ℕ → PartOf I
  sub : I → PartOf I

-- parts in order, where f says what an item prints
abbrev pub printed_parts : {I : Type 0} → (I → Unshared) → List (PartOf I) → Unshared
printed_parts f [] = done
printed_parts f (text b ∷ rest) = bytes b (printed_parts f rest)
printed_parts f (sub i ∷ rest) = item (f i) (printed_parts f rest)

-- the items among the parts have a rank below n
abbrev pub RanksBelow : {I : Type 0} → (I → ℕ) → ℕ → List (PartOf I) → Type 0
RanksBelow rank n [] = Unit {0}
RanksBelow rank n (text _ ∷ rest) = RanksBelow rank n rest
RanksBelow rank n (sub i ∷ rest) = (rank i < n) × RanksBelow rank n rest

module _ {I : Type 0} (parts_of : I → List (PartOf I)) where
  -- what an item prints, down to a depth
  unfoldable pub printed_to : ℕ → I → Unshared
  printed_to zero i = done
  printed_to (suc depth) i = printed_parts (printed_to depth) (parts_of i)

  -- what an item prints: a depth of its rank plus one is enough
  unfoldable pub printed : (I → ℕ) → I → Unshared
  printed rank i = printed_to (suc (rank i)) i

-- the code's parts are those of the unshared item: the same items and the same bytes, in the same order
abbrev pub AreParts : {C I : Type 0} → (Item C → I) → (Part C → List ℕ) → List (Part C) → List (PartOf I) → Type 0
AreParts item_of bytes_of [] [] = Unit {0}
AreParts item_of bytes_of (Sub i ∷ rest) (sub j ∷ others) = (item_of i ≡ j) × AreParts item_of bytes_of rest others
AreParts item_of bytes_of (Sub _ ∷ _) _ = ⊥
AreParts item_of bytes_of (part ∷ rest) (text b ∷ others) = (bytes_of part ≡ b) × AreParts item_of bytes_of rest others
AreParts item_of bytes_of _ _ = ⊥

-- parts are alike under a relation of items: the same texts, and items that are related, in the same order
abbrev pub AreAlike : {I J : Type 0} → (I → J → Type 0) → List (PartOf I) → List (PartOf J) → Type 0
AreAlike R [] [] = Unit {0}
AreAlike R (text b ∷ rest) (text c ∷ others) = (b ≡ c) × AreAlike R rest others
AreAlike R (sub i ∷ rest) (sub j ∷ others) = R i j × AreAlike R rest others
AreAlike R _ _ = ⊥
