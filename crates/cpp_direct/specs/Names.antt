-- Names: what is read of their length, and where their own bytes are. Operators: where their codes are, and their names.
use Rattle.std.specs.Prelude.{◌≡◌, ◌≢◌, ℕ, ◌+◌, ◌-◌, ◌≤◌, ◌<◌, List, [], ◌∷◌, ◌++◌, ◌||◌, ◌⊎◌, length, take, drop, Bool, true, codes}
use Rattle.sym_core.specs.declared.NumberKind.TheVariants.{Length}
use Rattle.sym_core.specs.declared.NameClass.TheVariants.{Cpp}
use Rattle.sym_core.specs.Number.{AreDigitsOf, FitsSymbol}
use Rattle.sym_core.specs.Scan.{ReachesNameBytes}
use Rattle.sym_core.specs.Value.{value_of}
use Rattle.cpp_grammar.specs.Texts.{look_up, operator_texts, same_bytes}
use Rattle.cpp_direct.specs.declared.names.NamePlace.{NamePlace}
use Rattle.cpp_direct.specs.Holes.{StandsAt, IsNameAt}

-- A symbol that isn't too long to be read, and whose bytes may all be in a name.
pub record IsReadable (s : List ℕ) : Type 0 where
  pub fits : FitsSymbol s
  pub plain : ReachesNameBytes Cpp s (length s)

-- The length of a name is at the place: it is `size`, and the name's own bytes would begin at `from`.
pub record IsLengthRead (s : List ℕ) (at from size : ℕ) : Type 0 where
  pub digits : List ℕ
  pub are_digits : AreDigitsOf Length digits
  pub stands : StandsAt s at digits
  pub from_is : from ≡ at + length digits
  pub size_is : size ≡ value_of Length digits
  pub some : 0 < size

-- The code of an operator is at the place, and `end` is the place after it.
pub record IsOperatorAt (s : List ℕ) (at : ℕ) (first second : ℕ) (end : ℕ) : Type 0 where
  pub known : look_up (first ∷ second ∷ []) operator_texts ≢ []
  pub stands : StandsAt s at (first ∷ second ∷ [])
  pub ends : end ≡ at + 2

-- the code is that of << or <
abbrev pub is_angle : (first second : ℕ) → Bool
is_angle first second = same_bytes (first ∷ second ∷ []) (codes "ls") || same_bytes (first ∷ second ∷ []) (codes "lt")

-- the name of an operator
abbrev pub operator_text : (first second : ℕ) → List ℕ
operator_text first second = codes "operator" ++ look_up (first ∷ second ∷ []) operator_texts

-- The digit of a constructor: 1, 2 or 3, and in the wide grammar 4 or 5.
abbrev pub IsConstructorDigit : (is_wide : Bool) → (digit : ℕ) → Type 0
IsConstructorDigit is_wide digit = ((49 ≤ digit) × (digit ≤ 51)) ⊎ ((is_wide ≡ true) × ((digit ≡ 52) ⊎ (digit ≡ 53)))

-- The digit of a destructor: 0, 1 or 2, and in the wide grammar 4 or 5.
abbrev pub IsDestructorDigit : (is_wide : Bool) → (digit : ℕ) → Type 0
IsDestructorDigit is_wide digit = ((48 ≤ digit) × (digit ≤ 50)) ⊎ ((is_wide ≡ true) × ((digit ≡ 52) ⊎ (digit ≡ 53)))

-- the text of a tag
abbrev pub tag_text : (tag : List ℕ) → List ℕ
tag_text tag = codes "[abi:" ++ tag ++ codes "]"

-- A name is at the place, and its own bytes are between `place.from` and `place.to`.
pub record IsNamePlace (s : List ℕ) (at : ℕ) (place : NamePlace) : Type 0 where
  pub name : List ℕ
  pub is : IsNameAt s at name place.to
  pub some : name ≢ []
  pub ordered : place.from ≤ place.to
  pub within : place.to ≤ length s
  pub own : take (place.to - place.from) (drop place.from s) ≡ name
