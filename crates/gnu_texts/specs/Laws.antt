-- What holds of spelled texts. `laws.rt` says that each of these holds of every text.
use Rattle.std.specs.Prelude.{◌≡◌, ◌≤◌, ◌<◌, ℕ, List, [], ◌∷◌, ◌++◌, ◌+◌, ◌*◌, Bool, true, false, not, ◌==◌, ◌&&◌, ◌||◌, nat_eq, length, drop, replicate, codes}
use Rattle.std.specs.List.{starts_with, filter}
use Rattle.gnu_texts.specs.Pieces.{is_spaced}
use Rattle.gnu_texts.specs.Spelling.{gnu_text}

-- ## What a text doesn't have

-- A part is nowhere in a text.
abbrev pub HasNo : (part text : List ℕ) → Type 0
HasNo part text = (k : ℕ) → starts_with nat_eq (drop k text) part ≡ false

-- A text has none of the names that are written otherwise.
pub record HasNoNames (text : List ℕ) : Type 0 where
  pub istream : HasNo (codes "std::istream") text
  pub iostream : HasNo (codes "std::iostream") text
  pub ostream : HasNo (codes "std::ostream") text
  pub string : HasNo (codes "std::string") text
  pub null_pointer : HasNo (codes "std::nullptr_t") text

-- A text has none of the names that are written otherwise, and no ` (.`, with which a suffix begins.
pub record HasNoWords (text : List ℕ) : Type 0 where
  pub names : HasNoNames text
  pub suffix : HasNo (codes " (.") text

-- A text has none of the places that are spelled otherwise.
pub record HasNoPlaces (text : List ℕ) : Type 0 where
  pub words : HasNoWords text
  pub closing : HasNo (codes ">>") text
  pub array : HasNo (codes ")[") text

-- A text has no blank where the spelling writes one.
pub record HasNoBlanks (text : List ℕ) : Type 0 where
  pub closing : HasNo (codes "> >") text
  pub array : HasNo (codes ") [") text

-- ## How long a spelled text is

-- A spelled text is no shorter than its text, so it is empty only where the text is.
abbrev pub IsNoShorter : List ℕ → Type 0
IsNoShorter text = length text ≤ length (gnu_text text)

-- A spelled text is at most ten times as long as its text, less thirty bytes if the text has four bytes or more.
abbrev pub IsBounded : List ℕ → Type 0
IsBounded text = (length (gnu_text text) ≤ 10 * length text) × (4 ≤ length text → length (gnu_text text) + 30 ≤ 10 * length text)

-- a suffix of dots
abbrev pub dots : (count : ℕ) → List ℕ
dots count = codes " (" ++ replicate count 46 ++ codes ")"

-- A suffix of dots reaches the bound, so no smaller bound holds for texts of four bytes or of any greater number.
abbrev pub ReachesBound : (count : ℕ) → Type 0
ReachesBound count = 0 < count → length (gnu_text (dots count)) + 30 ≡ 10 * length (dots count)

-- A text without names that are written otherwise and without a suffix becomes less than twice as long, unless it is
-- empty.
abbrev pub IsLessThanDouble : List ℕ → Type 0
IsLessThanDouble text = HasNoWords text → 0 < length text → length (gnu_text text) < 2 * length text

-- ## What a spelled text keeps

-- A text in which no place is spelled otherwise stays as it is.
abbrev pub Stays : List ℕ → Type 0
Stays text = HasNoPlaces text → gnu_text text ≡ text

-- a text without its blanks
abbrev pub without_blanks : List ℕ → List ℕ
without_blanks text = filter (λ byte. not (byte == 32)) text

-- In a text without names that are written otherwise and without a suffix, only blanks are added.
abbrev pub AddsBlanks : List ℕ → Type 0
AddsBlanks text = HasNoWords text → without_blanks (gnu_text text) ≡ without_blanks text

-- If a text has no suffix, no operators' names and no names that are written otherwise, its spelled text has no two `>`
-- side by side and no `[` right after a `)`.
abbrev pub PartsBrackets : List ℕ → Type 0
PartsBrackets text = HasNoWords text → HasNo (codes "operator") text → HasNo (codes ">>") (gnu_text text) × HasNo (codes ")[") (gnu_text text)

-- a text after a byte, without its blanks before brackets
unfoldable pub closed_up : (last : ℕ) → List ℕ → List ℕ
closed_up last [] = []
closed_up last (byte ∷ text) = elim (byte == 32 && is_spaced last text) [ true ↦ closed_up last text | false ↦ byte ∷ closed_up byte text ]

-- A text without names that are written otherwise, without a suffix and without blanks before brackets is its spelled text
-- without the blanks before brackets. So no two such texts are spelled alike.
abbrev pub ComesBack : List ℕ → Type 0
ComesBack text = HasNoWords text → HasNoBlanks text → closed_up 0 (gnu_text text) ≡ text

-- a text without its parentheses
abbrev pub without_parentheses : List ℕ → List ℕ
without_parentheses text = filter (λ byte. not (byte == 40 || byte == 41)) text

-- some bytes are a subsequence of a text
unfoldable pub are_in : (bytes text : List ℕ) → Bool
are_in [] text = true
are_in (first ∷ bytes) [] = false
are_in (first ∷ bytes) (byte ∷ text) = elim (first == byte) [ true ↦ are_in bytes text | false ↦ are_in (first ∷ bytes) text ]

-- Bytes are only added, except in two places: a suffix loses its parentheses, and the type of `nullptr` becomes
-- `decltype(nullptr)`.
abbrev pub KeepsBytes : List ℕ → Type 0
KeepsBytes text = HasNo (codes "std::nullptr_t") text → are_in (without_parentheses text) (gnu_text text) ≡ true
