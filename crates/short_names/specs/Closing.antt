-- A list that belongs to a name of the table, at the end of a text, and what is written for the list.
use Rattle.std.specs.Prelude.{◌≡◌, ◌≤◌, ◌<◌, ℕ, List, ◌∷◌, ◌++◌, ◌+◌, true, length, take, drop, slice_get, Some, IfSome}
use Rattle.short_names.specs.declared.names.Named.{Named}
use Rattle.short_names.specs.declared.table.Place.{Place}
use Rattle.short_names.specs.declared.table.TheConstants.{ALIASES, STD, STRING, STRING_LIST, STRING_TEMPLATE}
use Rattle.short_names.specs.Elements.{joined}
use Rattle.short_names.specs.Names.{named_in}
use Rattle.short_names.specs.Short.{is_read_back}
use Rattle.short_names.specs.Starts.{starts_of}
use Rattle.short_names.specs.Walk.{Answer}

-- A text ends with a list: the list's name and its elements come after some bytes.
pub record IsList (text : List ℕ) (named : Named) (bracket : ℕ) (starts before name : List ℕ) (elements : List (List ℕ)) : Type 0 where
  pub text_is : text ≡ before ++ name ++ 60 ∷ joined elements
  pub named_is : named_in name ≡ Some named
  pub bracket_is : bracket ≡ length (before ++ name)
  pub starts_are : starts ≡ starts_of (bracket + 1) elements
  pub some : 0 < length elements

abbrev pub EndsWithList : (text : List ℕ) → Named → (bracket : ℕ) → (starts : List ℕ) → Type 0
EndsWithList text named bracket starts = (before : List ℕ) × (name : List ℕ) × (elements : List (List ℕ)) × IsList text named bracket starts before name elements

-- The list of `std::string` follows its template's name, and both become `std::string` there.
pub record IsString (whole : Place) (row : ℕ) (rest : List ℕ) : Type 0 where
  pub whole_is : whole ≡ STD
  pub row_is : row ≡ STRING_TEMPLATE
  pub follows : take (length STRING_LIST) rest ≡ STRING_LIST
  pub read_back : IfSome (slice_get ALIASES STRING) (λ alias. is_read_back (drop (length STRING_LIST) rest) alias ≡ true)

-- an answer was written after a text; `size` of the bytes that follow belong to the answer
pub record IsAnswered (new before rest : List ℕ) (answer : Answer) (size : ℕ) : Type 0 where
  pub text_is : new ≡ before ++ answer.bytes
  pub size_is : size ≡ answer.size
  pub within : size ≤ length rest
