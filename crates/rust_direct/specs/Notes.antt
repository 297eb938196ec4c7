-- Notes: where the text of each path and type that has ended was written, in the shown or in the hidden text.
use Rattle.std.specs.Prelude.{◌≡◌, ℕ, zero, suc, ◌+◌, List, ◌++◌, length, slice_get, Bool, true, false, Option, Some, None}
use Rattle.rust_grammar.specs.Value.{Value, Ended}
use Rattle.rust_grammar.specs.Unfold.{ended_at}
use Rattle.rust_direct.specs.declared.open.Note.{Note}
use Rattle.rust_direct.specs.PrintsInForm.{Says}

-- The text that a note is about: `text` if the note and the writer are both in the hidden text or both in the shown text,
-- otherwise `aside`.
abbrev pub home : (is_aside : Bool) → (note_is_aside : Bool) → (text aside : List ℕ) → List ℕ
home true true text aside = text
home false false text aside = text
home true false text aside = aside
home false true text aside = aside

-- a note says where the text of this value is
pub record IsNote (brief : Bool) (written : List ℕ) (n : Note) (v : Value) : Type 0 where
  pub front : List ℕ
  pub bytes : List ℕ
  pub back : List ℕ
  pub written_is : written ≡ front ++ bytes ++ back
  pub from_is : n.from ≡ length front
  pub to_is : n.to ≡ length front + length bytes
  pub says : Says brief n.forms v bytes

-- something has ended, and the note says where its text is
abbrev pub NotesEnded : (brief : Bool) (is_aside : Bool) → (text aside : List ℕ) → Note → Option Value → Type 0
NotesEnded brief is_aside text aside n None = ⊥
NotesEnded brief is_aside text aside n (Some v) = IsNote brief (home is_aside n.is_aside text aside) n v

abbrev pub NotedAs : (brief : Bool) (is_aside : Bool) → (text aside : List ℕ) → Option Note → Option Value → Type 0
NotedAs brief is_aside text aside None v = ⊥
NotedAs brief is_aside text aside (Some n) v = NotesEnded brief is_aside text aside n v

-- a place with the number k + 1 has the note k; nothing is known of a place with the number 0
abbrev pub IsNumbered : (brief : Bool) (is_aside : Bool) → (text aside : List ℕ) → List Note → Option Value → (number : Option ℕ) → Type 0
IsNumbered brief is_aside text aside notes v None = Unit {0}
IsNumbered brief is_aside text aside notes v (Some zero) = Unit {0}
IsNumbered brief is_aside text aside notes v (Some (suc k)) = NotedAs brief is_aside text aside (slice_get notes k) v

-- each place's number leads to the text of what ended there
abbrev pub AreNotes : (brief : Bool) (is_aside : Bool) → (text aside : List ℕ) → List Note → (numbers : List ℕ) → List Ended → Type 0
AreNotes brief is_aside text aside notes numbers ended =
    (place : ℕ) → IsNumbered brief is_aside text aside notes (ended_at ended place) (slice_get numbers place)
