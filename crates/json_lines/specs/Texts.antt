-- The objects of the words of a text.
use Rattle.std.specs.Prelude.{◌≡◌, ℕ, List, [], Bool, Option, Err}
use Rattle.std.specs.Io.KnownBytes.{Appends, Consumes, IsAtEnd}
use Rattle.sym_core.specs.declared.refusal.Refusal.TheVariants.{Malformed}
use Rattle.sym_filter.specs.Entries.{Entry, entries_of}
use Rattle.sym_filter.specs.Runs.{Answering}
use Rattle.sym_filter.specs.Streams.{PutsFront}
use Rattle.sym_filter.specs.declared.kinds.Letters.TheVariants.{Within}
use Rattle.demangle_names.specs.Saying.{one_stays, said_of_words}
use Rattle.text_details.specs.Details.{Detailing}
use Rattle.json_lines.specs.Objects.{objects_of}

-- no symbol has a text
abbrev pub no_texts : Answering
no_texts kind symbol = Err (Malformed 0)

-- The words of a text that name symbols, and its newlines, in order: these are what stays of the text if no symbol has a text. Words may begin within runs.
abbrev pub words_of : List ℕ → List Entry
words_of text = entries_of Within no_texts text

-- the lines of a text: one for each of its words
abbrev pub lines_of : (reads_paths : Bool) → Answering → Detailing → List ℕ → List ℕ
lines_of reads_paths answers details text = said_of_words (objects_of reads_paths answers details) (words_of text)

-- whether a word of a text has no text
abbrev pub text_stays : (reads_paths : Bool) → Answering → Detailing → List ℕ → Bool
text_stays reads_paths answers details text = one_stays (objects_of reads_paths answers details) (words_of text)

-- a text was read to its end, and its lines were written
pub record TellsObjects (reads_paths : Bool) (answers : Answering) (details : Detailing) (coming coming' out out' : Option (List ℕ)) (one_stays : Bool) : Type 0 where
  pub text : List ℕ
  pub reads : Consumes coming coming' text
  pub ends : IsAtEnd coming'
  pub writes : Appends out out' (lines_of reads_paths answers details text)
  pub stay : one_stays ≡ text_stays reads_paths answers details text

-- what was written is a beginning of the lines of the bytes that were read
pub record TellsObjectsFront (reads_paths : Bool) (answers : Answering) (details : Detailing) (coming coming' out out' : Option (List ℕ)) : Type 0 where
  pub text : List ℕ
  pub reads : Consumes coming coming' text
  pub writes : PutsFront out out' [] (lines_of reads_paths answers details text)
