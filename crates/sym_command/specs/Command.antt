-- What a command line did to its two streams.
use Rattle.std.specs.Prelude.{◌≡◌, ℕ, List, ◌++◌, Bool, Option}
use Rattle.std.specs.List.{flat_map}
use Rattle.std.specs.Io.KnownBytes.{Appends}
use Rattle.sym_filter.specs.Runs.{Answering}
use Rattle.sym_filter.specs.Streams.{BeginsWith}
use Rattle.sym_command.specs.declared.options.Asked.{Asked}
use Rattle.sym_command.specs.Lines.{Counting, AreLines, complaint_of, status_of}

-- a stream took some bytes
abbrev pub Says : Option (List ℕ) → Option (List ℕ) → Type 0
Says old new = (said : List ℕ) × Appends old new said

-- two streams took bytes that satisfy `holds`
pub record Took (out out' err err' : Option (List ℕ)) (holds : List ℕ → List ℕ → Type 0) : Type 0 where
  pub lines : List ℕ
  pub said : List ℕ
  pub to_out : Appends out out' lines
  pub to_err : Appends err err' said
  pub held : holds lines said

-- the words are answered: by their lines, by what is said of the words that have no text, and by the status
pub record AnswersWords (asked : Asked) (answers : Answering) (counting : Counting) (stats : Bool) (words : List (List ℕ)) (status : ℕ) (lines said : List ℕ) : Type 0 where
  pub are_lines : AreLines answers counting stats words lines
  pub complaints : said ≡ flat_map (complaint_of asked answers) words
  pub ends : status ≡ status_of answers words

-- a beginning of the lines of the first words was written, and a beginning of what is said of these words
pub record AnswersFront (asked : Asked) (answers : Answering) (counting : Counting) (stats : Bool) (words : List (List ℕ)) (lines said : List ℕ) : Type 0 where
  pub first : List (List ℕ)
  pub rest : List (List ℕ)
  pub are_first : words ≡ first ++ rest
  pub whole : List ℕ
  pub are_lines : AreLines answers counting stats first whole
  pub lines_begin : BeginsWith whole lines
  pub said_begin : BeginsWith (flat_map (complaint_of asked answers) first) said
