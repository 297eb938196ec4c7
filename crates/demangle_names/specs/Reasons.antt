-- What is said of the words of a text that have no text of their own: why each word stays, and in which line it is.
use Rattle.std.specs.Prelude.{ℕ, List, ◌++◌, true, codes}
use Rattle.std.specs.Fmt.{decimal}
use Rattle.sym_command.specs.Lines.{answer_for}
use Rattle.sym_filter.specs.Runs.{Answering}
use Rattle.demangle_names.specs.Names.{reason_by, said_line}
use Rattle.demangle_names.specs.Saying.{Saying}

-- a word after the number of its line
abbrev pub placed : (line : ℕ) → List ℕ → List ℕ
placed line word = codes "line " ++ decimal line ++ codes ": " ++ word

-- the line that says why a word stays
abbrev pub reasons_of : Answering → Saying
reasons_of answers = record {
  says = λ line word. said_line (placed line word) (reason_by (answer_for answers word));
  stays = λ word. true;
}
