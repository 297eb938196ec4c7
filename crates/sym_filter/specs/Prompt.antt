-- A filter is prompt: it wrote all that is decided of the filtered text, and little waits.
use Rattle.std.specs.Prelude.{◌≡◌, ℕ, List, ◌++◌, Option}
use Rattle.std.specs.Io.KnownBytes.{Appends, Consumes}
use Rattle.sym_filter.specs.declared.escapes.Escape.{Escape}
use Rattle.sym_filter.specs.declared.kinds.Letters.{Letters}
use Rattle.sym_filter.specs.declared.words.Words.{Words}
use Rattle.sym_filter.specs.Carried.{rest_of_text}
use Rattle.sym_filter.specs.Held.{IsHeld}
use Rattle.sym_filter.specs.Runs.{Answering, filtered_at}

-- A text was read and bytes were written. Whatever follows, the filtered text is those bytes and what is still to come.
-- What is still to come depends only on a front of one word (no longer than the longest word) and its place, the dots
-- after the front, and the part of an escape that was read.
pub record IsPrompt (letters : Letters) (answers : Answering) (coming coming' taken taken' : Option (List ℕ)) : Type 0 where
  pub text : List ℕ
  pub written : List ℕ
  pub words : Words
  pub escape : Escape
  pub reads : Consumes coming coming' text
  pub writes : Appends taken taken' written
  pub same_letters : words.letters ≡ letters
  pub waits : IsHeld words.letters words.held.items words.dots words.past words.place
  pub rest : (more : List ℕ) → filtered_at letters answers (text ++ more) ≡ written ++ rest_of_text answers words escape more
