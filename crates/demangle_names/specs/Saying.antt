-- What is said of the words of a text, in their order.
use Rattle.std.specs.Prelude.{◌≡◌, ◌+◌, ◌||◌, ℕ, Bool, false, List, [], ◌∷◌, ◌++◌, Option}
use Rattle.std.specs.Io.KnownBytes.{Appends}
use Rattle.sym_filter.specs.Entries.{Entry, newline, left_word}
use Rattle.sym_filter.specs.Runs.{capped}
use Rattle.sym_filter.specs.Streams.{PutsFront}

-- what is said of a word that is in a line, and whether the word stays
pub record Saying : Type 0 where
  pub says : (line : ℕ) → (word : List ℕ) → List ℕ
  pub stays : (word : List ℕ) → Bool

-- The number of the line in which entries end, if they begin in `line`. It never passes the greatest u64.
abbrev pub line_after : (line : ℕ) → List Entry → ℕ
line_after line [] = line
line_after line (newline ∷ entries) = line_after (capped (line + 1)) entries
line_after line (left_word word ∷ entries) = line_after line entries

-- what is said of the words among entries, which begin in this line
abbrev pub said_from : Saying → (line : ℕ) → List Entry → List ℕ
said_from saying line [] = []
said_from saying line (newline ∷ entries) = said_from saying (capped (line + 1)) entries
said_from saying line (left_word word ∷ entries) = saying.says line word ++ said_from saying line entries

-- what is said of the words among a text's entries; the first line is line 1
abbrev pub said_of_words : Saying → List Entry → List ℕ
said_of_words saying entries = said_from saying 1 entries

-- whether one of the words among entries stays
abbrev pub one_stays : Saying → List Entry → Bool
one_stays saying [] = false
one_stays saying (newline ∷ entries) = one_stays saying entries
one_stays saying (left_word word ∷ entries) = saying.stays word || one_stays saying entries

-- ## What a report did

-- The report said what has to be said of these entries, and noted whether a word stays.
pub record Told (saying saying' : Saying) (line line' : ℕ) (left left' : Bool) (said said' : Option (List ℕ)) (entries : List Entry) : Type 0 where
  pub same : saying' ≡ saying
  pub reached : line' ≡ line_after line entries
  pub stay : left' ≡ (left || one_stays saying entries)
  pub says : Appends said said' (said_from saying line entries)

-- the report said a beginning of what has to be said of these entries
abbrev pub Untold : Saying → (line : ℕ) → (said said' : Option (List ℕ)) → List Entry → Type 0
Untold saying line said said' entries = PutsFront said said' [] (said_from saying line entries)
