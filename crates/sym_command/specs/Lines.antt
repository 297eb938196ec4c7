-- What the command says of its words.
use Rattle.std.specs.Prelude.{◌≡◌, ℕ, List, [], ◌∷◌, ◌++◌, Bool, true, false, ◌&&◌, Option, Some, None, Result, Ok, Err, is_some, option_map, codes, if◌then◌else◌}
use Rattle.std.specs.List.{list_all}
use Rattle.std.specs.Fmt.{decimal}
use Rattle.sym_core.specs.declared.refusal.Refusal.{Refusal}
use Rattle.sym_core.specs.declared.refusal.Refusal.TheVariants.{Malformed, BadReference, BadValue, TooLong, Memory}
use Rattle.sym_core.specs.declared.counts.Counts.{Counts}
use Rattle.sym_filter.specs.declared.kinds.Kind.{Kind}
use Rattle.sym_filter.specs.declared.kinds.Lang.{Lang}
use Rattle.sym_filter.specs.Kinds.{kind_of, symbol_of}
use Rattle.sym_filter.specs.Runs.{Answering, is_read, text_for, word_or_text}
use Rattle.sym_command.specs.declared.options.Asked.{Asked}
use Rattle.sym_command.specs.declared.options.Asked.TheVariants.{WidePressed}

-- the answer for a word's symbol, if the word names one
unfoldable pub answer_for : Answering → List ℕ → Option (Result (List ℕ) Refusal)
answer_for answers word = option_map (λ kind. answers kind (symbol_of kind word)) (kind_of word)

-- whether a word's symbol is read
abbrev pub is_read_word : Option (Result (List ℕ) Refusal) → Bool
is_read_word None = false
is_read_word (Some answer) = is_read answer

-- the line of a word on standard output: its text, or the word itself if it has no text
abbrev pub line_of : Answering → List ℕ → List ℕ
line_of answers word = word_or_text answers word ++ 10 ∷ []

-- what is said of a symbol's counts
abbrev pub counts_text : ℕ → ℕ → ℕ → List ℕ
counts_text rows nodes steps =
    codes "rows " ++ (decimal rows ++ (codes " nodes " ++ (decimal nodes ++ (codes " steps " ++ decimal steps))))

-- which counts are those of a symbol of a language
abbrev pub Counting : Type 1
Counting = Lang → List ℕ → Counts → Type 0

-- the counts are those of the symbol that a word names
abbrev pub AreCountsFor : Counting → List ℕ → Counts → Type 0
AreCountsFor counting word counts = (kind : Kind) × (kind_of word ≡ Some kind) × counting kind.lang (symbol_of kind word) counts

-- the line of the counts of a word's symbol
pub record IsCountsLine (are_counts : Counts → Type 0) (line : List ℕ) : Type 0 where
  pub counts : Counts
  pub are : are_counts counts
  pub is : line ≡ counts_text counts.rows counts.nodes counts.steps ++ 10 ∷ []

-- the bytes after a word's line: the line of counts, if counts are requested and the symbol is read, and otherwise nothing
abbrev pub IsBehindLine : (Counts → Type 0) → Bool → List ℕ → Type 0
IsBehindLine are_counts true line = IsCountsLine are_counts line
IsBehindLine are_counts false line = line ≡ []

-- the lines of words on standard output, in order
abbrev pub AreLines : Answering → Counting → Bool → List (List ℕ) → List ℕ → Type 0
AreLines answers counting stats [] lines = lines ≡ []
AreLines answers counting stats (word ∷ words) lines = (behind rest : List ℕ)
    × IsBehindLine (AreCountsFor counting word) (stats && is_read_word (answer_for answers word)) behind
    × AreLines answers counting stats words rest
    × (lines ≡ line_of answers word ++ behind ++ rest)

-- why a symbol has no text
abbrev pub reason_of : Refusal → List ℕ
reason_of (Malformed at) = codes "malformed at " ++ decimal at
reason_of (BadReference at) = codes "bad reference at " ++ decimal at
reason_of (BadValue at) = codes "bad value at " ++ decimal at
reason_of TooLong = codes "too long"
reason_of Memory = []

-- Why a symbol has no answer, given what was requested. Pressing has no limit, so `TooLong` for a symbol that the wide grammar reads
-- means that no spelling is read as that symbol.
abbrev pub reason_for : Asked → Refusal → List ℕ
reason_for WidePressed TooLong = codes "no spelling yet"
reason_for asked refusal = reason_of refusal

-- what is said of a word that has no text
abbrev pub complaint_with : List ℕ → List ℕ → List ℕ
complaint_with word reason = codes "symfilt: " ++ (word ++ (codes ": " ++ reason))

-- the line on standard error that says why a word has no text, if it has none
abbrev pub complaint_about : Asked → List ℕ → Option (Result (List ℕ) Refusal) → List ℕ
complaint_about asked word None = complaint_with word (codes "not a symbol") ++ 10 ∷ []
complaint_about asked word (Some (Ok text)) = []
complaint_about asked word (Some (Err refusal)) = complaint_with word (reason_for asked refusal) ++ 10 ∷ []

abbrev pub complaint_of : Asked → Answering → List ℕ → List ℕ
complaint_of asked answers word = complaint_about asked word (answer_for answers word)

-- the status: 0 if each word has a text, and otherwise 1
abbrev pub status_of : Answering → List (List ℕ) → ℕ
status_of answers words = if list_all (λ word. is_some (text_for answers word)) words then 0 else 1
