-- The runs of a text, the words in them, and the filtered text.
use Rattle.std.specs.Prelude.{◌≡◌, ◌*◌, ◌≤◌, sum_by, ℕ, List, [], ◌∷◌, ◌++◌, length, drop, Bool, true, false, Option, Some, None, Result, Ok, Err, unwrap_or, option_and_then, is_some, not, map, filter, count_by, min, ◌+◌, ◌^◌, ◌<◌, ◌-◌, ◌==◌, ◌||◌, ◌&&◌, nat_le, if◌then◌else◌}
use Rattle.std.specs.List.{flat_map, list_all, list_any}
use Rattle.std.specs.Result.{result_ok}
use Rattle.sym_core.specs.declared.refusal.Refusal.{Refusal}
use Rattle.sym_core.specs.declared.refusal.Refusal.TheVariants.{TooLong}
use Rattle.sym_filter.specs.declared.kinds.Kind.{Kind}
use Rattle.sym_filter.specs.declared.kinds.Letters.{Letters}
use Rattle.sym_filter.specs.declared.kinds.Letters.TheVariants.{Any, Ascii, Within}
use Rattle.sym_filter.specs.declared.kinds.TheConstants.{LONGEST_WORD}
use Rattle.sym_filter.specs.declared.places.Place.{Place}
use Rattle.sym_filter.specs.declared.words.Tally.{Tally}
use Rattle.sym_filter.specs.Bytes.{is_byte_of, is_wide}
use Rattle.sym_filter.specs.Escapes.{segments_of}
use Rattle.sym_filter.specs.Kinds.{kind_of, symbol_of, underscore_of}
use Rattle.sym_filter.specs.Marks.{before_mark, from_mark}
use Rattle.sym_filter.specs.Places.{START, from_word, with_word}

-- the run at the front of a text; it is empty if the text begins with a byte that belongs to no run
abbrev pub first_run : Letters → List ℕ → List ℕ
first_run letters [] = []
first_run letters (byte ∷ bytes) = if is_byte_of letters byte then byte ∷ first_run letters bytes else []

-- the runs after the first: one after each byte that belongs to no run; a run may have no byte
abbrev pub later_runs : Letters → List ℕ → List (List ℕ)
later_runs letters [] = []
later_runs letters (byte ∷ bytes) =
    if is_byte_of letters byte then later_runs letters bytes else first_run letters bytes ∷ later_runs letters bytes

-- the runs of a text
abbrev pub runs_of : Letters → List ℕ → List (List ℕ)
runs_of letters text = first_run letters text ∷ later_runs letters text

-- the bytes after the first run, with each run among them changed by a function
abbrev pub with_later_runs : Letters → (List ℕ → List ℕ) → List ℕ → List ℕ
with_later_runs letters change [] = []
with_later_runs letters change (byte ∷ bytes) =
    if is_byte_of letters byte then with_later_runs letters change bytes
    else byte ∷ (change (first_run letters bytes) ++ with_later_runs letters change bytes)

-- a text with each run changed by a function; all other bytes stay
abbrev pub with_runs : Letters → (List ℕ → List ℕ) → List ℕ → List ℕ
with_runs letters change text = change (first_run letters text) ++ with_later_runs letters change text

-- the word of a run: the run without its trailing dots
abbrev pub word_of : List ℕ → List ℕ
word_of [] = []
word_of (byte ∷ bytes) = if list_all (λ other. other == 46) (byte ∷ bytes) then [] else byte ∷ word_of bytes

-- the dots after the word of a run
abbrev pub dots_after : List ℕ → List ℕ
dots_after run = drop (length (word_of run)) run

-- the answers for the symbols of words of each kind: a text, or why there is none
abbrev pub Answering : Type 0
Answering = Kind → List ℕ → Result (List ℕ) Refusal

-- a symbol is read: it has a text, or its text costs more than the limit
abbrev pub is_read : Result (List ℕ) Refusal → Bool
is_read (Ok text) = true
is_read (Err TooLong) = true
is_read (Err refusal) = false

-- the text that replaces a word: its symbol's text, if the word names a symbol that has a text
unfoldable pub text_for : Answering → List ℕ → Option (List ℕ)
text_for answers word = option_and_then (λ kind. result_ok (answers kind (symbol_of kind word))) (kind_of word)

-- the text that replaces a word, or the word itself if there is no such text
abbrev pub word_or_text : Answering → List ℕ → List ℕ
word_or_text answers word = unwrap_or (text_for answers word) word

-- a run with its word replaced by the text for the word, if there is one
unfoldable pub replaced : Answering → List ℕ → List ℕ
replaced answers run = word_or_text answers (word_of run) ++ dots_after run

-- whether a run's word has a text
abbrev pub has_text : Answering → List ℕ → Bool
has_text answers run = is_some (text_for answers (word_of run))

-- no bytes, or bytes that begin with an underscore
abbrev pub is_begun : List ℕ → Bool
is_begun [] = true
is_begun (byte ∷ bytes) = byte == 95

-- ## The text for a word that begins within a run

-- a word without the dots and the bytes that aren't ASCII at its end
abbrev pub trimmed : List ℕ → List ℕ
trimmed [] = []
trimmed (byte ∷ bytes) = if list_all (λ other. other == 46 || is_wide other) (byte ∷ bytes) then [] else byte ∷ trimmed bytes

-- the first of two texts, or the second where there is no first
abbrev pub either : Option (List ℕ) → Option (List ℕ) → Option (List ℕ)
either None other = other
either (Some text) other = Some text

abbrev pub followed_by : List ℕ → Option (List ℕ) → Option (List ℕ)
followed_by rest None = None
followed_by rest (Some text) = Some (text ++ rest)

-- The first try: the word without the dots and the bytes that aren't ASCII at its end, replaced by its text, followed by those
-- bytes.
abbrev pub text_of_front : Answering → List ℕ → Option (List ℕ)
text_of_front answers word = followed_by (drop (length (trimmed word)) word) (text_for answers (trimmed word))

-- The last try, for a word with bytes that aren't ASCII: each longest part in ASCII is replaced by its text, if any of
-- these parts has one.
abbrev pub text_of_parts : Answering → List ℕ → Option (List ℕ)
text_of_parts answers word =
    if list_any is_wide word && list_any (has_text answers) (runs_of Ascii word) then Some (with_runs Ascii (replaced answers) word) else None

-- The tries for a word, in order; the second is the word's own text.
unfoldable pub text_of_tries : Answering → List ℕ → Option (List ℕ)
text_of_tries answers word = either (text_of_front answers word) (either (text_for answers word) (text_of_parts answers word))

-- the words that are tried
abbrev pub tried : List ℕ → List (List ℕ)
tried word = trimmed word ∷ word ∷ map word_of (runs_of Ascii word)

-- two answerings give the same text for each of some words
abbrev pub Agree : Answering → Answering → List (List ℕ) → Type 0
Agree answers other [] = Unit {0}
Agree answers other (word ∷ words) = (text_for answers word ≡ text_for other word) × Agree answers other words

-- The text by tries depends only on the texts for the words that are tried.
abbrev pub TriesDecide : Type 0
TriesDecide = (answers other : Answering) (word : List ℕ) → Agree answers other (tried word) → text_of_tries answers word ≡ text_of_tries other word

-- the words that are tried have together at most three times as many bytes as the word
abbrev pub TriesAreFew : Type 0
TriesAreFew = (word : List ℕ) → sum_by length (tried word) ≤ 3 * length word

-- a text, or another answer where there is none
abbrev pub or_answer : Option (List ℕ) → Result (List ℕ) Refusal → Result (List ℕ) Refusal
or_answer (Some text) other = Ok text
or_answer None other = other

-- what is answered for the symbols of words that begin within runs: the word's text by its tries
abbrev pub within : Answering → Answering
within answers kind symbol = or_answer (text_of_tries answers (underscore_of kind.skip ++ symbol)) (answers kind symbol)

abbrev pub answers_at : Letters → Answering → Answering
answers_at Any answers = answers
answers_at Ascii answers = answers
answers_at Within answers = within answers

-- ## The word of a run

-- whether a word, or the part of a word that is held, is short enough to name a symbol
abbrev pub fits : List ℕ → Bool
fits word = nat_le (length word) LONGEST_WORD

-- what is written for a word that is held from a place on
abbrev pub written : Letters → Answering → Place → List ℕ → List ℕ
written Any answers place word = word_or_text answers word
written Ascii answers place word = word_or_text answers word
written Within answers place word = before_mark place word ++ word_or_text (within answers) (from_mark place word)

-- the part of a held word that names a symbol, if any does
abbrev pub name_in : Letters → Place → List ℕ → List ℕ
name_in Any place word = word
name_in Ascii place word = word
name_in Within place word = from_mark place word

-- what is written for a run from a place on, if it isn't too long; the dots at its end stay
abbrev pub changed : Letters → Answering → Place → List ℕ → List ℕ
changed letters answers place run = if fits (word_of run) then written letters answers place (word_of run) ++ dots_after run else run

-- the part of a run that names a symbol, if any does
abbrev pub named_in : Letters → Place → List ℕ → List ℕ
named_in letters place run = if fits (word_of run) then name_in letters place (word_of run) else []

-- a run with its word of these letters replaced
abbrev pub replaced_at : Letters → Answering → List ℕ → List ℕ
replaced_at Any answers run = replaced answers run
replaced_at Ascii answers run = replaced answers run
replaced_at Within answers run = with_word Within (changed Within answers) START run

-- the word of a run, or nothing
abbrev pub word_in : Letters → List ℕ → List ℕ
word_in Any run = word_of run
word_in Ascii run = word_of run
word_in Within run = from_word Within (named_in Within) START run

-- ## The filtered text

-- a segment with each word of these letters replaced by the text for it, if there is one
abbrev pub filtered_segment : Letters → Answering → List ℕ → List ℕ
filtered_segment letters answers text = with_runs letters (replaced_at letters answers) text

-- A text with each word of these letters replaced by the text for it, if there is one. Where words begin within runs, the text
-- is cut after each escape and its segments are filtered apart, so no byte of an escape belongs to a word.
abbrev pub filtered_at : Letters → Answering → List ℕ → List ℕ
filtered_at Any answers text = filtered_segment Any answers text
filtered_at Ascii answers text = filtered_segment Ascii answers text
filtered_at Within answers text = flat_map (filtered_segment Within answers) (segments_of text)

-- the filtered text, where words have any letters
abbrev pub filtered : Answering → List ℕ → List ℕ
filtered answers text = filtered_at Any answers text

-- whether a word names a symbol
unfoldable pub is_named : List ℕ → Bool
is_named word = is_some (kind_of (word_of word))

-- the words of a segment that name symbols
abbrev pub named_in_segment : Letters → List ℕ → List (List ℕ)
named_in_segment letters text = filter is_named (map (word_in letters) (runs_of letters text))

-- the words of a text that name symbols: those of its segments, in order
abbrev pub named_words : Letters → List ℕ → List (List ℕ)
named_words Any text = named_in_segment Any text
named_words Ascii text = named_in_segment Ascii text
named_words Within text = flat_map (named_in_segment Within) (segments_of text)

-- a count that stays at the greatest u64 once it has reached it
abbrev pub capped : ℕ → ℕ
capped n = min n (2 ^ 64 - 1)

-- each count is a u64
pub record IsTally (tally : Tally) : Type 0 where
  pub words : tally.words < 2 ^ 64
  pub replaced : tally.replaced < 2 ^ 64
  pub refused : tally.refused < 2 ^ 64

-- a tally that counts these words, too: how many they are, how many have a text, and how many have none
abbrev pub tally_with : Answering → Tally → List (List ℕ) → Tally
tally_with answers tally words = record {
  words = capped (tally.words + length words);
  replaced = capped (tally.replaced + count_by (has_text answers) words);
  refused = capped (tally.refused + count_by (λ word. not (has_text answers word)) words);
}

-- a tally that counts one more word, which has a text or none
abbrev pub tally_counted : Bool → Tally → Tally
tally_counted true tally = record { words = capped (tally.words + 1); replaced = capped (tally.replaced + 1); refused = tally.refused }
tally_counted false tally = record { words = capped (tally.words + 1); replaced = tally.replaced; refused = capped (tally.refused + 1) }

-- a tally that counts a word, if the word names a symbol
abbrev pub tally_with_word : Answering → Tally → List ℕ → Tally
tally_with_word answers tally word = tally_with answers tally (filter is_named (word ∷ []))

-- the tally of a text whose words have these letters
abbrev pub tally_at : Letters → Answering → List ℕ → Tally
tally_at letters answers text = tally_with (answers_at letters answers) (record { words = 0; replaced = 0; refused = 0 }) (named_words letters text)
