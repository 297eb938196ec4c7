-- What a report takes of a text: the newlines, and each word that names a symbol and has no text.
use Rattle.std.specs.Prelude.{ℕ, List, [], ◌∷◌, ◌++◌, drop, length, ◌-◌, not, ◌==◌, ◌&&◌, if◌then◌else◌}
use Rattle.std.specs.List.{flat_map}
use Rattle.sym_filter.specs.declared.kinds.Letters.{Letters}
use Rattle.sym_filter.specs.declared.kinds.Letters.TheVariants.{Any, Ascii, Within}
use Rattle.sym_filter.specs.Bytes.{is_byte_of}
use Rattle.sym_filter.specs.Escapes.{segments_of}
use Rattle.sym_filter.specs.Runs.{Answering, answers_at, first_run, has_text, is_named, word_in}

pub data Entry : Type 0 where
  newline : Entry
  left_word : List ℕ → Entry

-- the entry of a newline, if the byte is one
abbrev pub newline_of : ℕ → List Entry
newline_of byte = if byte == 10 then newline ∷ [] else []

abbrev pub newlines_in : List ℕ → List Entry
newlines_in bytes = flat_map newline_of bytes

-- the word, if it names a symbol and has no text
unfoldable pub left_of : Answering → List ℕ → List Entry
left_of answers word = if is_named word && not (has_text answers word) then left_word word ∷ [] else []

-- the word of a run, if it is left
abbrev pub left_in : Letters → Answering → List ℕ → List Entry
left_in letters answers run = left_of (answers_at letters answers) (word_in letters run)

-- the entries after the first run
abbrev pub later_entries : Letters → Answering → List ℕ → List Entry
later_entries letters answers [] = []
later_entries letters answers (byte ∷ bytes) =
    if is_byte_of letters byte then later_entries letters answers bytes
    else newline_of byte ++ (left_in letters answers (first_run letters bytes) ++ later_entries letters answers bytes)

-- the newlines of a segment and the words left in it, in order
abbrev pub entries_in_segment : Letters → Answering → List ℕ → List Entry
entries_in_segment letters answers text = left_in letters answers (first_run letters text) ++ later_entries letters answers text

-- the newlines of a text whose words have these letters, and the words left in the text
abbrev pub entries_of : Letters → Answering → List ℕ → List Entry
entries_of Any answers text = entries_in_segment Any answers text
entries_of Ascii answers text = entries_in_segment Ascii answers text
entries_of Within answers text = flat_map (entries_in_segment Within answers) (segments_of text)

-- the word that is left at the end of some bytes: the last `count` of them, or no word where `count` is 0
abbrev pub left_at_end : ℕ → List ℕ → List Entry
left_at_end count bytes = if count == 0 then [] else left_word (drop (length bytes - count) bytes) ∷ []
