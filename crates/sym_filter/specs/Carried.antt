-- What a filter carries of an escape from one piece of a text to the next, and what is still to come of the filtered
-- text.
use Rattle.std.specs.Prelude.{◌≡◌, ◌+◌, ◌≤◌, ℕ, List, [], ◌∷◌, ◌++◌, length, Bool, true, false, ◌==◌, ◌&&◌, if◌then◌else◌}
use Rattle.std.specs.List.{flat_map}
use Rattle.sym_filter.specs.declared.kinds.Letters.{Letters}
use Rattle.sym_filter.specs.declared.words.Tally.{Tally}
use Rattle.sym_filter.specs.declared.words.Words.{Words}
use Rattle.sym_filter.specs.declared.escapes.Escape.{Escape}
use Rattle.sym_filter.specs.declared.escapes.Escape.TheVariants.{Outside, Backslash, Octal, Octal3, Hex, Hex0, Hex00, Hex001, Three, Two, One, Esc, Sequence}
use Rattle.sym_filter.specs.Escapes.{is_blank_name, is_esc_digit, is_hex_digit, is_letter, is_parameter}
use Rattle.sym_filter.specs.Places.{begins_within}
use Rattle.sym_filter.specs.Runs.{Answering, answers_at, filtered_segment, named_in_segment, tally_with}
use Rattle.sym_filter.specs.Words.{rest_after, tally_after}

-- the escape if it continues, otherwise none
abbrev pub only : Bool → Escape → Escape
only goes_on escape = if goes_on then escape else Outside

abbrev pub after_backslash : ℕ → Escape
after_backslash byte =
    if is_blank_name byte then Outside
    else (if byte == 117 then Hex
    else (if byte == 120 then Hex00
    else (if byte == 48 then Octal
    else only (byte == 101) Esc)))

-- the escape after a byte: `esc` if the byte is this digit of ESC, otherwise `other` if the byte is a hexadecimal digit
abbrev pub after_digit : (byte digit : ℕ) → (esc other : Escape) → Escape
after_digit byte digit esc other = if is_esc_digit digit byte then esc else only (is_hex_digit byte) other

-- the escape after a byte that is no backslash and not ESC
abbrev pub goes_on_after : Escape → ℕ → Escape
goes_on_after Outside byte = Outside
goes_on_after Backslash byte = after_backslash byte
goes_on_after Octal byte = only (byte == 51) Octal3
goes_on_after Octal3 byte = only (byte == 51) Esc
goes_on_after Hex byte = after_digit byte 48 Hex0 Three
goes_on_after Hex0 byte = after_digit byte 48 Hex00 Two
goes_on_after Hex00 byte = after_digit byte 49 Hex001 One
goes_on_after Hex001 byte = only (is_esc_digit 98 byte) Esc
goes_on_after Three byte = only (is_hex_digit byte) Two
goes_on_after Two byte = only (is_hex_digit byte) One
goes_on_after One byte = Outside
goes_on_after Esc byte = only (byte == 91) Sequence
goes_on_after Sequence byte = only (is_parameter byte) Sequence

-- the escape after a byte
abbrev pub escape_after : Escape → ℕ → Escape
escape_after escape byte = if byte == 92 then Backslash else (if byte == 27 then Esc else goes_on_after escape byte)

-- whether a byte ends the escape
abbrev pub ends_with : Escape → ℕ → Bool
ends_with Backslash byte = is_blank_name byte
ends_with Hex001 byte = is_hex_digit byte
ends_with One byte = is_hex_digit byte
ends_with Sequence byte = is_letter byte
ends_with other byte = false

-- whether a text is cut after a byte
abbrev pub cuts_after : Letters → Escape → ℕ → Bool
cuts_after letters escape byte = begins_within letters && ends_with escape byte

-- the rest of a segment, after a front that ends with this much of an escape
abbrev pub segment_from : Letters → Escape → List ℕ → List ℕ
segment_from letters escape [] = []
segment_from letters escape (byte ∷ text) =
    byte ∷ (if cuts_after letters escape byte then [] else segment_from letters (escape_after escape byte) text)

abbrev pub segments_after : Letters → Escape → List ℕ → List (List ℕ)
segments_after letters escape [] = []
segments_after letters escape (byte ∷ text) =
    if cuts_after letters escape byte
    then segment_from letters (escape_after escape byte) text ∷ segments_after letters (escape_after escape byte) text
    else segments_after letters (escape_after escape byte) text

-- Bytes of a text were read, and with them one escape became another. Whether these bytes end their segment doesn't
-- depend on the bytes that follow.
abbrev pub IsRead : (ends : Bool) → Letters → (old new : Escape) → List ℕ → Type 0
IsRead false letters old new bytes = (more : List ℕ) →
    (segment_from letters old (bytes ++ more) ≡ bytes ++ segment_from letters new more)
    × (segments_after letters old (bytes ++ more) ≡ segments_after letters new more)
IsRead true letters old new bytes = (more : List ℕ) →
    (segment_from letters old (bytes ++ more) ≡ bytes)
    × (segments_after letters old (bytes ++ more) ≡ segment_from letters new more ∷ segments_after letters new more)

-- what is to be written for the bytes that follow: the rest of the segment, and each later segment
abbrev pub rest_of_text : Answering → Words → Escape → List ℕ → List ℕ
rest_of_text answers words escape more =
    rest_after answers words (segment_from words.letters escape more)
    ++ flat_map (filtered_segment words.letters answers) (segments_after words.letters escape more)

-- the final tally if these bytes follow
abbrev pub tally_of_text : Answering → Words → Escape → List ℕ → Tally
tally_of_text answers words escape more =
    tally_with (answers_at words.letters answers) (tally_after answers words (segment_from words.letters escape more))
    (flat_map (named_in_segment words.letters) (segments_after words.letters escape more))

-- A filter takes a piece of a text and gives bytes for it, as `Takes` says of a piece of a segment.
pub record TakesText (answers : Answering) (old new : Words) (before after : Escape) (piece bytes : List ℕ) : Type 0 where
  pub text : (more : List ℕ) → rest_of_text answers old before (piece ++ more) ≡ bytes ++ rest_of_text answers new after more
  pub counts : (more : List ℕ) → tally_of_text answers old before (piece ++ more) ≡ tally_of_text answers new after more
  pub dots : new.dots ≤ old.dots + length piece
  pub letters : new.letters ≡ old.letters
