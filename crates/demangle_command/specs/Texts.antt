-- The texts of words. Words are bytes, and the command line's parser takes texts, so each byte of a word becomes the character whose number
-- is the byte; an ASCII word stays as it is.
use Rattle.std.specs.Prelude.{ℕ, ◌+◌, ◌*◌, ◌%◌, List, [], ◌∷◌, ◌++◌, Option, Some, None, map, flat_map, encode_utf8, nat_lt, if◌then◌else◌}
use Rattle.clap.specs.Words.{Text}
use Rattle.demangle_command.specs.declared.texts.Decoding.{Decoding as Decoding-type}

-- the text of a word
abbrev pub text_of : List ℕ → Text
text_of word = flat_map encode_utf8 word

abbrev pub texts_of : List (List ℕ) → List Text
texts_of words = map text_of words

-- ## The word of a text

-- The state of reading a text: the bytes so far, and the first of the two bytes of a character past 127, if the second is still to come.
pub record Decoding : Type 0 where
  pub bytes : List ℕ
  pub lead : Option ℕ

-- an ASCII byte is a character; any other byte is the first of a character, whose second byte is still to come
abbrev pub first_taken : Decoding → ℕ → Decoding
first_taken decoding byte = if nat_lt byte 128 then record decoding { bytes = decoding.bytes ++ byte ∷ [] } else record decoding { lead = Some byte }

-- the first byte of a character from 128 to 255 has the two highest bits of the character's number, and the second byte
-- has the others
abbrev pub second_taken : ℕ → Decoding → ℕ → Decoding
second_taken lead decoding byte = record { bytes = decoding.bytes ++ (lead % 4 * 64 + byte % 64) ∷ []; lead = None }

-- the state after one more byte
abbrev pub after_lead : Option ℕ → Decoding → ℕ → Decoding
after_lead None decoding byte = first_taken decoding byte
after_lead (Some lead) decoding byte = second_taken lead decoding byte

abbrev pub after_byte : Decoding → ℕ → Decoding
after_byte decoding byte = after_lead decoding.lead decoding byte

abbrev pub after_text : Decoding → Text → Decoding
after_text decoding [] = decoding
after_text decoding (byte ∷ bytes) = after_text (after_byte decoding byte) bytes

-- the state before a text
abbrev pub start : Decoding
start = record { bytes = []; lead = None }

-- for each character of a text, the byte with the character's number; for the text of a word, these bytes are the word
abbrev pub bytes_of : Text → List ℕ
bytes_of text = (after_text start text).bytes

-- the state of the code that reads a text
abbrev pub decoding_of : Decoding-type → Decoding
decoding_of decoding = record { bytes = decoding.bytes.items; lead = decoding.lead }
