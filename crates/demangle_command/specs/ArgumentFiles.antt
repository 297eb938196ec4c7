-- The words of a file that an argument `@FILE` names.
use Rattle.std.specs.Prelude.{codes, ℕ, List, [], ◌∷◌, ◌++◌, Bool, true, false, Option, Some, None, ◌==◌, ◌||◌, ◌&&◌, nat_le, map, if◌then◌else◌, Vec}
use Rattle.std.specs.Global.{Global}
use Rattle.std.specs.Fmt.{decimal}
use Rattle.demangle_command.specs.declared.arguments.TheConstants.{LONGEST_FILE}
use Rattle.demangle_command.specs.declared.argument_files.Reading.{Reading as Reading-type}

-- blanks: tab, newline, vertical tab, form feed, carriage return and space
abbrev pub is_blank : ℕ → Bool
is_blank byte = nat_le 9 byte && nat_le byte 13 || byte == 32

-- ' and "
abbrev pub is_quote : ℕ → Bool
is_quote byte = byte == 39 || byte == 34

-- The state of reading: the words so far, what was read of the next word, whether that word has begun, the open quote if there is one, and
-- whether the byte before is a backslash, so that the next byte is taken as it is.
pub record Reading : Type 0 where
  pub words : List (List ℕ)
  pub word : List ℕ
  pub is_begun : Bool
  pub quote : Option ℕ
  pub escapes : Bool

-- a byte belongs to the word
abbrev pub pushed : Reading → ℕ → Reading
pushed reading byte = record reading { word = reading.word ++ byte ∷ []; is_begun = true; escapes = false }

-- the word ends, if one has begun
abbrev pub ended : Reading → Reading
ended reading = if reading.is_begun then record reading { words = reading.words ++ reading.word ∷ []; word = []; is_begun = false } else reading

-- a byte within a quote, which the same byte closes
abbrev pub quoted : ℕ → Reading → ℕ → Reading
quoted quote reading byte = if byte == quote then record reading { quote = None } else pushed reading byte

-- a byte outside of quotes, which opens a quote, separates words or belongs to a word
abbrev pub plain : Reading → ℕ → Reading
plain reading byte =
    if is_quote byte then record reading { is_begun = true; quote = Some byte }
    else (if is_blank byte then ended reading else pushed reading byte)

abbrev pub after_unescaped : Option ℕ → Reading → ℕ → Reading
after_unescaped None reading byte = plain reading byte
after_unescaped (Some quote) reading byte = quoted quote reading byte

-- the state after one more byte
abbrev pub after_byte : Reading → ℕ → Reading
after_byte reading byte =
    if reading.escapes then pushed reading byte
    else (if byte == 92 then record reading { is_begun = true; escapes = true } else after_unescaped reading.quote reading byte)

-- the state after a text
abbrev pub after_text : Reading → List ℕ → Reading
after_text reading [] = reading
after_text reading (byte ∷ bytes) = after_text (after_byte reading byte) bytes

-- the state before a text
abbrev pub start : Reading
start = record { words = []; word = []; is_begun = false; quote = None; escapes = false }

-- the words of a text
abbrev pub words_in : List ℕ → List (List ℕ)
words_in text = (ended (after_text start text)).words

-- the bytes of words
abbrev pub words_of : Vec (Vec ℕ Global) Global → List (List ℕ)
words_of words = map (λ word. word.items) words.items

-- the state of the code that reads words
abbrev pub reading_of : Reading-type → Reading
reading_of reading = record { words = words_of reading.words; word = reading.word.items; is_begun = reading.is_begun; quote = reading.quote; escapes = reading.escapes }

-- what is said of an argument whose file is too long
abbrev pub too_long : List ℕ → List ℕ
too_long argument = codes "demangle: " ++ argument ++ (codes ": more than " ++ (decimal LONGEST_FILE ++ (codes " bytes" ++ 10 ∷ [])))
