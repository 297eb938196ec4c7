-- Strings in a line of JSON: where they begin and end, what their bytes mean, and the laws of escaped texts within them.
use Rattle.std.specs.Prelude.{◌≡◌, ◌≢◌, ℕ, List, [], ◌∷◌, ◌++◌, ◌==◌, if◌then◌else◌}
use Rattle.std.specs.List.{All}
use Rattle.demangle_names.specs.Escaped.{escaped}

-- where a byte of the line is: outside of strings, within a string, or after a backslash within a string
pub data Place : Type 0 where
  outside : Place
  within : Place
  escaping : Place

-- where the byte after this one is
abbrev pub after_byte : Place → ℕ → Place
after_byte outside byte = if byte == 34 then within else outside
after_byte within byte = if byte == 34 then outside else (if byte == 92 then escaping else within)
after_byte escaping byte = within

-- where the byte after some bytes is
abbrev pub after_bytes : Place → List ℕ → Place
after_bytes place [] = place
after_bytes place (byte ∷ bytes) = after_bytes (after_byte place byte) bytes

-- The bytes that a string's bytes mean. The only escapes are those of a quote and of a backslash.
abbrev pub unescaped : Place → List ℕ → List ℕ
unescaped place [] = []
unescaped outside (byte ∷ bytes) = byte ∷ unescaped within bytes
unescaped within (byte ∷ bytes) = if byte == 92 then unescaped escaping bytes else byte ∷ unescaped within bytes
unescaped escaping (byte ∷ bytes) = byte ∷ unescaped within bytes

-- an escaped text means the text
abbrev pub ReadsBack : Type 0
ReadsBack = (text : List ℕ) → unescaped within (escaped text) ≡ text

-- an escaped text ends no string, and doesn't escape the byte after it
abbrev pub StaysWithin : Type 0
StaysWithin = (text : List ℕ) → after_bytes within (escaped text) ≡ within

-- a byte that is neither a quote nor a backslash, like each byte of a word
abbrev pub IsPlain : ℕ → Type 0
IsPlain byte = (byte ≢ 34) × (byte ≢ 92)

-- After an escaped text that replaces a word of a string, a line continues as it did after the word.
abbrev pub KeepsStrings : Type 0
KeepsStrings = (front word back text : List ℕ) → after_bytes outside front ≡ within → All IsPlain word →
    after_bytes outside (front ++ escaped text ++ back) ≡ after_bytes outside (front ++ word ++ back)
