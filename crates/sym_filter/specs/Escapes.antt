-- Escapes of strings and of terminals, and the segments of a text, which end with them.
use Rattle.std.specs.Prelude.{ℕ, List, [], ◌∷◌, ◌++◌, codes, Bool, true, false, ◌==◌, ◌||◌, ◌&&◌, if◌then◌else◌}
use Rattle.sym_filter.specs.Bytes.{is_between}

abbrev pub is_empty : List ℕ → Bool
is_empty [] = true
is_empty (byte ∷ bytes) = false

abbrev pub is_letter : ℕ → Bool
is_letter byte = is_between 65 90 byte || is_between 97 122 byte

-- a hexadecimal digit
abbrev pub is_hex_digit : ℕ → Bool
is_hex_digit byte = is_between 48 57 byte || is_between 65 70 byte || is_between 97 102 byte

-- a digit, ':' or ';'
abbrev pub is_parameter : ℕ → Bool
is_parameter byte = is_between 48 59 byte

-- a backslash or ESC, with which escapes begin
abbrev pub is_lead : ℕ → Bool
is_lead byte = byte == 92 || byte == 27

-- what follows ESC and `[`: digits, ':' and ';', and a letter
abbrev pub ends_sequence : List ℕ → Bool
ends_sequence [] = false
ends_sequence (byte ∷ bytes) = if is_parameter byte then ends_sequence bytes else is_letter byte && is_empty bytes

-- what follows ESC
abbrev pub follows_esc : List ℕ → Bool
follows_esc [] = false
follows_esc (byte ∷ bytes) = byte == 91 && ends_sequence bytes

-- what follows a backslash and a 0: the digits `esc`, the rest of ESC in octal, and what may follow ESC
abbrev pub follows_octal : (esc : List ℕ) → List ℕ → Bool
follows_octal [] bytes = follows_esc bytes
follows_octal (digit ∷ esc) [] = false
follows_octal (digit ∷ esc) (byte ∷ bytes) = byte == digit && follows_octal esc bytes

-- a hexadecimal digit of ESC; the last one may be 'b' or 'B'
abbrev pub is_esc_digit : (digit : ℕ) → ℕ → Bool
is_esc_digit digit byte = byte == digit || (digit == 98 && byte == 66)

-- exactly as many hexadecimal digits as `esc` has
abbrev pub are_digits : (esc : List ℕ) → List ℕ → Bool
are_digits [] bytes = is_empty bytes
are_digits (digit ∷ esc) [] = false
are_digits (digit ∷ esc) (byte ∷ bytes) = is_hex_digit byte && are_digits esc bytes

-- As many hexadecimal digits as `esc`, the spelling of ESC, has. If the digits spell ESC themselves, what may follow ESC may
-- follow them.
abbrev pub follows_hex : (esc : List ℕ) → List ℕ → Bool
follows_hex [] bytes = is_empty bytes || follows_esc bytes
follows_hex (digit ∷ esc) [] = false
follows_hex (digit ∷ esc) (byte ∷ bytes) = if is_esc_digit digit byte then follows_hex esc bytes else is_hex_digit byte && are_digits esc bytes

-- `n`, `r` or `t`
abbrev pub is_blank_name : ℕ → Bool
is_blank_name byte = byte == 110 || byte == 114 || byte == 116

-- what follows a backslash: `n`, `r` or `t`; `u` and four hexadecimal digits; `x` and two; or `e`, `033`, `u001b` or
-- `x1b` for ESC and what may follow ESC
abbrev pub follows_backslash : List ℕ → Bool
follows_backslash [] = false
follows_backslash (byte ∷ bytes) =
    if is_blank_name byte then is_empty bytes
    else (if byte == 117 then follows_hex (codes "001b") bytes
    else (if byte == 120 then follows_hex (codes "1b") bytes
    else (if byte == 48 then follows_octal (codes "33") bytes
    else byte == 101 && follows_esc bytes)))

-- whether bytes are an escape: a backslash or ESC, and then what may follow it
abbrev pub is_escape : List ℕ → Bool
is_escape [] = false
is_escape (byte ∷ bytes) = if byte == 92 then follows_backslash bytes else byte == 27 && follows_esc bytes

-- the bytes from the last backslash or ESC on, with one more byte
abbrev pub since_lead : List ℕ → ℕ → List ℕ
since_lead since byte = if is_lead byte then byte ∷ [] else since ++ byte ∷ []

-- The segment at the front of a text: the bytes up to the end of the first escape, or all bytes. `since` has the bytes
-- before the text, from the last backslash or ESC on.
abbrev pub first_segment : (since : List ℕ) → List ℕ → List ℕ
first_segment since [] = []
first_segment since (byte ∷ text) = byte ∷ (if is_escape (since_lead since byte) then [] else first_segment (since_lead since byte) text)

-- the segments after the first: one, maybe empty, after the end of each escape
abbrev pub later_segments : (since : List ℕ) → List ℕ → List (List ℕ)
later_segments since [] = []
later_segments since (byte ∷ text) =
    if is_escape (since_lead since byte) then first_segment (since_lead since byte) text ∷ later_segments (since_lead since byte) text
    else later_segments (since_lead since byte) text

-- the segments of a text, which is cut after each of its escapes
abbrev pub segments_of : List ℕ → List (List ℕ)
segments_of text = first_segment [] text ∷ later_segments [] text
