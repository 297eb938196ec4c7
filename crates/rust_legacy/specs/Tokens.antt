-- The tokens of a name: what its bytes are shown as.
use Rattle.std.specs.Prelude.{ℕ, zero, suc, ◌+◌, ◌-◌, ◌==◌, ◌&&◌, ◌||◌, nat_le, nat_lt, Bool, not, List, [], ◌∷◌, length, take, drop, codes, Option, Some, None, if◌then◌else◌, encode_utf8_all}
use Rattle.std.specs.List.{prefix_len}
use Rattle.sym_core.specs.Number.{is_digit_of}
use Rattle.sym_core.specs.Value.{value_of}
use Rattle.sym_core.specs.declared.NumberKind.TheVariants.{Hex}
use Rattle.rust_legacy.specs.Path.{begins_with}

-- a text, and how many bytes denote it
pub record Token : Type 0 where
  pub text : List ℕ
  pub size : ℕ

-- the number of a character that is no control: U+0020 to U+007E, and from U+00A0 on all but surrogates
abbrev pub is_shown : ℕ → Bool
is_shown code = (nat_le 32 code && nat_lt code 127) || (nat_le 160 code && nat_lt code 55296) || (nat_le 57344 code && nat_lt code 1114112)

-- a token that shows the character of an escape of n bytes
abbrev pub token_as : (code size : ℕ) → Token
token_as code size = record { text = encode_utf8_all (code ∷ []); size = size }

-- $u, the number of a character by one to six digits, and $
abbrev pub numbered : List ℕ → Option Token
numbered bytes =
    let count = prefix_len (is_digit_of Hex) (drop 2 bytes) in
    let code = value_of Hex (take count (drop 2 bytes)) in
    if nat_lt 0 count && nat_le count 6 && begins_with (codes "$") (drop (2 + count) bytes) && is_shown code
    then Some (token_as code (3 + count))
    else None

abbrev pub either : Bool → (code size : ℕ) → Option Token → Option Token
either test code size other = if test then Some (token_as code size) else other

-- the escape at the front: @ * & < > ( ) or a comma by its letters, any other character by its number
abbrev pub escape_of : List ℕ → Option Token
escape_of bytes =
    either (begins_with (codes "$SP$") bytes) 64 4 (either (begins_with (codes "$BP$") bytes) 42 4 (either (begins_with (codes "$RF$") bytes) 38 4
    (either (begins_with (codes "$LT$") bytes) 60 4 (either (begins_with (codes "$GT$") bytes) 62 4 (either (begins_with (codes "$LP$") bytes) 40 4
    (either (begins_with (codes "$RP$") bytes) 41 4 (either (begins_with (codes "$C$") bytes) 44 3
    (if begins_with (codes "$u") bytes then numbered bytes else None))))))))

-- a byte that denotes itself
abbrev pub is_plain : ℕ → Bool
is_plain byte = not ((byte == 46) || (byte == 36))

-- a dollar that begins no escape denotes itself, and so do all bytes after it
abbrev pub or_all : List ℕ → Option Token → Token
or_all bytes None = record { text = bytes; size = length bytes }
or_all bytes (Some token) = token

-- the first token of bytes: two dots denote ::, one dot denotes itself, and an escape denotes its character; any other token
-- is the bytes up to the next dot or dollar, which denote themselves
abbrev pub token_of : List ℕ → Token
token_of bytes =
    if begins_with (codes "..") bytes then record { text = codes "::"; size = 2 }
    else (if begins_with (codes ".") bytes then record { text = codes "."; size = 1 }
    else (if begins_with (codes "$") bytes then or_all bytes (escape_of bytes)
    else record { text = take (prefix_len is_plain bytes) bytes; size = prefix_len is_plain bytes }))

-- the texts of the first tokens of bytes, at most n; each token has at least one byte
abbrev pub texts_in : (most : ℕ) → List ℕ → List (List ℕ)
texts_in zero bytes = []
texts_in (suc most) [] = []
texts_in (suc most) (byte ∷ rest) = (token_of (byte ∷ rest)).text ∷ texts_in most (drop ((token_of (byte ∷ rest)).size - 1) rest)

-- the texts of all tokens of bytes
abbrev pub texts_of : List ℕ → List (List ℕ)
texts_of bytes = texts_in (length bytes) bytes

-- a name without the underscore before an escape
abbrev pub bare_name : List ℕ → List ℕ
bare_name name = if begins_with (codes "_$") name then drop 1 name else name
