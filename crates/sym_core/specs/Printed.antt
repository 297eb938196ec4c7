-- The printed bytes of names and decimals.
use Rattle.std.specs.Prelude.{◌≡◌, ◌<◌, ◌≤◌, ℕ, length, List, [], ◌∷◌, ◌++◌, Bool, true, false, Option, Some, None, option_and_then, ◌||◌, ◌==◌, nat_le, decimal, codes, encode_utf8_all, unwrap_or, if◌then◌else◌}
use Rattle.std.specs.List.{list_all}
use Rattle.idna.specs.Punycode.{decode}
use Rattle.unicode_ident.specs.Ident.{is_xid_continue}

-- a minus, if one is requested, and the decimal
abbrev pub signed_text : Bool → ℕ → List ℕ
signed_text minus value = (if minus then 45 ∷ [] else []) ++ decimal value

-- an underscore is in the bytes
abbrev pub has_underscore : List ℕ → Bool
has_underscore [] = false
has_underscore (byte ∷ rest) = (byte == 95) || has_underscore rest

-- the bytes with their last underscore, if any, as a hyphen
unfoldable pub hyphenated : List ℕ → List ℕ
hyphenated [] = []
hyphenated (byte ∷ rest) =
    if has_underscore rest then byte ∷ hyphenated rest
    else (if byte == 95 then 45 ∷ rest else byte ∷ rest)

-- the text of the characters, if each of them may be in an identifier
abbrev pub identifier_text : List ℕ → Option (List ℕ)
identifier_text chars = if list_all is_xid_continue chars then Some (encode_utf8_all chars) else None

-- the text that a Punycode name denotes, if the name isn't too long to be decoded, and the text is an identifier
abbrev pub decoded_name : List ℕ → Option (List ℕ)
decoded_name bytes = if nat_le (length bytes) 2000 then option_and_then identifier_text (decode (hyphenated bytes)) else None

-- the name is to be decoded: it has the mark, and some bytes but not too many
abbrev pub IsDecoded : Bool → List ℕ → Type 0
IsDecoded puny bytes = (puny ≡ true) × (0 < length bytes) × (length bytes ≤ 2000)

-- what a Rust name prints
abbrev pub printed_name : Bool → List ℕ → List ℕ
printed_name false bytes = bytes
printed_name true [] = []
printed_name true (byte ∷ rest) = unwrap_or (decoded_name (byte ∷ rest)) (codes "punycode{" ++ ((byte ∷ rest) ++ codes "}"))
