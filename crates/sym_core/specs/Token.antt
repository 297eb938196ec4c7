-- Tokens: names and numbers as they are in a symbol.
use Rattle.std.specs.Prelude.{◌≡◌, ◌≢◌, ℕ, ◌+◌, ◌-◌, ◌≤◌, List, [], ◌∷◌, ◌++◌, length, drop, Bool, true, false, not, ◌&&◌, ◌||◌, ◌==◌, nat_le, Result, Ok, Err, ⊤}
use Rattle.std.specs.List.{AllByRecursion}
use Rattle.sym_core.specs.Number.{is_decimal_digit, is_upper_letter, is_lower_letter, is_digit_of, AreDigitsOf, ending_of}
use Rattle.sym_core.specs.Value.{value_of}
use Rattle.sym_core.specs.declared.NumberKind.{NumberKind}
use Rattle.sym_core.specs.declared.NumberKind.TheVariants.{Length, Decimal, Seq36, Base62, Hex, Digits}
use Rattle.sym_core.specs.declared.NameClass.{NameClass}
use Rattle.sym_core.specs.declared.NameClass.TheVariants.{Cpp, Rust}
use Rattle.sym_core.specs.declared.tokens.TokenPlace.{TokenPlace}

-- a byte of a name
abbrev pub is_name_byte : NameClass → ℕ → Bool
is_name_byte Cpp b = nat_le 33 b && nat_le b 255 && not (b == 127)
is_name_byte Rust b = is_decimal_digit b || is_upper_letter b || is_lower_letter b || b == 95

-- each byte may be in a name
abbrev pub AreNameBytes : NameClass → List ℕ → Type 0
AreNameBytes names bytes = AllByRecursion (λ b. is_name_byte names b ≡ true) bytes

-- the bytes between a name's length and its own bytes
abbrev pub IsSeparator : NameClass → List ℕ → List ℕ → Type 0
-- a C++ name has at least one byte, and its first byte is no digit
IsSeparator Cpp [] [] = ⊥
IsSeparator Cpp [] (b ∷ bs) = is_decimal_digit b ≡ false
IsSeparator Cpp (c ∷ cs) bs = ⊥
-- without a separator the first byte of a Rust name is no digit, and no '_', which would be the separator
IsSeparator Rust [] [] = ⊤
IsSeparator Rust [] (b ∷ bs) = (is_decimal_digit b ≡ false) × (b ≢ 95)
IsSeparator Rust (c ∷ []) bs = c ≡ 95
IsSeparator Rust (c ∷ d ∷ cs) bs = ⊥

-- A token: the bytes before its own (a name's length and separator), its own bytes, and what ends a number.
pub record Token : Type 0 where
  pub before : List ℕ
  pub own : List ℕ
  pub behind : List ℕ

abbrev pub bytes_of : Token → List ℕ
bytes_of token = token.before ++ token.own ++ token.behind

-- a name: its length in decimal, maybe a separator, and that many bytes
pub record IsName (names : NameClass) (token : Token) : Type 0 where
  pub digits : List ℕ
  pub separator : List ℕ
  pub split : token.before ≡ digits ++ separator
  pub length_is : AreDigitsOf Length digits
  pub separated : IsSeparator names separator token.own
  pub each : AreNameBytes names token.own
  pub counted : length token.own ≡ value_of Length digits
  pub ends : token.behind ≡ []

pub record IsNumberToken (kind : NumberKind) (token : Token) : Type 0 where
  pub bare : token.before ≡ []
  pub digits : AreDigitsOf kind token.own
  pub ends : token.behind ≡ ending_of kind

-- the first byte of a number of the kind
abbrev pub begins_number : NumberKind → ℕ → Bool
begins_number Length b = is_decimal_digit b
begins_number Digits b = is_decimal_digit b
begins_number Decimal b = is_digit_of Decimal b || b == 95
begins_number Seq36 b = is_digit_of Seq36 b || b == 95
begins_number Base62 b = is_digit_of Base62 b || b == 95
begins_number Hex b = is_digit_of Hex b || b == 95

-- the byte may come after a name or a number, and isn't a part of it
abbrev pub ends_name : NameClass → ℕ → Bool
ends_name Cpp b = true
ends_name Rust b = not (b == 95)

abbrev pub ends_number : NumberKind → ℕ → Bool
ends_number Length b = not (is_decimal_digit b)
ends_number Digits b = not (is_decimal_digit b)
ends_number Decimal b = true
ends_number Seq36 b = true
ends_number Base62 b = true
ends_number Hex b = true

-- the longest token at the front of q, which begins at a place
pub record HasToken (Is : Token → Type 0) (q : List ℕ) (at : ℕ) (place : TokenPlace) : Type 0 where
  pub token : Token
  pub rest : List ℕ
  pub is : Is token
  pub split : q ≡ bytes_of token ++ rest
  pub from : place.from ≡ at + length token.before
  pub to : place.to ≡ at + length token.before + length token.own
  pub end : place.end ≡ at + length (bytes_of token)
  pub longest : (other : Token) (behind : List ℕ) → Is other → q ≡ bytes_of other ++ behind → length (bytes_of other) ≤ length (bytes_of token)

-- no token is at the front of q, and this is the length of the longest front that begins one
pub record HasNoToken (Is : Token → Type 0) (q : List ℕ) (size : ℕ) : Type 0 where
  pub front : List ℕ
  pub rest : List ℕ
  pub split : q ≡ front ++ rest
  pub size_is : length front ≡ size
  pub begun : Token
  pub more : List ℕ
  pub begins : Is begun
  pub begins_so : bytes_of begun ≡ front ++ more
  pub next : (b : ℕ) (r : List ℕ) (token : Token) (behind : List ℕ) → rest ≡ b ∷ r → Is token → bytes_of token ≡ front ++ b ∷ behind → ⊥
  pub none : (token : Token) (behind : List ℕ) → Is token → q ≡ bytes_of token ++ behind → ⊥

-- the result of finding a token: its place, or the place where it breaks off
abbrev pub FindsToken : (Token → Type 0) → List ℕ → ℕ → Result TokenPlace ℕ → Type 0
FindsToken Is bytes at (Ok place) = HasToken Is (drop at bytes) at place
FindsToken Is bytes at (Err bad) = (at ≤ bad) × HasNoToken Is (drop at bytes) (bad - at)
