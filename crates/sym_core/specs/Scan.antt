-- What is seen while numbers and names are scanned.
use Rattle.std.specs.Prelude.{◌≡◌, ℕ, ◌<◌, ◌≤◌, Bool, true, false, ◌&&◌, ◌==◌, nat_lt, List, [], ◌∷◌, ◌++◌, length, get_or, ◌⊎◌, ⊤}
use Rattle.sym_core.specs.Number.{is_decimal_digit, is_digit_of, AreDigits}
use Rattle.sym_core.specs.Token.{is_name_byte, AreNameBytes}
use Rattle.sym_core.specs.declared.NumberKind.{NumberKind}
use Rattle.sym_core.specs.declared.NumberKind.TheVariants.{Length, Decimal, Seq36, Base62, Hex, Digits}
use Rattle.sym_core.specs.declared.NameClass.{NameClass}
use Rattle.sym_core.specs.declared.NameClass.TheVariants.{Cpp, Rust}

-- a number at the front of q has at most this many digits, if the kind has a limit
abbrev pub IsLimit : NumberKind → List ℕ → ℕ → Type 0
IsLimit Length q most = ((most ≡ 1) × ((r : List ℕ) × (q ≡ 48 ∷ r))) ⊎ ((most ≡ 9) × ((r : List ℕ) → q ≡ 48 ∷ r → ⊥))
IsLimit Base62 q most = most ≡ 11
IsLimit Decimal q most = length q < most
IsLimit Seq36 q most = length q < most
IsLimit Hex q most = length q < most
IsLimit Digits q most = length q < most

-- the first of these bytes, if there is one, fails the test
abbrev pub StopsAt : (ℕ → Bool) → List ℕ → Type 0
StopsAt p [] = ⊤
StopsAt p (b ∷ w) = p b ≡ false

-- the run of digits at the front of q, up to a limit
pub record IsRun (kind : NumberKind) (q : List ℕ) (most size : ℕ) : Type 0 where
  pub front : List ℕ
  pub rest : List ℕ
  pub split : q ≡ front ++ rest
  pub size_is : length front ≡ size
  pub each : AreDigits kind front
  pub few : size ≤ most
  pub ends : (size ≡ most) ⊎ StopsAt (is_digit_of kind) rest

-- the numbers of the kind end in an '_'
abbrev pub is_marked : NumberKind → Bool
is_marked Length = false
is_marked Digits = false
is_marked Decimal = true
is_marked Seq36 = true
is_marked Base62 = true
is_marked Hex = true

-- these bytes begin with a separator of n bytes, or with none if n is 0
abbrev pub IsSeparated : NameClass → List ℕ → ℕ → Type 0
IsSeparated Cpp tail n = n ≡ 0
IsSeparated Rust tail n = ((n ≡ 1) × ((r : List ℕ) × (tail ≡ 95 ∷ r))) ⊎ ((n ≡ 0) × ((r : List ℕ) → tail ≡ 95 ∷ r → ⊥))

-- a name of this length would begin with a digit straight after its length
abbrev pub is_bare_digit : ℕ → ℕ → List ℕ → Bool
is_bare_digit most skipped [] = false
is_bare_digit most skipped (b ∷ own) = nat_lt 0 most && skipped == 0 && is_decimal_digit b

-- the bytes before a place may be in a name
abbrev pub ReachesNameBytes : NameClass → List ℕ → ℕ → Type 0
ReachesNameBytes names bytes end = (k : ℕ) → k < end → is_name_byte names (get_or bytes k 0) ≡ true

-- the first n of the bytes are a name's own: as many as allowed, or up to the first that may not be in a name
pub record IsOwn (names : NameClass) (bytes : List ℕ) (most size : ℕ) : Type 0 where
  pub part : List ℕ
  pub rest : List ℕ
  pub split : bytes ≡ part ++ rest
  pub size_is : length part ≡ size
  pub each : AreNameBytes names part
  pub few : size ≤ most
  pub stops : size < most → (b : ℕ) (r : List ℕ) → rest ≡ b ∷ r → is_name_byte names b ≡ false

-- no name may have this length
abbrev pub IsNameless : NameClass → ℕ → Type 0
IsNameless Cpp most = most ≡ 0
IsNameless Rust most = ⊥
