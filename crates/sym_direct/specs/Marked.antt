-- Texts with stretches that are to be left out. One mark comes before such a stretch, and another one after it.
-- Stretches may be nested.
use Rattle.std.specs.Prelude.{◌≡◌, ◌≢◌, ℕ, zero, suc, ◌+◌, ◌-◌, List, [], ◌∷◌, ◌++◌, Bool, true, false, ◌||◌, nat_eq}
use Rattle.std.specs.List.{All}

-- the mark before a stretch, and the one after it
abbrev pub opens : ℕ
opens = 1

abbrev pub closes : ℕ
closes = 2

-- what is visible of a byte inside n stretches and of what follows
unfoldable pub unless_within : (depth byte : ℕ) → List ℕ → List ℕ
unless_within zero byte rest = byte ∷ rest
unless_within (suc depth) byte rest = rest

-- what is visible of bytes that begin inside n stretches
unfoldable pub visible : (depth : ℕ) → List ℕ → List ℕ
visible depth [] = []
visible depth (byte ∷ bytes) = elim (nat_eq byte opens) [
  | true ↦ visible (depth + 1) bytes
  | false ↦ elim (nat_eq byte closes) [
    | true ↦ visible (depth - 1) bytes
    | false ↦ unless_within depth byte (visible depth bytes)
  ]
]

-- the byte is a mark
abbrev pub is_mark : ℕ → Bool
is_mark byte = nat_eq byte opens || nat_eq byte closes

-- no byte of a text is a mark
abbrev pub is_unmarked : List ℕ → Bool
is_unmarked [] = true
is_unmarked (byte ∷ bytes) = elim (is_mark byte) [ true ↦ false | false ↦ is_unmarked bytes ]

abbrev pub IsUnmarked : List ℕ → Type 0
IsUnmarked bytes = is_unmarked bytes ≡ true

-- nothing is visible of bytes in a stretch
abbrev pub IsHidden : List ℕ → Type 0
IsHidden bytes = (depth : ℕ) (rest : List ℕ) → visible (suc depth) (bytes ++ rest) ≡ visible (suc depth) rest

-- this much is visible of bytes outside of all stretches
abbrev pub IsSeenAs : (bytes shown : List ℕ) → Type 0
IsSeenAs bytes shown = (rest : List ℕ) → visible 0 (bytes ++ rest) ≡ shown ++ visible 0 rest

-- none of the bytes is a 0
abbrev pub HasNoZero : List ℕ → Type 0
HasNoZero bytes = All (λ byte. byte ≢ 0) bytes
