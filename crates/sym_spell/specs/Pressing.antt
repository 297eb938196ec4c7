-- Spellings in which a repeated part is a reference: their bytes, and the components that references may name.
use Rattle.std.specs.Prelude.{ℕ, ◌+◌, List, [], ◌∷◌, ◌++◌, length}

-- the bytes that are spelled, and the components so far
pub record Pressed (C : Type 0) : Type 0 where
  pub bytes : List ℕ
  pub components : List C

-- a spelling, by the place at which it begins and the components before it
abbrev pub Pressing : Type 0 → Type 0
Pressing C = (place : ℕ) → List C → Pressed C

infixr 5 ◌and◌
abbrev pub ◌and◌ : {C : Type 0} → Pressing C → Pressing C → Pressing C
(first and rest) place components =
    let one = first place components in
    let others = rest (place + length one.bytes) one.components in
    record { bytes = one.bytes ++ others.bytes; components = others.components }

-- spellings of fixed bytes, of a letter and of nothing; they add no component
abbrev pub text : {C : Type 0} → List ℕ → Pressing C
text bytes place components = record { bytes = bytes; components = components }

abbrev pub letter : {C : Type 0} → ℕ → Pressing C
letter byte = text (byte ∷ [])

abbrev pub nothing : {C : Type 0} → Pressing C
nothing = text []
