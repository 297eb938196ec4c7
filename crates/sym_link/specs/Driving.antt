-- How the values of code correspond to those of a reading.
use Rattle.std.specs.Prelude.{◌≡◌, List, [], ◌∷◌, Result, Err}
use Rattle.sym_core.specs.declared.refusal.Refusal.{Refusal}
use Rattle.sym_core.specs.declared.refusal.Refusal.TheVariants as refusals

-- each item denotes its value
abbrev pub AreAll : {P V : Type 0} → (P → V → Type 0) → List P → List V → Type 0
AreAll Is [] [] = Unit {0}
AreAll Is (p ∷ ps) (v ∷ vs) = Is p v × AreAll Is ps vs
AreAll Is _ _ = ⊥

-- a refusal is that of the reading, unless it is for want of memory
abbrev pub Fails : {A : Type 0} → Refusal → Result A Refusal → Type 0
Fails refusals.Memory read = Unit {0}
Fails e read = read ≡ Err e
