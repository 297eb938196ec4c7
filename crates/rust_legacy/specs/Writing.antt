-- The effect of a call that writes a text and pays its cost.
use Rattle.std.specs.Prelude.{◌≡◌, ℕ, ◌+◌, ◌<◌, ◌≤◌, ◌⊎◌, List, ◌++◌, length, take, Vec, vec_len, vec_capacity}
use Rattle.std.specs.Global.{Global}
use Rattle.sym_core.specs.declared.refusal.Refusal.{Refusal}
use Rattle.sym_core.specs.declared.refusal.Refusal.TheVariants.{Memory, TooLong}

-- the text was appended, and its cost was paid
abbrev pub IsWritten : (left now : ℕ) (text : List ℕ) (cost : ℕ) → (old new : List ℕ) → Type 0
IsWritten left now text cost old new = (now + cost ≡ left) × (new ≡ old ++ text)

-- the text was refused: the list had no room for it, or it costs more than is left to spend
abbrev pub IsRefused : Refusal → (left : ℕ) (text : List ℕ) (cost : ℕ) → Vec ℕ Global → Type 0
IsRefused refusal left text cost old = ((refusal ≡ Memory) × (vec_capacity old < vec_len old + length text)) ⊎ ((refusal ≡ TooLong) × (left < cost))

-- what the list held stays, and its room doesn't shrink
pub record Keeps (old new : Vec ℕ Global) : Type 0 where
  pub front : take (vec_len old) new.items ≡ old.items
  pub capacity : vec_capacity old ≤ vec_capacity new
