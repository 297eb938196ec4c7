-- Where a list has no room for what is put on it, so that memory has to be taken.
use Rattle.std.specs.Prelude.{◌≡◌, ℕ, ◌+◌, ◌<◌, ◌≤◌, ◌⊎◌, List, [], ◌∷◌, length, Vec, vec_capacity, Result, Err}
use Rattle.std.specs.Global.{Global}
use Rattle.sym_core.specs.declared.refusal.Refusal.{Refusal}
use Rattle.sym_core.specs.declared.refusal.Refusal.TheVariants.{Memory}

-- a list: how many items it has room for without taking memory, how many it holds, and at most how many are put on it at once
pub record Listed : Type 0 where
  pub room : ℕ
  pub held : ℕ
  pub most : ℕ

-- a list that takes one item at a time
abbrev pub one_by_one : {A : Type 0} → Vec A Global → Listed
one_by_one items = record { room = vec_capacity items; held = length items.items; most = 1 }

-- each list has as much room as before, or more
abbrev pub KeepRoom : (old new : List Listed) → Type 0
KeepRoom [] [] = Unit {0}
KeepRoom (x ∷ xs) (y ∷ ys) = (x.room ≤ y.room) × KeepRoom xs ys
KeepRoom _ _ = ⊥

-- one of the lists had no room for what it holds now and for what may be put on it at once
abbrev pub LackRoom : (old new : List Listed) → Type 0
LackRoom (x ∷ xs) (y ∷ ys) = (x.room < y.held + y.most) ⊎ LackRoom xs ys
LackRoom _ _ = ⊥

-- `Memory` is answered only where a list had no room, or for what takes memory of its own.
abbrev pub OnlyForRoom : {A : Type 0} → (apart : Type 0) → (old new : List Listed) → Result A Refusal → Type 0
OnlyForRoom apart old new result = result ≡ Err Memory → LackRoom old new ⊎ apart
