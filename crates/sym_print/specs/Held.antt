-- A list of parts and its capacity.
use Rattle.std.specs.Prelude.{ℕ, List, [], ◌∷◌, ◌++◌}
use Rattle.sym_print.specs.declared.layout.Part.{Part}

pub record Held (C : Type 0) : Type 0 where
  pub items : List (Part C)
  pub capacity : ℕ

-- the list with one more part
abbrev pub with_part : {C : Type 0} → Held C → Part C → Held C
with_part held part = record { items = held.items ++ part ∷ []; capacity = held.capacity }
