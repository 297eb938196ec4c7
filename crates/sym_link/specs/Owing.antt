-- How many nodes the rules of a tree may add, where a rule says how many it may still add.
use Rattle.std.specs.Prelude.{ℕ, ◌+◌, List, [], ◌∷◌, length}
use Rattle.sym_shape.specs.Tree.{Tree, Forest, branch, empty, token, fixed, nothing, grown}
use Rattle.sym_link.specs.Machine.{Frame}

-- how many nodes the rule of a number may still add, once n of its parts have values
abbrev pub Owes : Type 0
Owes = (number held : ℕ) → ℕ

-- what the rules of a tree may add
abbrev mutual
  pub cost : Owes → Tree → ℕ
  cost owes (branch rule taken parts) = owes rule.number 0 + cost_all owes parts
  cost owes empty = 0
  cost owes (token t) = 0
  cost owes (fixed byte) = 0

  pub cost_all : Owes → Forest → ℕ
  cost_all owes nothing = 0
  cost_all owes (grown tree rest) = cost owes tree + cost_all owes rest

-- How many nodes the open rules and their remaining parts may still add, with n values of the innermost rule known.
abbrev pub owed : {V S C : Type 0} → Owes → List (Frame V S C) → (held : ℕ) → ℕ
owed owes [] held = 0
owed owes (top ∷ frames) held = owes top.rule.rule.number held + cost_all owes top.left + owed owes frames (length top.outer + 1)
