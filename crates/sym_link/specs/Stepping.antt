-- How many steps a driver takes for a tree, and how many are left to take.
use Rattle.std.specs.Prelude.{◌≡◌, ℕ, ◌+◌, List, [], ◌∷◌, Bool, true, false, if◌then◌else◌}
use Rattle.sym_shape.specs.Tree.{Tree, Forest, branch, empty, token, fixed, nothing, grown}
use Rattle.sym_link.specs.Machine.{Frame}

-- none of the parts has a row
abbrev pub no_part_has_row : Forest → Bool
no_part_has_row nothing = true
no_part_has_row (grown empty rest) = no_part_has_row rest
no_part_has_row (grown (fixed byte) rest) = no_part_has_row rest
no_part_has_row (grown (token t) rest) = false
no_part_has_row (grown (branch rule taken parts) rest) = false

-- A rule with such parts closes in the step that begins it: none of them has a row, or only a token has one.
abbrev pub closes_at_once : Forest → Bool
closes_at_once nothing = true
closes_at_once (grown empty rest) = closes_at_once rest
closes_at_once (grown (fixed byte) rest) = closes_at_once rest
closes_at_once (grown (token t) rest) = no_part_has_row rest
closes_at_once (grown (branch rule taken parts) rest) = false

-- how many steps the driver takes for a tree: it begins and closes each rule, in the same step if possible, and takes each
-- token
abbrev mutual
  pub link_steps : Tree → ℕ
  link_steps (branch rule taken parts) = if closes_at_once parts then 1 else (2 + link_steps_all parts)
  link_steps empty = 0
  link_steps (token t) = 1
  link_steps (fixed byte) = 0

  pub link_steps_all : Forest → ℕ
  link_steps_all nothing = 0
  link_steps_all (grown tree rest) = link_steps tree + link_steps_all rest

-- the steps that are left: between two steps, or within the step that begins the innermost rule and ends with at most n nodes
pub data Due : Type 0 where
  waiting : ℕ → Due
  starting : (steps most : ℕ) → Due

-- the steps for the remaining parts of the open rules, and for closing these rules
abbrev pub steps_ahead : {V S C : Type 0} → List (Frame V S C) → ℕ
steps_ahead [] = 0
steps_ahead (top ∷ frames) = link_steps_all top.left + 1 + steps_ahead frames

-- n steps are left with these open rules
abbrev pub IsDue : {V S C : Type 0} → Due → List (Frame V S C) → Type 0
IsDue (waiting n) frames = steps_ahead frames ≡ n
IsDue (starting n most) [] = ⊥
IsDue (starting n most) (top ∷ frames) = (if closes_at_once top.left then 0 else (link_steps_all top.left + 1)) + steps_ahead frames ≡ n

-- where a rule closes, n steps are left after it
abbrev pub CountsClose : Due → ℕ → Type 0
CountsClose (waiting m) n = m ≡ n + 1
CountsClose (starting m most) n = m ≡ n

-- When a token is taken, with n rows of its rule after it, these steps are left. The only token of a rule that begins takes no
-- step of its own, and the rule still has to close.
abbrev pub CountsToken : Due → (behind : ℕ) → ℕ → Type 0
CountsToken (waiting m) behind n = m ≡ n + 1
CountsToken (starting m most) behind n = (n ≡ m + 1) × (behind ≡ 0)
