-- The parts of a rule: those that it has passed, and those that are left.
use Rattle.std.specs.Prelude.{◌≡◌, ℕ, ◌+◌, ◌<◌, List, ◌++◌, length, drop}
use Rattle.sym_shape.specs.Table.{Table, symbols_of}
use Rattle.sym_shape.specs.Tree.{Forest, branch, empty, token, fixed, nothing, grown, spell_all, TakesRule, AreTrees}
use Rattle.sym_link.specs.Reading.{Open}

-- the parts after the first parts that have no row
abbrev pub skipped : Forest → Forest
skipped (grown empty rest) = skipped rest
skipped (grown (fixed byte) rest) = skipped rest
skipped left = left

-- the first parts that have no row
abbrev pub passed_by : Forest → Forest
passed_by (grown empty rest) = grown empty (passed_by rest)
passed_by (grown (fixed byte) rest) = grown (fixed byte) (passed_by rest)
passed_by left = nothing

-- the place after the first parts that have no row, if all parts begin at a place
abbrev pub skipped_from : (from : ℕ) → Forest → ℕ
skipped_from from (grown empty rest) = skipped_from from rest
skipped_from from (grown (fixed byte) rest) = skipped_from (from + 1) rest
skipped_from from left = from

-- some parts, and others after them
abbrev pub joined : Forest → Forest → Forest
joined nothing others = others
joined (grown first rest) others = grown first (joined rest others)

-- how many values parts have, if a part without a row has n values and each other part one
abbrev pub values_in : (rowless : ℕ) → Forest → ℕ
values_in rowless nothing = 0
values_in rowless (grown empty rest) = rowless + values_in rowless rest
values_in rowless (grown (fixed byte) rest) = rowless + values_in rowless rest
values_in rowless (grown (token t) rest) = 1 + values_in rowless rest
values_in rowless (grown (branch rule taken parts) rest) = 1 + values_in rowless rest

-- A rule of the grammar is in a symbol. This many values of its passed parts are known; `left` are its other parts, which begin
-- at a place.
pub record Stands {S C : Type 0} (g : Table) (s : List ℕ) (rowless : ℕ) (rule : Open S C) (held from : ℕ) (left : Forest) : Type 0 where
  pub kind : ℕ
  pub is_kind : kind < g.kinds
  pub takes : TakesRule g kind rule.rule rule.taken
  pub passed : Forest
  pub trees : AreTrees g (symbols_of rule.rule) (joined passed left)
  pub counted : held ≡ values_in rowless passed
  pub starts : from ≡ rule.place + length rule.taken + length (spell_all passed)
  pub behind : List ℕ
  pub spelled : drop rule.place s ≡ rule.taken ++ (spell_all (joined passed left) ++ behind)
