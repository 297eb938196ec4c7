-- A computable test of a sheet of rules: each tree of the grammar adds at most two nodes for each of its bytes. A kind has a
-- slack: a tree of that kind adds at most two nodes for each byte, plus the kind's slack less the base.
use Rattle.std.specs.Prelude.{ℕ, ◌+◌, List, [], ◌∷◌, get_or, Bool, true, not, ◌&&◌, ◌||◌, nat_le, cond}
use Rattle.sym_core.specs.declared.NameClass.{NameClass}
use Rattle.sym_core.specs.declared.NameClass.TheVariants.{Cpp, Rust}
use Rattle.sym_shape.specs.declared.rule.Rule.{Rule}
use Rattle.sym_shape.specs.declared.rule.Sym.{Sym}
use Rattle.sym_shape.specs.declared.rule.Sym.TheVariants.{Kind, Name, Number, Byte}
use Rattle.sym_shape.specs.declared.sheet.Choice.{Choice}
use Rattle.sym_shape.specs.Sheet.{KindSheet}
use Rattle.sym_shape.specs.Table.{symbols_of}
use Rattle.sym_link.specs.Owing.{Owes}

-- what the fewest bytes of a name pay for
abbrev pub name_pays : NameClass → ℕ
name_pays Cpp = 4
name_pays Rust = 2

module _ (owes : Owes) (names : NameClass) (base : ℕ) (slack : List ℕ) where
  abbrev pub slack_of : ℕ → ℕ
  slack_of k = get_or slack k 0

  -- what these symbols pay for, if each kind among them pays for the base; and the slack that their kinds need
  abbrev pub paid : List Sym → ℕ
  paid [] = 0
  paid (Kind k ∷ ss) = base + paid ss
  paid (Name ∷ ss) = name_pays names + paid ss
  paid (Number kind ∷ ss) = 2 + paid ss
  paid (Byte b ∷ ss) = 2 + paid ss

  abbrev pub needed : List Sym → ℕ
  needed [] = 0
  needed (Kind k ∷ ss) = slack_of k + needed ss
  needed (Name ∷ ss) = needed ss
  needed (Number kind ∷ ss) = needed ss
  needed (Byte b ∷ ss) = needed ss

  -- the rule keeps within the slack of its kind, if its parts keep within theirs
  abbrev pub is_paid_rule : ℕ → Rule → Bool
  is_paid_rule k rule = nat_le (owes rule.number 0 + needed (symbols_of rule) + base) (slack_of k + paid (symbols_of rule) + cond rule.eats 2 0)

  abbrev pub are_paid_choices : ℕ → List Choice → Bool
  are_paid_choices k [] = true
  are_paid_choices k (c ∷ cs) = is_paid_rule k c.rule && are_paid_choices k cs

  abbrev pub is_paid_kind : ℕ → KindSheet → Bool
  is_paid_kind k s = are_paid_choices k s.choices && (not s.may_be_empty || nat_le base (slack_of k))

  abbrev pub are_paid_kinds : ℕ → List KindSheet → Bool
  are_paid_kinds k [] = true
  are_paid_kinds k (s ∷ ss) = is_paid_kind k s && are_paid_kinds (k + 1) ss
