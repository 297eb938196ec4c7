-- What linking requires of a table. The table with which symbols are read keeps more laws (`IsLawful`), and may have fewer
-- trees than the table with which they are linked.
use Rattle.sym_shape.specs.declared.rule.TheConstants.{TOKEN}
use Rattle.std.specs.Prelude.{◌≡◌, ℕ, ◌<◌, List, [], ◌++◌, Some}
use Rattle.sym_shape.specs.declared.rule.Rule.{Rule}
use Rattle.sym_shape.specs.declared.rule.Sym.TheVariants.{Kind}
use Rattle.sym_shape.specs.Table.{Table, symbols_of}
use Rattle.sym_shape.specs.Law.{AreSymbols, IsLawful}
use Rattle.sym_shape.specs.Tree.{Forest, branch, spell_all, IsTree}
use Rattle.sym_shape.proofs.Firsts.{branch_filled}

pub record IsSound (g : Table) : Type 0 where
  pub start : 0 < g.kinds
  pub number : (k b : ℕ) (rule : Rule) → k < g.kinds → b < 256 → g.rule k b ≡ Some rule → rule.number < TOKEN
  pub symbols : (k b : ℕ) (rule : Rule) → k < g.kinds → b < 256 → g.rule k b ≡ Some rule → AreSymbols g (symbols_of rule)
  -- a rule's tree isn't empty
  pub filled : (k : ℕ) (rule : Rule) (taken : List ℕ) (parts : Forest) → k < g.kinds → IsTree g (Kind k) (branch rule taken parts) → taken ++ spell_all parts ≡ [] → ⊥

pub lawful_sound : (g : Table) → IsLawful g → IsSound g
lawful_sound g lawful = record {
  start = lawful.start;
  number = λ k b rule lt byte found. (lawful.rule k b rule lt byte found).number;
  symbols = λ k b rule lt byte found. (lawful.rule k b rule lt byte found).symbols;
  filled = branch_filled g lawful;
}
