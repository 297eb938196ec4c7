use Rattle.std.proofs.Common.{◌≡◌, length}
use Rattle.sym_spell.specs.Numbers.{AreCounted}
use Rattle.sym_spell.proofs.numbers.Numbers.of_firsts.Given as goal

abbrev pub invariant-loop-node : goal.invariant-loop-node
invariant-loop-node l = AreCounted l.firsts l.numbers.items l.entries.keys × (length l.numbers.items ≡ l.node) × (l.looks ≡ l.node)
