use Rattle.cpp_tree.proofs.Compacting.{some-packs, other-packs}
use Rattle.cpp_tree.proofs.notes.packs_of_two.Goals as goal

pub returns-then-one-eq0 : goal.returns-then-one-eq0
returns-then-one-eq0 c = other-packs c.args.one.packs c.args.other.packs c.if-one-eq0.true

pub returns-else-one-eq0 : goal.returns-else-one-eq0
returns-else-one-eq0 c = some-packs c.args.one.packs c.args.other.packs c.if-one-eq0.false
