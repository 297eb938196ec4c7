use Rattle.std.proofs.Common.{refl}
use Rattle.sym_spell.specs.Firsts.{text_mark}
use Rattle.sym_spell.proofs.Placed.{empty-mark}
use Rattle.sym_spell.proofs.firsts.text_mark.Goals as goal

pub returns-then-count-eq0-clause-mark : goal.returns-then-count-eq0-clause-mark
returns-then-count-eq0-clause-mark c = empty-mark c.args.text.now c.if-count-eq0.true

pub returns-clause-mark : goal.returns-clause-mark
unfolding text_mark
returns-clause-mark c = refl
