use Rattle.std.proofs.Common.{arith}
use Rattle.short_names.proofs.ElementLemmas.{starts-length, end-none, end-next, end-all}
use Rattle.short_names.proofs.elements.Elements.end.Goals as goal

pub bounds-self-0 : goal.bounds-self-0
bounds-self-0 c = omega (arith, c.requires.1.some, starts-length _ _ c.requires.0 c.requires.1)

pub overflow_sub-result : goal.overflow_sub-result
overflow_sub-result c = (end-next _ _ c.requires.0 c.requires.1 c.args.count c.if-count-eq0.false c.if-count-self.true).0

pub returns-then-count-eq0 : goal.returns-then-count-eq0
returns-then-count-eq0 c = λ elements e. end-none _ _ elements e c.args.count c.if-count-eq0.true

pub returns-then-count-self : goal.returns-then-count-self
returns-then-count-self c = λ elements e. (end-next _ _ elements e c.args.count c.if-count-eq0.false c.if-count-self.true).1

pub returns-else-count-self : goal.returns-else-count-self
returns-else-count-self c = λ elements e. end-all _ _ elements e c.args.count c.if-count-self.false
