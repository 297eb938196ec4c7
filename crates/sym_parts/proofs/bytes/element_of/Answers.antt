use Rattle.std.proofs.Common.{◌∙◌, sym, arith}
use Rattle.sym_parts.proofs.Spans.{element-itself, element-counted, element-beyond}
use Rattle.sym_parts.proofs.bytes.element_of.Goals as goal

pub returns-then-number-eq0 : goal.returns-then-number-eq0
returns-then-number-eq0 c = sym (element-itself c.args.elements.now c.args.item c.args.number c.if-number-eq0.true)

pub returns-then-before-item : goal.returns-then-before-item
returns-then-before-item c = c.or_others.ensures ∙ sym (element-counted c.args.elements.now c.args.item c.args.number c.if-number-eq0.false c.if-before-item.true)

pub returns : goal.returns
returns c = sym (element-beyond c.args.elements.now c.args.item c.args.number c.if-number-eq0.false (λ below. omega (arith, below, c.if-before-item.false)))
