use Rattle.sym_parts.proofs.Basics.{◌∙◌, sym, ap, once}
use Rattle.sym_parts.proofs.Spans.{once-here, once-later, once-none}
use Rattle.sym_parts.proofs.bytes.once.Goals as goal

pub returns-then-number : goal.returns-then-number
returns-then-number c =
    sym (c.spans.invariant ∙ ap (once c.args.others c.args.role) c.in-Some.ensures.cases.0
    ∙ once-here c.args.others c.args.role c.in-Some.first.now c.in-Some.rest.now (sym c.number.ensures ∙ c.if-number.true ∙ c.number-in-Some.ensures))

pub spans-preserved : goal.spans-preserved
spans-preserved c =
    c.spans.invariant ∙ ap (once c.args.others c.args.role) c.in-Some.ensures.cases.0
    ∙ once-later c.args.others c.args.role c.in-Some.first.now c.in-Some.rest.now (λ same. c.if-number.false (c.number.ensures ∙ same ∙ sym c.number-in-Some.ensures))

pub returns : goal.returns
returns c = once-none c.args.others c.args.role c.spans.left.now c.in_default.ensures.cases ∙ sym c.spans.invariant
