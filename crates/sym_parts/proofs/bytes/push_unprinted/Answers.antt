use Rattle.sym_parts.proofs.Basics.{◌≡◌, ◌++◌, ◌∷◌, ◌∙◌, sym, ap, arith, unprinted}
use Rattle.sym_parts.proofs.Spans.{all-grown, grown, unprinted-here, unprinted_part, unprinted-later, unprinted-none}
use Rattle.sym_parts.proofs.bytes.push_unprinted.Goals as goal

pub spans-preserved-in_ok-push_within : goal.spans-preserved-in_ok-push_within
spans-preserved-in_ok-push_within c =
    let first = c.in-Some.first.now in
    let here : unprinted c.args.end c.spans.left.now ≡ unprinted_part c.args.end first ∷ unprinted c.args.end c.in-Some.rest.now =
    ap (unprinted c.args.end) c.in-Some.ensures.cases.0
    ∙ unprinted-here c.args.end first c.in-Some.rest.now (omega (arith, c.if-number.true, c.number.ensures, c.number-in-Some.ensures)) in
    grown c.spans.parts.items c.push_within.new.list.items (unprinted c.args.end c.spans.left.now) (unprinted c.args.end c.in-Some.rest.now) _
    (unprinted_part c.args.end first) c.in_ok-push_within.ensures.items here c.spans.invariant

pub spans-preserved : goal.spans-preserved
spans-preserved c =
    ap (λ xs. c.spans.parts.items ++ xs) (sym (ap (unprinted c.args.end) c.in-Some.ensures.cases.0
    ∙ unprinted-later c.args.end c.in-Some.first.now c.in-Some.rest.now (λ is. omega (arith, is, c.if-number.false, c.number.ensures, c.number-in-Some.ensures))))
    ∙ c.spans.invariant

pub returns-clause-parts : goal.returns-clause-parts
returns-clause-parts c =
    all-grown c.spans.parts.items (unprinted c.args.end c.spans.left.now) _ (unprinted-none c.args.end c.spans.left.now c.in_default.ensures.cases) c.spans.invariant
