use Rattle.rust_parts.proofs.Basics.{on_ok_weaker, sym, ap, arith, ◌∙◌, cost_of, steps_of_parts, MayCome, printed_by, All-same, elements}
use Rattle.rust_parts.proofs.Growing.{grow-same}
use Rattle.rust_parts.proofs.Taking.{parts-payable}
use Rattle.rust_parts.proofs.walk.take_elements.Goals as goal

pub push_elements-requires-clause-paid : goal.push_elements-requires-clause-paid
push_elements-requires-clause-paid c =
    parts-payable c.args.y.now c.args.most c.args.item _ c.requires.item (c.parts-parts.ensures.parts ∙ ap (printed_by c.args.y.now) (sym c.deref.ensures.0)) (All-same (MayCome c.args.y.now) _ _ c.deref.ensures.0 c.parts-parts.ensures.may_come)

pub returns-clause-grows : goal.returns-clause-grows
returns-clause-grows c =
    on_ok_weaker c.push_elements.result (λ g. grow-same c.args.y.now c.args.most _ _ _ _ _ _ g (sym (ap (elements c.args.list c.args.number) (c.parts-parts.ensures.parts ∙ ap (printed_by c.args.y.now) (sym c.deref.ensures.0)))) (omega (arith, ap steps_of_parts (c.parts-parts.ensures.parts ∙ ap (printed_by c.args.y.now) (sym c.deref.ensures.0))))) c.push_elements.ensures.grows

pub push_elements-requires-clause-number : goal.push_elements-requires-clause-number
push_elements-requires-clause-number c =
    omega (arith, c.requires.number, ap cost_of (c.parts-parts.ensures.parts ∙ ap (printed_by c.args.y.now) (sym c.deref.ensures.0)))
