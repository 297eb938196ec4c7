use Rattle.cpp_parts.proofs.Basics.{arith, cost_of, ◌∙◌, sym, ap, on_ok_weaker, All-same, MayBeAsked, printed_by}
use Rattle.cpp_parts.proofs.Walking.{took-elements, parts-payable}
use Rattle.cpp_parts.proofs.walk.take_elements.Goals as goal

pub push_elements-requires-clause-paid : goal.push_elements-requires-clause-paid
push_elements-requires-clause-paid c =
    parts-payable c.args.y.now c.args.most c.args.item _ c.requires.item (c.parts-parts.ensures.parts ∙ ap (printed_by c.args.y.now) (sym c.deref.ensures.0)) (All-same (MayBeAsked c.args.y.now) _ _ c.deref.ensures.0 c.parts-parts.ensures.may_come)

pub returns-clause-marks : goal.returns-clause-marks
returns-clause-marks c = on_ok_weaker c.push_elements.result (λ g. (took-elements c.args.y.now c.args.most _ _ c.args.node c.args.item _ (c.parts-parts.ensures.parts ∙ ap (printed_by c.args.y.now) (sym c.deref.ensures.0)) c.args.role c.args.numbering g).0) c.push_elements.ensures.grows

pub returns-clause-tasks : goal.returns-clause-tasks
returns-clause-tasks c = on_ok_weaker c.push_elements.result (λ g. (took-elements c.args.y.now c.args.most _ _ c.args.node c.args.item _ (c.parts-parts.ensures.parts ∙ ap (printed_by c.args.y.now) (sym c.deref.ensures.0)) c.args.role c.args.numbering g).1) c.push_elements.ensures.grows

pub returns-clause-weight : goal.returns-clause-weight
returns-clause-weight c = on_ok_weaker c.push_elements.result (λ g. (took-elements c.args.y.now c.args.most _ _ c.args.node c.args.item _ (c.parts-parts.ensures.parts ∙ ap (printed_by c.args.y.now) (sym c.deref.ensures.0)) c.args.role c.args.numbering g).2) c.push_elements.ensures.grows

pub push_elements-requires-clause-numbers : goal.push_elements-requires-clause-numbers
push_elements-requires-clause-numbers c =
    omega (arith, c.requires.numbers, ap cost_of (c.parts-parts.ensures.parts ∙ ap (printed_by c.args.y.now) (sym c.deref.ensures.0)))
