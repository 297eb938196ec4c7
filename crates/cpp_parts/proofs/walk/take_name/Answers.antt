use Rattle.cpp_parts.proofs.Basics.{arith, cost_of, ◌∙◌, sym, ap, on_ok_weaker, All-same, MayBeAsked, printed_by}
use Rattle.cpp_parts.proofs.Walking.{took-name, parts-payable}
use Rattle.cpp_parts.proofs.walk.take_name.Goals as goal

pub push_name-requires-clause-paid : goal.push_name-requires-clause-paid
push_name-requires-clause-paid c =
    parts-payable c.args.y.now c.args.most c.args.item _ c.requires.item (c.parts-parts.ensures.parts ∙ ap (printed_by c.args.y.now) (sym c.deref.ensures.0)) (All-same (MayBeAsked c.args.y.now) _ _ c.deref.ensures.0 c.parts-parts.ensures.may_come)

pub returns-clause-marks : goal.returns-clause-marks
returns-clause-marks c = on_ok_weaker c.push_name.result (λ g. (took-name c.args.y.now c.args.most _ _ c.args.node c.args.item _ (c.parts-parts.ensures.parts ∙ ap (printed_by c.args.y.now) (sym c.deref.ensures.0)) c.args.tags g).0) c.push_name.ensures.grows

pub returns-clause-tasks : goal.returns-clause-tasks
returns-clause-tasks c = on_ok_weaker c.push_name.result (λ g. (took-name c.args.y.now c.args.most _ _ c.args.node c.args.item _ (c.parts-parts.ensures.parts ∙ ap (printed_by c.args.y.now) (sym c.deref.ensures.0)) c.args.tags g).1) c.push_name.ensures.grows

pub returns-clause-weight : goal.returns-clause-weight
returns-clause-weight c = on_ok_weaker c.push_name.result (λ g. (took-name c.args.y.now c.args.most _ _ c.args.node c.args.item _ (c.parts-parts.ensures.parts ∙ ap (printed_by c.args.y.now) (sym c.deref.ensures.0)) c.args.tags g).2) c.push_name.ensures.grows

pub push_name-requires-clause-tags : goal.push_name-requires-clause-tags
push_name-requires-clause-tags c =
    omega (arith, c.requires.tags, ap cost_of (c.parts-parts.ensures.parts ∙ ap (printed_by c.args.y.now) (sym c.deref.ensures.0)))
