use Rattle.cpp_parts.proofs.Basics.{◌∙◌, sym, ap, arith, on_ok_weaker, cost_of, steps_of_parts, printed_by}
use Rattle.cpp_parts.proofs.Growing.{grow-same, grow-elements}
use Rattle.cpp_parts.proofs.Standing.{within-nothing, within-text, within-item-text, within-item-item, within-text-right, within-item-right, within-elements}
use Rattle.cpp_parts.proofs.lists.push_element_within.Goals as goal

pub returns-in-Nothing-clause-grows : goal.returns-in-Nothing-clause-grows
returns-in-Nothing-clause-grows c =
    on_ok_weaker c.push_lone.result (λ g. grow-same c.args.y.now c.args.most _ _ _ _ _ _ g (within-nothing _ _ _ _ _ _ _ c.ordinal_of-ordinal.ensures (c.parts-parts.ensures.parts ∙ ap (printed_by c.args.y.now) (sym c.deref.ensures.0) ∙ c.in-Nothing.ensures)) (omega arith)) c.push_lone.ensures.grows

pub returns-in-Text-clause-grows : goal.returns-in-Text-clause-grows
returns-in-Text-clause-grows c =
    on_ok_weaker c.push_lone-in-Text.result (λ g. grow-same c.args.y.now c.args.most _ _ _ _ _ _ g (within-text _ _ _ _ _ _ _ _ _ c.ordinal_of-ordinal.ensures (c.parts-parts.ensures.parts ∙ ap (printed_by c.args.y.now) (sym c.deref.ensures.0) ∙ c.in-Text.ensures.0)) (omega arith)) c.push_lone-in-Text.ensures.grows

pub returns-in-Text-first_of-clause-grows : goal.returns-in-Text-first_of-clause-grows
returns-in-Text-first_of-clause-grows c =
    on_ok_weaker c.push_lone-in-Text-first_of.result (λ g. grow-same c.args.y.now c.args.most _ _ _ _ _ _ g (within-item-text _ _ _ _ _ _ _ _ _ _ _ c.ordinal_of-ordinal.ensures (c.parts-parts.ensures.parts ∙ ap (printed_by c.args.y.now) (sym c.deref.ensures.0) ∙ c.in-Item.ensures.0) c.in-Text-first_of.ensures.0) (omega arith)) c.push_lone-in-Text-first_of.ensures.grows

pub returns-in-Item-first_of-clause-grows : goal.returns-in-Item-first_of-clause-grows
returns-in-Item-first_of-clause-grows c =
    on_ok_weaker c.push_lone-in-Item-first_of.result (λ g. grow-same c.args.y.now c.args.most _ _ _ _ _ _ g (within-item-item _ _ _ _ _ _ _ _ _ _ _ c.ordinal_of-ordinal.ensures (c.parts-parts.ensures.parts ∙ ap (printed_by c.args.y.now) (sym c.deref.ensures.0) ∙ c.in-Item.ensures.0) c.in-Item-first_of.ensures.0) (omega arith)) c.push_lone-in-Item-first_of.ensures.grows

pub returns-in-Text-first_of-2-clause-grows : goal.returns-in-Text-first_of-2-clause-grows
returns-in-Text-first_of-2-clause-grows c =
    on_ok_weaker c.push_lone-in-Text-first_of-2.result (λ g. grow-same c.args.y.now c.args.most _ _ _ _ _ _ g (within-text-right _ _ _ _ _ _ _ _ _ _ _ c.ordinal_of-ordinal.ensures (c.parts-parts.ensures.parts ∙ ap (printed_by c.args.y.now) (sym c.deref.ensures.0) ∙ c.in-Item.ensures.0) c.in-Nothing-first_of.ensures (c.parts-behind.ensures.parts ∙ ap (printed_by c.args.y.now) (sym c.deref-in-Nothing-first_of.ensures.0) ∙ c.in-Text-first_of-2.ensures.0)) (omega arith)) c.push_lone-in-Text-first_of-2.ensures.grows

pub returns-in-Item-first_of-2-clause-grows : goal.returns-in-Item-first_of-2-clause-grows
returns-in-Item-first_of-2-clause-grows c =
    on_ok_weaker c.push_lone-in-Item-first_of-2.result (λ g. grow-same c.args.y.now c.args.most _ _ _ _ _ _ g (within-item-right _ _ _ _ _ _ _ _ _ _ _ c.ordinal_of-ordinal.ensures (c.parts-parts.ensures.parts ∙ ap (printed_by c.args.y.now) (sym c.deref.ensures.0) ∙ c.in-Item.ensures.0) c.in-Nothing-first_of.ensures (c.parts-behind.ensures.parts ∙ ap (printed_by c.args.y.now) (sym c.deref-in-Nothing-first_of.ensures.0) ∙ c.in-Item-first_of-2.ensures.0)) (omega arith)) c.push_lone-in-Item-first_of-2.ensures.grows

pub returns-in-Nothing-first_of-2-clause-grows : goal.returns-in-Nothing-first_of-2-clause-grows
returns-in-Nothing-first_of-2-clause-grows c =
    on_ok_weaker c.push.result (λ is. grow-same c.args.y.now c.args.most _ _ _ _ _ _
    (grow-elements c.args.y.now c.args.most _ _ _ _ _ _ is c.requires.node c.in-Item.ensures.1 (omega (arith, c.requires.few, c.requires.paid, ap cost_of (c.parts-parts.ensures.parts ∙ ap (printed_by c.args.y.now) (sym c.deref.ensures.0) ∙ c.in-Item.ensures.0))))
    (within-elements _ _ _ _ _ _ _ _ (c.parts-parts.ensures.parts ∙ ap (printed_by c.args.y.now) (sym c.deref.ensures.0) ∙ c.in-Item.ensures.0) c.in-Nothing-first_of.ensures (c.parts-behind.ensures.parts ∙ ap (printed_by c.args.y.now) (sym c.deref-in-Nothing-first_of.ensures.0) ∙ c.in-Nothing-first_of-2.ensures))
    (omega (arith, ap steps_of_parts (c.parts-parts.ensures.parts ∙ ap (printed_by c.args.y.now) (sym c.deref.ensures.0) ∙ c.in-Item.ensures.0)))) c.push.ensures.tasks
