use Rattle.cpp_parts.proofs.Basics.{ap, arith, on_ok_weaker, steps_of_parts}
use Rattle.cpp_parts.proofs.Growing.{grow-same}
use Rattle.cpp_parts.proofs.Standing.{brackets-nothing, brackets-text, brackets-item-text, brackets-item-nothing, brackets-item-item}
use Rattle.cpp_parts.proofs.lists.push_brackets.Goals as goal

pub returns-in-Nothing-clause-grows : goal.returns-in-Nothing-clause-grows
returns-in-Nothing-clause-grows c =
    on_ok_weaker c.push_unlisted.result (λ g opening long. grow-same c.args.y.now c.args.most _ _ _ _ _ _ (g opening long) (brackets-nothing _ _ _ opening _ c.in-Nothing.ensures) (omega arith)) c.push_unlisted.ensures.grows

pub returns-in-Text-clause-grows : goal.returns-in-Text-clause-grows
returns-in-Text-clause-grows c =
    on_ok_weaker c.push_empty.result (λ g opening long. grow-same c.args.y.now c.args.most _ _ _ _ _ _ (g opening long) (brackets-text _ _ _ opening _ _ _ c.in-Text.ensures.0) (omega (arith, ap steps_of_parts c.in-Text.ensures.0))) c.push_empty.ensures.grows

pub returns-in-Text-first_of-clause-grows : goal.returns-in-Text-first_of-clause-grows
returns-in-Text-first_of-clause-grows c =
    on_ok_weaker c.push_listed.result (λ g opening long. grow-same c.args.y.now c.args.most _ _ _ _ _ _ (g opening long) (brackets-item-text _ _ _ opening _ _ _ _ _ c.in-Item.ensures.0 c.in-Text-first_of.ensures.0) (omega (arith, ap steps_of_parts c.in-Item.ensures.0, ap steps_of_parts c.in-Text-first_of.ensures.0))) c.push_listed.ensures.grows

pub returns-in-Nothing-first_of-clause-grows : goal.returns-in-Nothing-first_of-clause-grows
returns-in-Nothing-first_of-clause-grows c =
    on_ok_weaker c.push_unlisted-in-Nothing-first_of.result (λ g opening long. grow-same c.args.y.now c.args.most _ _ _ _ _ _ (g opening long) (brackets-item-nothing _ _ _ opening _ _ _ c.in-Item.ensures.0 c.in-Nothing-first_of.ensures) (omega arith)) c.push_unlisted-in-Nothing-first_of.ensures.grows

pub returns-in-Item-first_of-clause-grows : goal.returns-in-Item-first_of-clause-grows
returns-in-Item-first_of-clause-grows c =
    on_ok_weaker c.push_unlisted-in-Item-first_of.result (λ g opening long. grow-same c.args.y.now c.args.most _ _ _ _ _ _ (g opening long) (brackets-item-item _ _ _ opening _ _ _ _ _ c.in-Item.ensures.0 c.in-Item-first_of.ensures.0) (omega arith)) c.push_unlisted-in-Item-first_of.ensures.grows
