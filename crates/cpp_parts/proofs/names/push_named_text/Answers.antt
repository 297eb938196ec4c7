use Rattle.cpp_parts.proofs.Basics.{ap, arith, on_ok_weaker, steps_of_parts}
use Rattle.cpp_parts.proofs.Growing.{grow-same}
use Rattle.cpp_parts.proofs.Standing.{named-text-nothing, named-text-text, named-text-std, named-text-item-text, named-text-item-item}
use Rattle.cpp_parts.proofs.names.push_named_text.Goals as goal

pub returns-in-Nothing-clause-grows : goal.returns-in-Nothing-clause-grows
returns-in-Nothing-clause-grows c =
    on_ok_weaker c.push_whole.result (λ g. grow-same c.args.y.now c.args.most _ _ _ _ _ _ g (named-text-nothing _ _ _ c.requires.is c.in-Nothing.ensures) (omega arith)) c.push_whole.ensures.grows

pub returns-in-Text-clause-grows : goal.returns-in-Text-clause-grows
returns-in-Text-clause-grows c =
    on_ok_weaker c.push_whole-in-Text.result (λ g. grow-same c.args.y.now c.args.most _ _ _ _ _ _ g (named-text-text _ _ _ _ _ c.requires.is c.in-Text.ensures.0) (omega arith)) c.push_whole-in-Text.ensures.grows

pub returns-in-Nothing-first_of-clause-grows : goal.returns-in-Nothing-first_of-clause-grows
returns-in-Nothing-first_of-clause-grows c =
    on_ok_weaker c.push_in_std.result (λ g. grow-same c.args.y.now c.args.most _ _ _ _ _ _ g (named-text-std _ _ _ _ _ c.requires.is c.in-Item.ensures.0 c.in-Nothing-first_of.ensures) (omega (arith, ap steps_of_parts c.requires.is, ap steps_of_parts c.in-Item.ensures.0))) c.push_in_std.ensures.grows

pub returns-in-Text-first_of-clause-grows : goal.returns-in-Text-first_of-clause-grows
returns-in-Text-first_of-clause-grows c =
    on_ok_weaker c.push_whole-in-Text-first_of.result (λ g. grow-same c.args.y.now c.args.most _ _ _ _ _ _ g (named-text-item-text _ _ _ _ _ _ _ c.requires.is c.in-Item.ensures.0 c.in-Text-first_of.ensures.0) (omega arith)) c.push_whole-in-Text-first_of.ensures.grows

pub returns-in-Item-first_of-clause-grows : goal.returns-in-Item-first_of-clause-grows
returns-in-Item-first_of-clause-grows c =
    on_ok_weaker c.push_whole-in-Item-first_of.result (λ g. grow-same c.args.y.now c.args.most _ _ _ _ _ _ g (named-text-item-item _ _ _ _ _ _ _ c.requires.is c.in-Item.ensures.0 c.in-Item-first_of.ensures.0) (omega arith)) c.push_whole-in-Item-first_of.ensures.grows
