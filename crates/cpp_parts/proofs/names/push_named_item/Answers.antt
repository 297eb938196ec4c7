use Rattle.cpp_parts.proofs.Basics.{◌∙◌, sym, ap, arith, on_ok_weaker, steps_of_parts}
use Rattle.cpp_parts.proofs.Growing.{grow-same}
use Rattle.cpp_parts.proofs.Standing.{named-item-nothing, named-item-item, named-item-plain, named-item-scoped}
use Rattle.cpp_parts.proofs.names.push_named_item.Goals as goal

pub returns-in-Nothing-clause-grows : goal.returns-in-Nothing-clause-grows
returns-in-Nothing-clause-grows c =
    on_ok_weaker c.push_whole.result (λ g. grow-same c.args.y.now c.args.most _ _ _ _ _ _ g (named-item-nothing _ _ _ c.requires.is c.in-Nothing.ensures) (omega arith)) c.push_whole.ensures.grows

pub returns-in-Item-clause-grows : goal.returns-in-Item-clause-grows
returns-in-Item-clause-grows c =
    on_ok_weaker c.push_whole-in-Item.result (λ g. grow-same c.args.y.now c.args.most _ _ _ _ _ _ g (named-item-item _ _ _ _ _ c.requires.is c.in-Item.ensures.0) (omega arith)) c.push_whole-in-Item.ensures.grows

pub returns-then-are_colons-clause-grows : goal.returns-then-are_colons-clause-grows
returns-then-are_colons-clause-grows c =
    on_ok_weaker c.push_scoped.result (λ g. grow-same c.args.y.now c.args.most _ _ _ _ _ _ g (named-item-scoped _ _ _ _ _ c.requires.is c.in-Text.ensures.0 (sym c.are_colons.ensures ∙ c.if-are_colons.true)) (omega (arith, ap steps_of_parts c.requires.is, ap steps_of_parts c.in-Text.ensures.0))) c.push_scoped.ensures.grows

pub returns-else-are_colons-clause-grows : goal.returns-else-are_colons-clause-grows
returns-else-are_colons-clause-grows c =
    on_ok_weaker c.push_whole-in-Text.result (λ g. grow-same c.args.y.now c.args.most _ _ _ _ _ _ g (named-item-plain _ _ _ _ _ c.requires.is c.in-Text.ensures.0 (sym c.are_colons.ensures ∙ c.if-are_colons.false)) (omega arith)) c.push_whole-in-Text.ensures.grows
