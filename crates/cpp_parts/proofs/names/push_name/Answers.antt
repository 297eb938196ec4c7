use Rattle.cpp_parts.proofs.Basics.{◌∙◌, sym, ap, arith, on_ok_weaker, steps_of_parts}
use Rattle.cpp_parts.proofs.Growing.{grow-same}
use Rattle.cpp_parts.proofs.Standing.{byname-nothing, byname-abbreviation, byname-text}
use Rattle.cpp_parts.proofs.names.push_name.Goals as goal

pub returns-in-Item-clause-grows : goal.returns-in-Item-clause-grows
returns-in-Item-clause-grows c =
    on_ok_weaker c.push_name_of.result (λ g. grow-same c.args.y.now c.args.most _ _ _ _ _ _ g (sym (c.name_sort-sort.ensures.is _ _)) (omega arith)) c.push_name_of.ensures.grows

pub returns-in-Nothing-clause-grows : goal.returns-in-Nothing-clause-grows
returns-in-Nothing-clause-grows c =
    on_ok_weaker c.push_whole.result (λ g. grow-same c.args.y.now c.args.most _ _ _ _ _ _ g (byname-nothing c.args.y.now _ _ _ c.in-Nothing.ensures ∙ sym (c.name_sort-sort.ensures.is _ _)) (omega arith)) c.push_whole.ensures.grows

pub returns-in-Abbreviation-clause-grows : goal.returns-in-Abbreviation-clause-grows
returns-in-Abbreviation-clause-grows c =
    on_ok_weaker c.push_abbreviation.result (λ g. grow-same c.args.y.now c.args.most _ _ _ _ _ _ g (byname-abbreviation c.args.y.now _ _ _ _ _ c.in-Abbreviation.is c.in-Text.ensures.0 ∙ sym (c.name_sort-sort.ensures.is _ _)) (omega (arith, ap steps_of_parts c.in-Text.ensures.0))) c.push_abbreviation.ensures.grows

pub returns-in_default-clause-grows : goal.returns-in_default-clause-grows
returns-in_default-clause-grows c =
    on_ok_weaker c.push_named.result (λ g. grow-same c.args.y.now c.args.most _ _ _ _ _ _ g (byname-text c.args.y.now _ _ _ _ _ c.in_default.not-Abbreviation c.in-Text.ensures.0 ∙ sym (c.name_sort-sort.ensures.is _ _)) (omega arith)) c.push_named.ensures.grows
