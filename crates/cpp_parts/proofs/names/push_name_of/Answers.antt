use Rattle.cpp_parts.proofs.Basics.{ap, arith, on_ok_weaker, cost_of_parts, steps_of_parts}
use Rattle.cpp_parts.proofs.Growing.{grow-same, grow-then, grow-name}
use Rattle.cpp_parts.proofs.Standing.{sort-instance, sort-tagged, sort-inner, sort-abbreviation, sort-other, below-first, below-tagged, below-inner}
use Rattle.cpp_parts.proofs.names.push_name_of.Goals as goal

pub returns-in_ok-push_arguments-in-Instance-clause-grows : goal.returns-in_ok-push_arguments-in-Instance-clause-grows
returns-in_ok-push_arguments-in-Instance-clause-grows c =
    on_ok_weaker c.push.result (λ is. grow-same c.args.y.now c.args.most _ _ _ _ _ _
    (grow-then c.args.y.now c.args.most _ _ _ _ _ _ _ (c.in_ok-push_arguments-in-Instance.ensures.grows) (grow-name c.args.y.now c.args.most _ _ _ _ _ is (below-first _ _ _ _ c.in-Instance.is c.requires.below) c.requires.inner (omega (arith, c.requires.tags, ap cost_of_parts c.requires.is))))
    (sort-instance c.args.y.now _ _ _ _ _ _ _ c.in-Instance.is c.requires.is)
    (omega (arith, ap steps_of_parts c.requires.is))) c.push.ensures.tasks

pub returns-in_ok-push_whole-in-Tagged-clause-grows : goal.returns-in_ok-push_whole-in-Tagged-clause-grows
returns-in_ok-push_whole-in-Tagged-clause-grows c =
    on_ok_weaker c.push-in-Tagged.result (λ is. grow-same c.args.y.now c.args.most _ _ _ _ _ _
    (grow-then c.args.y.now c.args.most _ _ _ _ _ _ _ (c.in_ok-push_whole-in-Tagged.ensures.grows) (grow-name c.args.y.now c.args.most _ _ _ _ _ is (below-tagged _ _ _ c.in-Tagged.is c.requires.below) c.requires.inner (omega (arith, c.requires.tags, ap cost_of_parts c.requires.is))))
    (sort-tagged c.args.y.now _ _ _ _ _ _ c.in-Tagged.is c.requires.is)
    (omega (arith, ap steps_of_parts c.requires.is))) c.push-in-Tagged.ensures.tasks

pub returns-in_ok-push_plain-in-Inner-clause-grows : goal.returns-in_ok-push_plain-in-Inner-clause-grows
returns-in_ok-push_plain-in-Inner-clause-grows c =
    on_ok_weaker c.push-in-Inner.result (λ is. grow-same c.args.y.now c.args.most _ _ _ _ _ _
    (grow-then c.args.y.now c.args.most _ _ _ _ _ _ _ (c.in_ok-push_plain-in-Inner.ensures.grows) (grow-name c.args.y.now c.args.most _ _ _ _ _ is (below-inner _ _ _ c.in-Inner.is c.requires.below) c.requires.inner (omega (arith, c.requires.tags, ap cost_of_parts c.requires.is))))
    (sort-inner c.args.y.now _ _ _ _ _ _ c.in-Inner.is c.requires.is)
    (omega (arith, ap steps_of_parts c.requires.is))) c.push-in-Inner.ensures.tasks

pub returns-in-Abbreviation-clause-grows : goal.returns-in-Abbreviation-clause-grows
returns-in-Abbreviation-clause-grows c =
    on_ok_weaker c.push_whole-in-Abbreviation.result (λ g. grow-same c.args.y.now c.args.most _ _ _ _ _ _ g (sort-abbreviation c.args.y.now _ _ _ _ _ c.in-Abbreviation.is c.requires.is) (omega arith)) c.push_whole-in-Abbreviation.ensures.grows

pub returns-in-Other-clause-grows : goal.returns-in-Other-clause-grows
returns-in-Other-clause-grows c =
    on_ok_weaker c.push_named.result (λ g. grow-same c.args.y.now c.args.most _ _ _ _ _ _ g (sort-other c.args.y.now _ _ _ c.in-Other.is) (omega arith)) c.push_named.ensures.grows
