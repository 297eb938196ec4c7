use Rattle.cpp_parts.proofs.Basics.{arith, on_ok_weaker}
use Rattle.cpp_parts.proofs.Growing.{grow-same}
use Rattle.cpp_parts.proofs.Standing.{without-elements}
use Rattle.cpp_parts.proofs.lists.push_element.Goals as goal

pub returns-in-None-clause-grows : goal.returns-in-None-clause-grows
returns-in-None-clause-grows c =
    on_ok_weaker c.push_lone.result (λ g. grow-same c.args.y.now c.args.most _ _ _ _ _ _ g (without-elements _ _ _ _ _ _ _ c.ordinal_of.ensures c.in-None.ensures.is) (omega arith)) c.push_lone.ensures.grows
