use Rattle.cpp_parts.proofs.Basics.{◌before◌, text_of, unshared_of, arith, sym, on_ok_weaker}
use Rattle.cpp_parts.proofs.Growing.{grow-same, grow-then}
use Rattle.cpp_parts.proofs.Standing.{returned-none, returned-some, returned-nothing, returned-text}
use Rattle.cpp_parts.proofs.plain.push_returned.Goals as goal

pub returns-then-length-eq0-clause-grows : goal.returns-then-length-eq0-clause-grows
returns-then-length-eq0-clause-grows c =
    grow-same c.args.y.now c.args.most _ _ _ _ _ _ c.in_ok-push_plain-in-Item.ensures.grows
    (returned-none _ _ _ _ c.in-Item.ensures.0 c.in_ok-length-in-Item.ensures.length c.if-length-eq0.true) (omega arith)

pub returns-in-Nothing-clause-grows : goal.returns-in-Nothing-clause-grows
returns-in-Nothing-clause-grows c =
    on_ok_weaker c.push_plain.result (λ g. grow-same c.args.y.now c.args.most _ _ _ _ _ _ g (returned-nothing _ c.in-Nothing.ensures) (omega arith)) c.push_plain.ensures.grows

pub returns-in-Text-clause-grows : goal.returns-in-Text-clause-grows
returns-in-Text-clause-grows c =
    on_ok_weaker c.push_plain-in-Text.result (λ g. grow-same c.args.y.now c.args.most _ _ _ _ _ _ g (returned-text _ _ _ c.in-Text.ensures.0) (omega arith)) c.push_plain-in-Text.ensures.grows

pub returns-else-length-eq0-clause-grows : goal.returns-else-length-eq0-clause-grows
unfolding ◌before◌
returns-else-length-eq0-clause-grows c =
    on_ok_weaker c.push_alone.result
    (λ g. grow-same c.args.y.now c.args.most _ _ _ _ _ _ (grow-then c.args.y.now c.args.most _ _ _ _ _ _ _ c.in_ok-push_plain-in-Item.ensures.grows (g (text_of (unshared_of c.args.y.now c.in-Item.right)) (sym c.in_ok-length-in-Item.ensures.length)))
    (returned-some _ _ _ _ c.in-Item.ensures.0 c.in_ok-length-in-Item.ensures.length c.if-length-eq0.false) (omega arith))
    c.push_alone.ensures.grows
