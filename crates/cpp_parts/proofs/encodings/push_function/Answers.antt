use Rattle.cpp_parts.proofs.Basics.{arith, on_ok_weaker}
use Rattle.cpp_parts.proofs.Growing.{grow-same}
use Rattle.cpp_parts.proofs.Standing.{returning-nothing, returning-some, returning-done, returning-text}
use Rattle.cpp_parts.proofs.encodings.push_function.Goals as goal

pub returns-then-nothing-clause-grows : goal.returns-then-nothing-clause-grows
returns-then-nothing-clause-grows c =
    on_ok_weaker c.push_called.result (λ g. grow-same c.args.y.now c.args.most _ _ _ _ _ _ g (returning-nothing _ _ _ _ c.if-nothing.true) (omega arith)) c.push_called.ensures.grows

pub returns-in-Nothing-clause-grows : goal.returns-in-Nothing-clause-grows
returns-in-Nothing-clause-grows c =
    on_ok_weaker c.push_called-in-Nothing.result (λ g. grow-same c.args.y.now c.args.most _ _ _ _ _ _ g (returning-done _ _ _ _ c.if-nothing.false c.in-Nothing.ensures) (omega arith)) c.push_called-in-Nothing.ensures.grows

pub returns-in-Text-clause-grows : goal.returns-in-Text-clause-grows
returns-in-Text-clause-grows c =
    on_ok_weaker c.push_called-in-Text.result (λ g. grow-same c.args.y.now c.args.most _ _ _ _ _ _ g (returning-text _ _ _ _ _ _ c.if-nothing.false c.in-Text.ensures.0) (omega arith)) c.push_called-in-Text.ensures.grows

pub returns-in-Item-clause-grows : goal.returns-in-Item-clause-grows
returns-in-Item-clause-grows c =
    on_ok_weaker c.push_returning.result (λ g. grow-same c.args.y.now c.args.most _ _ _ _ _ _ g (returning-some _ _ _ _ c.if-nothing.false) (omega arith)) c.push_returning.ensures.grows
