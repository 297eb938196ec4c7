use Rattle.cpp_direct.proofs.ForAnswers.{◌∷◌, [], arith, then-there, there}
use Rattle.cpp_direct.proofs.parameters.pattern_at.Goals as goal

pub returns-in_ok-end-in-82-clause-stands : goal.returns-in_ok-end-in-82-clause-stands
returns-in_ok-end-in-82-clause-stands c =
    let s = c.args.s.now in
    then-there s (82 ∷ []) c.args.at c.in_ok-behind.behind c.byte_at-in-82.result 75 (there s c.args.at c.byte_at.result 82 c.in-82.is (omega arith) c.byte_at.ensures)
    c.in_ok-behind.ensures.1 c.if-byte_at-ne75.false (omega arith) c.byte_at-in-82.ensures
