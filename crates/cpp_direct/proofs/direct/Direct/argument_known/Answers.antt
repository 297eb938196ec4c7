use Rattle.cpp_direct.proofs.ForAnswers.{arith, false, argument-closes, known-passes, there}
use Rattle.cpp_direct.proofs.direct.Direct.argument_known.Goals as goal

pub returns-then-is_element_at : goal.returns-then-is_element_at
returns-then-is_element_at g c = known-passes _ c.args.self.now false c.args.last c.args.known c.requires.awaits

pub close_list-requires-clause-ended : goal.close_list-requires-clause-ended
close_list-requires-clause-ended g c =
    let w = c.args.self.now in
    argument-closes _ w c.in_ok-self.field-0 c.args.last c.args.known c.requires.awaits
    (there c.args.s.now w.at c.byte_at-byte.result 69 c.if-byte-ne69.false (omega arith) c.byte_at-byte.ensures) c.in_ok-self.ensures.1
