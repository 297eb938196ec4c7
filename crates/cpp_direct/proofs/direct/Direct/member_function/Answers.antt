use Rattle.cpp_direct.proofs.ForAnswers.{arith, function-named, there}
use Rattle.cpp_direct.proofs.direct.Direct.member_function.Goals as goal

pub member_parameters-requires-clause-awaits : goal.member_parameters-requires-clause-awaits
member_parameters-requires-clause-awaits g c =
    let read = c.in_ok-member_piece.ensures in
    function-named _ c.args.self.now c.add_candidate.new.self c.push_pair.new.self c.member_piece.new.self c.in_ok-self.field-0 c.args.mark c.requires.awaits
    c.in_ok-add_candidate.ensures c.in_ok-push_pair.ensures read.0 read.1 read.2 read.3 read.4
    (there c.args.s.now c.member_piece.new.self.at c.byte_at.result 69 c.if-byte_at-ne69.false (omega arith) c.byte_at.ensures) c.in_ok-self.ensures.1
