use Rattle.cpp_direct.proofs.ForAnswers.{begun-in-member, entity-read}
use Rattle.cpp_direct.proofs.direct.Direct.member_entity.Goals as goal

pub returns-then-behind-ne118 : goal.returns-then-behind-ne118
returns-then-behind-ne118 g c = begun-in-member _ c.args.self.now c.open_lambda.new.self c.args.mark c.requires.awaits c.in_ok-open_lambda.ensures

pub member_function-requires-clause-awaits : goal.member_function-requires-clause-awaits
member_function-requires-clause-awaits g c =
    let read = c.in_ok-enclosed_piece.ensures in
    entity-read _ c.args.self.now c.push_pair.new.self c.enclosed_piece.new.self c.args.mark c.requires.awaits c.in_ok-push_pair.ensures
    read.0 read.1 read.2 read.3 read.4
