use Rattle.cpp_direct.proofs.ForAnswers.{ended-in-function, ended-in-member, ended-in-name}
use Rattle.cpp_direct.proofs.direct.Direct.lambda_ended.Goals as goal

pub returns-in_ok-add_candidate-in-Function : goal.returns-in_ok-add_candidate-in-Function
returns-in_ok-add_candidate-in-Function g c =
    let told = c.in_ok-discriminator-in-Function.ensures in
    let added = c.in_ok-add_candidate-in-Function.ensures in
    ended-in-function _ c.args.self.now c.discriminator.new.self c.add_candidate.new.self c.args.from
    (rw c.in-Function.is at c.requires.read) told.0 told.1 told.2 added.candidates added.text added.waiting added.scope added.at

pub returns-in-Name : goal.returns-in-Name
returns-in-Name g c = ended-in-name _ c.args.self.now c.args.from c.in-Name.purpose (rw c.in-Name.is at c.requires.read)

pub member_function-requires-clause-awaits : goal.member_function-requires-clause-awaits
member_function-requires-clause-awaits g c = ended-in-member _ c.args.self.now c.args.from c.in-Member.mark (rw c.in-Member.is at c.requires.read)
