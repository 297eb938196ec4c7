use Rattle.cpp_direct.proofs.ForAnswers.{true, arith, IsWriting, opened-so, there, unscoped-argued, unscoped-bare, Step}
use Rattle.cpp_direct.proofs.direct.Direct.unscoped_tagged.Goals as goal

pub name_ended-requires-clause-ended : goal.name_ended-requires-clause-ended
name_ended-requires-clause-ended g c = unscoped-bare _ c.args.self.now c.args.from c.args.takes c.requires.named

pub returns : goal.returns
returns g c =
    let old = c.args.self.now in
    opened-so c.open_arguments.result (Step.List true) _ (IsWriting _ c.open_arguments.new.self) c.open_arguments.ensures
    (unscoped-argued _ old c.add_candidate.new.self c.open_arguments.new.self c.args.from c.args.takes c.requires.named c.if-not-takes.false
    (there c.args.s.now old.at c.byte_at.result 73 c.if-byte_at-ne73.false (omega arith) c.byte_at.ensures) c.in_ok-add_candidate.ensures)
