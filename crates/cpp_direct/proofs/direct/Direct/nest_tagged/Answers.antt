use Rattle.cpp_direct.proofs.ForAnswers.{true, arith, IsWriting, opened-so, named-goes-on, named-opens, there, Step}
use Rattle.cpp_direct.proofs.direct.Direct.nest_tagged.Goals as goal

pub returns-then-byte_at-ne73 : goal.returns-then-byte_at-ne73
returns-then-byte_at-ne73 g c = named-goes-on _ c.args.self.now c.requires

pub returns : goal.returns
returns g c =
    opened-so c.open_nest.result (Step.List true) _ (IsWriting _ c.open_nest.new.self) c.open_nest.ensures
    (named-opens _ c.args.self.now c.add_candidate.new.self c.open_nest.new.self c.requires
    (there c.args.s.now c.args.self.now.at c.byte_at.result 73 c.if-byte_at-ne73.false (omega arith) c.byte_at.ensures) c.in_ok-add_candidate.ensures)
