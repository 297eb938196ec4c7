use Rattle.cpp_direct.proofs.ForAnswers.{true, arith, sym, IsWriting, opened-so, known-goes-on, known-opens, there, Step}
use Rattle.cpp_direct.proofs.direct.Direct.nest_known.Goals as goal

pub returns : goal.returns
returns g c =
    let old = c.args.self.now in
    opened-so c.open_nest.result (Step.List true) _ (IsWriting _ c.open_nest.new.self) c.open_nest.ensures
    (known-opens _ old c.open_nest.new.self c.requires.known (sym c.if-IS_WIDE.ensures) c.in-Type.is
    (there c.args.s.now old.at c.byte_at.result 73 c.if-byte_at-eq73.true (omega arith) c.byte_at.ensures))

pub rest_at-requires-clause-writing : goal.rest_at-requires-clause-writing
rest_at-requires-clause-writing g c = known-goes-on _ c.args.self.now c.requires.known
