use Rattle.rust_direct.proofs.ConstantsRead.{placeholder-written}
use Rattle.rust_direct.proofs.direct.Direct.placeholder_at.Goals as goal

pub returns : goal.returns
returns c =
    placeholder-written c.args._s.now c.args.self.now c.push_byte.new.self c.args.at c.in_ok-end.end c.requires.letter c.in_ok-end.ensures.1
    c.in_ok-push_byte.ensures
