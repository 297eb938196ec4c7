use Rattle.std.proofs.Common.{arith}
use Rattle.rust_direct.proofs.NamePlaces.{own-there}
use Rattle.rust_direct.proofs.names.own_at.Goals as goal

pub returns : goal.returns
returns c =
    own-there c.args.s.now c.args._at c.args.from c.args.size c.requires.read c.requires.within (omega (arith, c.if-size-s.false)) c.requires.apart
    (c.are_name_bytes.ensures c.if-not-are_name_bytes.false)
