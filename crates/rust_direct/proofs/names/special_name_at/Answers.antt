use Rattle.std.proofs.Common.{arith}
use Rattle.rust_direct.proofs.FoundTokens.{letter-there}
use Rattle.rust_direct.proofs.NamePlaces.{none-placed}
use Rattle.rust_direct.proofs.names.special_name_at.Goals as goal

pub returns : goal.returns
returns c =
    let s = c.args.s.now in
    none-placed s c.args.at (omega (arith, c.if-at-s.false)) (letter-there s c.args.at 48 (omega (arith, c.if-at-s.false)) c.if-s-at-ne48.false)
