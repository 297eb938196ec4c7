use Rattle.std.proofs.Common.{arith}
use Rattle.rust_direct.proofs.FoundTokens.{there}
use Rattle.rust_direct.proofs.HashPlaces.{hash-disambiguator}
use Rattle.rust_direct.proofs.hashes.disambiguator_end.Goals as goal

pub returns-in-Some : goal.returns-in-Some
returns-in-Some c =
    hash-disambiguator c.args.s.now c.args.at c.in_ok-number.number c.in-Some.end
    (there c.args.s.now c.args.at c.byte_at.result 115 c.if-byte_at-ne115.false (omega arith) c.byte_at.ensures) c.in_ok-number.ensures.1 c.in-Some.ensures
