use Rattle.std.proofs.Common.{arith, ◌+◌}
use Rattle.rust_direct.proofs.FoundTokens.{letter-there}
use Rattle.rust_direct.proofs.HashPlaces.{hash-found}
use Rattle.rust_direct.proofs.hashes.hash_end.Goals as goal

pub returns : goal.returns
returns c =
    let small = c.is_small.ensures in
    let is = c.if-not-is_small.false in
    hash-found c.args.s.now c.args.at c.digit_lanes-count.result (omega (arith, c.if-at-s.false)) (omega (arith, c.if-s-at-lt-LANES.false))
    (small.few is) (small.first is) (small.second is) c.digit_lanes-count.ensures.1
    (letter-there c.args.s.now (c.args.at + c.digit_lanes-count.result) 95 (omega (arith, c.if-at-s.false, c.if-s-at-lt-LANES.false, small.few is)) c.if-s-mark-ne95.false)
