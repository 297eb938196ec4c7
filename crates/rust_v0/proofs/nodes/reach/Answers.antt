use Rattle.std.proofs.Common.{◌+◌, rules}
use Rattle.rust_v0.proofs.Places.{more}
use Rattle.rust_v0.proofs.nodes.reach.Goals as goal

pub loop-targets-preserved : goal.loop-targets-preserved
loop-targets-preserved c =
    (c.loop-targets.invariant.0 + 64, more _ _ _ _ 64 _ c.loop-targets.invariant.1 (search rules))
