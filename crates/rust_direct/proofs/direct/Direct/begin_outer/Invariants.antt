-- A path is expected, after the paths around it.
use Rattle.rust_direct.proofs.Basics.{◌-◌, length, false, Awaits}
use Rattle.rust_direct.proofs.direct.Direct.begin_outer.Given as goal

abbrev pub invariant-paths : goal.invariant-paths
invariant-paths g l = Awaits g.S.Showing.IS_BRIEF l.s l.self false

abbrev pub decreases-paths : goal.decreases-paths
decreases-paths g l = length l.s - l.self.at
