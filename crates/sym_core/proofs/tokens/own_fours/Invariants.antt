-- the bytes so far may be in a name
use Rattle.sym_core.proofs.Basics.{◌≤◌, ◌-◌, ReachesNameBytes}
use Rattle.sym_core.proofs.tokens.own_fours.Given as goal

abbrev pub invariant-loop-end : goal.invariant-loop-end
invariant-loop-end l =
    record {
      high : l.end ≤ l.stop;
      each : ReachesNameBytes l.names l.bytes l.end;
    }

abbrev pub decreases-loop-end : goal.decreases-loop-end
decreases-loop-end l = l.stop - l.end
