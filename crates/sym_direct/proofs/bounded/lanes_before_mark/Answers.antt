use Rattle.std.proofs.Common.{refl}
use Rattle.sym_direct.proofs.MarkLanes.{before-mark, before-few, before-each}
use Rattle.sym_direct.proofs.bounded.lanes_before_mark.Goals as goal

pub returns-clause-few : goal.returns-clause-few
returns-clause-few c = before-few c.args.bytes.now c.args.at _ c.requires (before-mark c.args.bytes.now c.args.at _ _ c.requires refl c.first_lane.ensures)

pub returns-clause-each : goal.returns-clause-each
returns-clause-each c = before-each c.args.bytes.now c.args.at _ c.requires (before-mark c.args.bytes.now c.args.at _ _ c.requires refl c.first_lane.ensures)
