use Rattle.short_names.proofs.Basics.{arith, is_name_byte}
use Rattle.short_names.proofs.LaneLemmas.{all-longer}
use Rattle.short_names.proofs.runs.lanes_run.Goals as goal

pub returns-then-front-lt-LANES-clause-in_run : goal.returns-then-front-lt-LANES-clause-in_run
returns-then-front-lt-LANES-clause-in_run c =
    all-longer is_name_byte c.args.text.now c.lanes.size c.name_lanes-front.result c.lanes.invariant.in_run c.name_lanes-front.ensures.1

pub lanes-preserved : goal.lanes-preserved
lanes-preserved c = record {
  within = omega (arith, c.lanes-test.true, c.name_lanes-front.ensures.0, c.lanes.invariant.within);
  in_run = all-longer is_name_byte c.args.text.now c.lanes.size c.name_lanes-front.result c.lanes.invariant.in_run c.name_lanes-front.ensures.1;
}
