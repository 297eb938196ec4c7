use Rattle.sym_filter.proofs.Basics.{arith, is_no_lead}
use Rattle.sym_filter.proofs.LaneLemmas.{all-longer}
use Rattle.sym_filter.proofs.escapes.before_lead.Goals as goal

pub returns-then-front-lt-LANES-clause-no_lead : goal.returns-then-front-lt-LANES-clause-no_lead
returns-then-front-lt-LANES-clause-no_lead c =
    all-longer is_no_lead c.args.text.now c.lanes.length c.lanes_before_lead-front.result c.lanes.invariant.no_lead c.lanes_before_lead-front.ensures.1

pub lanes-preserved : goal.lanes-preserved
lanes-preserved c = record {
  within = omega (arith, c.lanes-test.true, c.lanes_before_lead-front.ensures.0, c.lanes.invariant.within);
  no_lead = all-longer is_no_lead c.args.text.now c.lanes.length c.lanes_before_lead-front.result c.lanes.invariant.no_lead c.lanes_before_lead-front.ensures.1;
}
