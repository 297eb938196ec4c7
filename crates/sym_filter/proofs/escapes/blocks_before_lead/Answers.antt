use Rattle.sym_filter.proofs.Basics.{arith, is_no_lead}
use Rattle.sym_filter.proofs.LaneLemmas.{all-longer}
use Rattle.sym_filter.proofs.escapes.blocks_before_lead.Goals as goal

pub steps-preserved : goal.steps-preserved
steps-preserved c = record {
  within = omega (arith, c.steps-test.true, c.steps.invariant.within);
  no_lead = all-longer is_no_lead c.args.text.now c.steps.length 64 c.steps.invariant.no_lead (c.block_has_no_lead.ensures c.if-not-block_has_no_lead.false);
}
