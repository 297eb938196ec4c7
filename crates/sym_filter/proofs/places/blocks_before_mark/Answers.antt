use Rattle.sym_filter.proofs.Basics.{arith, is_no_mark}
use Rattle.sym_filter.proofs.LaneLemmas.{all-longer}
use Rattle.sym_filter.proofs.places.blocks_before_mark.Goals as goal

pub steps-preserved : goal.steps-preserved
steps-preserved c = record {
  within = omega (arith, c.steps-test.true, c.steps.invariant.within);
  no_mark = all-longer is_no_mark c.args.text.now c.steps.length 64 c.steps.invariant.no_mark (c.block_has_no_mark.ensures c.if-not-block_has_no_mark.false);
}
