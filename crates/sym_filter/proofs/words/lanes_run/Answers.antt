use Rattle.sym_filter.proofs.Basics.{arith, is_byte_of, Ascii}
use Rattle.sym_filter.proofs.LaneLemmas.{all-longer}
use Rattle.sym_filter.proofs.words.lanes_run.Goals as goal

pub returns-then-front-lt-LANES-clause-in_run : goal.returns-then-front-lt-LANES-clause-in_run
returns-then-front-lt-LANES-clause-in_run c =
    all-longer (is_byte_of Ascii) c.args.text.now c.lanes.length c.lanes_front-front.result c.lanes.invariant.in_run c.lanes_front-front.ensures.1

pub lanes-preserved : goal.lanes-preserved
lanes-preserved c = record {
  within = omega (arith, c.lanes-test.true, c.lanes_front-front.ensures.0, c.lanes.invariant.within);
  in_run = all-longer (is_byte_of Ascii) c.args.text.now c.lanes.length c.lanes_front-front.result c.lanes.invariant.in_run c.lanes_front-front.ensures.1;
}
