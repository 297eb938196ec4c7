use Rattle.cpp_direct.proofs.ForAnswers.{arith, reached-more}
use Rattle.cpp_direct.proofs.names.are_few_named.Goals as goal

pub bytes-preserved : goal.bytes-preserved
bytes-preserved c = record {
  high = omega (arith, c.bytes-test.true);
  each = reached-more c.args.bytes.now c.bytes.at c.bytes.are c.bytes.invariant.each (omega (arith, c.type_inv.bytes c.bytes.at));
}
