use Rattle.cpp_direct.proofs.ForAnswers.{◌-◌, length, subst, arith, ReachesNameBytes, reached-on, NameClass}
use Rattle.cpp_direct.proofs.names.are_name_bytes.Goals as goal

pub lanes-preserved : goal.lanes-preserved
lanes-preserved c = record {
  high = omega (arith, c.lanes-test.true);
  each = reached-on c.args.bytes.now c.lanes.at c.lanes.at c.lanes.invariant.each (omega arith) (c.are_lanes_named.ensures c.if-not-are_lanes_named.false);
}

pub returns : goal.returns
returns c = λ is.
    let bytes = c.args.bytes.now in
    subst (λ n. ReachesNameBytes NameClass.Cpp bytes n) (omega (arith, c.if-bytes-lt-LANES.false))
    (reached-on bytes c.lanes.at (length bytes - 16) c.lanes.invariant.each (omega (arith, c.lanes-test.false)) (c.are_lanes_named-2.ensures is))
