use Rattle.rust_direct.proofs.Basics.{arith, Rust, is_name_byte}
use Rattle.rust_direct.proofs.LaneLemmas.{lanes-on, pass-on}
use Rattle.rust_direct.proofs.NamePlaces.{few-pass}
use Rattle.rust_direct.proofs.names.are_any_name_bytes.Goals as goal

pub lanes-preserved : goal.lanes-preserved
lanes-preserved c = record {
  low = omega (arith, c.lanes.invariant.low);
  high = omega (arith, c.lanes-test.true, c.lanes.invariant.high);
  each = lanes-on (is_name_byte Rust) c.args.s.now c.args.from c.lanes.at c.lanes.invariant.low c.lanes.invariant.each (c.are_name_lanes.ensures c.if-are_name_lanes.true);
}

pub returns-then-are_last_name_bytes : goal.returns-then-are_last_name_bytes
returns-then-are_last_name_bytes c = λ all.
    pass-on (is_name_byte Rust) c.args.s.now c.args.from c.lanes.at c.args.to c.lanes.invariant.low c.lanes.invariant.high c.lanes.invariant.each (c.are_last_name_bytes.ensures all)

pub returns-else-are_last_name_bytes : goal.returns-else-are_last_name_bytes
returns-else-are_last_name_bytes c = λ all.
    pass-on (is_name_byte Rust) c.args.s.now c.args.from c.lanes.at c.args.to c.lanes.invariant.low c.lanes.invariant.high c.lanes.invariant.each
    (few-pass c.args.s.now c.lanes.at c.args.to c.lanes.invariant.high c.requires.within (c.are_few_name_bytes.ensures all))
