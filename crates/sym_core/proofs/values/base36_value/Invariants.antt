use Rattle.sym_core.proofs.Basics.{◌≡◌, drop, value_onto, value_of, Seq36}
use Rattle.sym_core.proofs.values.base36_value.Given as goal

abbrev pub invariant-loop-byte : goal.invariant-loop-byte
invariant-loop-byte l = value_onto Seq36 l.value (drop l.byte-index l.digits) ≡ value_of Seq36 l.digits
