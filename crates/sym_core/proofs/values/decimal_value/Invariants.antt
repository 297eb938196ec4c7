use Rattle.sym_core.proofs.Basics.{◌≡◌, drop, value_onto, value_of, Decimal}
use Rattle.sym_core.proofs.values.decimal_value.Given as goal

abbrev pub invariant-loop-byte : goal.invariant-loop-byte
invariant-loop-byte l = value_onto Decimal l.value (drop l.byte-index l.digits) ≡ value_of Decimal l.digits
