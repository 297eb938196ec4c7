use Rattle.sym_core.proofs.Basics.{◌≡◌, drop, value_onto, value_of, Hex}
use Rattle.sym_core.proofs.values.value16.Given as goal

abbrev pub invariant-loop-byte : goal.invariant-loop-byte
invariant-loop-byte l = value_onto Hex l.value (drop l.byte-index l.digits) ≡ value_of Hex l.digits
