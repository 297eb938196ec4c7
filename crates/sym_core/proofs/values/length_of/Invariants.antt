use Rattle.sym_core.proofs.Basics.{◌≡◌, ◌<◌, ◌^◌, drop, value_onto, value_of, Length}
use Rattle.sym_core.proofs.values.length_of.Given as goal

abbrev pub invariant-loop-byte : goal.invariant-loop-byte
invariant-loop-byte l =
    (value_onto Length l.value (drop l.byte-index l.digits) ≡ value_of Length l.digits) × (l.value < 10 ^ l.byte-index)
