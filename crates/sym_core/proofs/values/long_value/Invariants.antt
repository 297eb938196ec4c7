use Rattle.sym_core.proofs.Basics.{◌≡◌, drop, AreDigits, value_onto, value_of}
use Rattle.sym_core.proofs.values.long_value.Given as goal

-- the digits so far are digits, and denote the value
abbrev pub invariant-loop-byte : goal.invariant-loop-byte
invariant-loop-byte l =
    (value_onto l.kind l.value (drop l.byte-index l.digits) ≡ value_of l.kind l.digits)
    × (AreDigits l.kind (drop l.byte-index l.digits) → AreDigits l.kind l.digits)
