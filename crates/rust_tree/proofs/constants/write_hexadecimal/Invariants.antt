use Rattle.rust_tree.proofs.Basics.{◌+◌, ◌≡◌, ◌<◌, ◌≤◌, drop, length, false, digits, digits_onto, reach}
use Rattle.rust_tree.proofs.constants.write_hexadecimal.Given as goal

abbrev pub invariant-digits : goal.invariant-digits
invariant-digits l =
    (length l.list ≡ 8) × (l.from ≤ 8) × (l.rest < reach l.from) × (0 < l.from)
    × (digits_onto (56 + l.from) 16 false l.rest (drop l.from l.list) ≡ digits 16 false l.number)

abbrev pub decreases-digits : goal.decreases-digits
decreases-digits l = l.rest
