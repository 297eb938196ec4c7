use Rattle.sym_filter.proofs.Basics.{◌-◌, ◌≤◌, length, take, false, IsRead}
use Rattle.sym_filter.proofs.escapes.first_segment.Given as goal

abbrev pub invariant-bytes : goal.invariant-bytes
invariant-bytes l = record {
  within : l.length ≤ length l.text;
  read : IsRead false l.fn.letters l.fn.escape l.here (take l.length l.text);
}

abbrev pub decreases-bytes : goal.decreases-bytes
decreases-bytes l = length l.text - l.length
