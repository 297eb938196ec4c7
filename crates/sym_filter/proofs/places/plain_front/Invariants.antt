use Rattle.sym_filter.proofs.Basics.{◌≡◌, ◌-◌, ◌≤◌, length, take, true, is_plain}
use Rattle.sym_filter.proofs.places.plain_front.Given as goal

abbrev pub invariant-bytes : goal.invariant-bytes
invariant-bytes l = record {
  within : l.length ≤ length l.text;
  plain : is_plain l.letters l.place (take l.length l.text) ≡ true;
}

abbrev pub decreases-bytes : goal.decreases-bytes
decreases-bytes l = length l.text - l.length
