use Rattle.sym_filter.proofs.Basics.{◌≡◌, ◌-◌, ◌≤◌, take, place_of}
use Rattle.sym_filter.proofs.places.place_in_stretch.Given as goal

abbrev pub invariant-bytes : goal.invariant-bytes
invariant-bytes l = record {
  within : l.next ≤ l.at;
  here : l.here ≡ place_of l.letters l.fn.place (take l.next l.text);
}

abbrev pub decreases-bytes : goal.decreases-bytes
decreases-bytes l = l.at - l.next
