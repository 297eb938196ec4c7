use Rattle.sym_filter.proofs.Basics.{◌≡◌, ◌-◌, ◌≤◌, length, take, true, list_all, is_no_mark}
use Rattle.sym_filter.proofs.places.blocks_before_mark.Given as goal

abbrev pub invariant-steps : goal.invariant-steps
invariant-steps l = record {
  within : l.length ≤ length l.text;
  no_mark : list_all is_no_mark (take l.length l.text) ≡ true;
}

abbrev pub decreases-steps : goal.decreases-steps
decreases-steps l = length l.text - l.length
