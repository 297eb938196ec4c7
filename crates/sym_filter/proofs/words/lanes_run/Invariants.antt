use Rattle.sym_filter.proofs.Basics.{◌≡◌, ◌-◌, ◌≤◌, length, take, true, list_all, is_byte_of, Ascii}
use Rattle.sym_filter.proofs.words.lanes_run.Given as goal

abbrev pub invariant-lanes : goal.invariant-lanes
invariant-lanes l = record {
  within : l.length ≤ length l.text;
  in_run : list_all (is_byte_of Ascii) (take l.length l.text) ≡ true;
}

abbrev pub decreases-lanes : goal.decreases-lanes
decreases-lanes l = length l.text - l.length
