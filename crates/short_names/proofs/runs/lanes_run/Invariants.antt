use Rattle.short_names.proofs.Basics.{◌≡◌, ◌-◌, ◌≤◌, length, take, true, list_all, is_name_byte}
use Rattle.short_names.proofs.runs.lanes_run.Given as goal

abbrev pub invariant-lanes : goal.invariant-lanes
invariant-lanes l = record {
  within : l.size ≤ length l.text;
  in_run : list_all is_name_byte (take l.size l.text) ≡ true;
}

abbrev pub decreases-lanes : goal.decreases-lanes
decreases-lanes l = length l.text - l.size
