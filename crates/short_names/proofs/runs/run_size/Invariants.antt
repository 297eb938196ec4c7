use Rattle.short_names.proofs.Basics.{◌≡◌, ◌-◌, ◌≤◌, length, take, true, list_all, is_name_byte}
use Rattle.short_names.proofs.runs.run_size.Given as goal

abbrev pub invariant-bytes : goal.invariant-bytes
invariant-bytes l = record {
  within : l.size ≤ length l.text;
  in_run : list_all is_name_byte (take l.size l.text) ≡ true;
}

abbrev pub decreases-bytes : goal.decreases-bytes
decreases-bytes l = length l.text - l.size
