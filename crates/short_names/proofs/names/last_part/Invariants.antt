use Rattle.short_names.proofs.Basics.{◌≡◌, ◌≤◌, length, drop, true, list_all, is_no_colon}
use Rattle.short_names.proofs.names.last_part.Given as goal

abbrev pub invariant-bytes : goal.invariant-bytes
invariant-bytes l = record {
  within : l.start ≤ length l.name;
  all : list_all is_no_colon (drop l.start l.name) ≡ true;
}

abbrev pub decreases-bytes : goal.decreases-bytes
decreases-bytes l = l.start
