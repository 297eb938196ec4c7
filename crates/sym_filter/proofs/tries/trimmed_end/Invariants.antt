use Rattle.sym_filter.proofs.Basics.{◌≡◌, ◌≤◌, length, drop, true, list_all}
use Rattle.sym_filter.proofs.TryLemmas.{is_left_out}
use Rattle.sym_filter.proofs.tries.trimmed_end.Given as goal

abbrev pub invariant-bytes : goal.invariant-bytes
invariant-bytes l = record {
  within : l.end ≤ length l.word;
  left : list_all is_left_out (drop l.end l.word) ≡ true;
}

abbrev pub decreases-bytes : goal.decreases-bytes
decreases-bytes l = l.end
