use Rattle.sym_filter.proofs.Basics.{◌≡◌, ◌≤◌, length, drop, true, list_all}
use Rattle.sym_filter.proofs.RunLemmas.{is_dot}
use Rattle.sym_filter.proofs.words.word_end.Given as goal

abbrev pub invariant-loop-end : goal.invariant-loop-end
invariant-loop-end l = record {
  within : l.end ≤ length l.part;
  dots : list_all is_dot (drop l.end l.part) ≡ true;
}

abbrev pub decreases-loop-end : goal.decreases-loop-end
decreases-loop-end l = l.end
