use Rattle.sym_filter.proofs.Basics.{◌≡◌, ◌-◌, ◌≤◌, length, drop, from_mark}
use Rattle.sym_filter.proofs.marks.mark_behind.Given as goal

abbrev pub invariant-bytes : goal.invariant-bytes
invariant-bytes l = record {
  within : l.at ≤ length l.word;
  from : from_mark l.fn.place l.word ≡ from_mark l.place (drop l.at l.word);
}

abbrev pub decreases-bytes : goal.decreases-bytes
decreases-bytes l = length l.word - l.at
