use Rattle.sym_filter.proofs.Basics.{◌≡◌, ◌-◌, ◌≤◌, length, take, true, list_all, is_byte_of}
use Rattle.sym_filter.proofs.words.run_front.Given as goal

abbrev pub invariant-bytes : goal.invariant-bytes
invariant-bytes l = record {
  within : l.length ≤ length l.text;
  in_run : list_all (is_byte_of l.letters) (take l.length l.text) ≡ true;
}

abbrev pub decreases-bytes : goal.decreases-bytes
decreases-bytes l = length l.text - l.length
