use Rattle.gnu_texts.proofs.Basics.{◌≡◌, ◌≤◌, ◌-◌, length, drop, list_all, is_letter}
use Rattle.gnu_texts.proofs.clones.are_letters.Given as goal

abbrev pub invariant-bytes : goal.invariant-bytes
invariant-bytes l = record {
  within : l.at ≤ length l.text;
  so_far : list_all is_letter l.text ≡ list_all is_letter (drop l.at l.text);
}

abbrev pub decreases-bytes : goal.decreases-bytes
decreases-bytes l = length l.text - l.at
