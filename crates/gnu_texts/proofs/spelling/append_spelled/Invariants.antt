use Rattle.gnu_texts.proofs.Basics.{◌≡◌, ◌≤◌, ◌++◌, ◌-◌, length, drop, spelled, gnu_text}
use Rattle.gnu_texts.proofs.spelling.append_spelled.Given as goal

abbrev pub invariant-pieces : goal.invariant-pieces
invariant-pieces l = record {
  within : l.at ≤ length l.text;
  so_far : l.out.items ++ spelled l.last 0 (drop l.at l.text) ≡ l.initial.out.items ++ gnu_text l.text;
}

abbrev pub decreases-pieces : goal.decreases-pieces
decreases-pieces l = length l.text - l.at
