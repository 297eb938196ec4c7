use Rattle.short_names.proofs.Basics.{◌≡◌, ◌++◌, ◌≤◌, ◌-◌, take, length, filled}
use Rattle.short_names.proofs.patterns.is_filled.Given as goal

abbrev pub invariant-pattern : goal.invariant-pattern
invariant-pattern l = record {
  within : l.at ≤ length l.pattern;
  so_far : l.text ≡ filled l.holes.first.now l.holes.second.now l.holes.whole.now (take l.at l.pattern) ++ l.rest;
}

abbrev pub decreases-pattern : goal.decreases-pattern
decreases-pattern l = length l.pattern - l.at
