use Rattle.short_names.proofs.Basics.{◌≡◌, ◌≤◌, ◌++◌, ◌-◌, length, false, without_inlines}
use Rattle.short_names.proofs.InlineLemmas.{from_on, piece}
use Rattle.short_names.proofs.inlines.append_without.Given as goal

abbrev pub invariant-runs : goal.invariant-runs
invariant-runs l = record {
  copied : l.copied ≤ l.at;
  within : l.at ≤ length l.text;
  so_far : l.out.items ++ (piece l.text l.copied l.at ++ from_on l.text l.at) ≡ l.initial.out.items ++ without_inlines false 0 l.text;
}

abbrev pub decreases-runs : goal.decreases-runs
decreases-runs l = length l.text - l.at
