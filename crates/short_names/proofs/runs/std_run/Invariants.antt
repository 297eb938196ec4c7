use Rattle.short_names.proofs.Basics.{◌≡◌, ◌≤◌, ◌<◌, ◌-◌, ℕ, false, length, is_std_at}
use Rattle.short_names.proofs.runs.std_run.Given as goal

abbrev pub invariant-places : goal.invariant-places
invariant-places l = record {
  from : l.from ≤ l.at;
  within : l.at ≤ length l.text;
  none : (k : ℕ) → l.from ≤ k → k < l.at → is_std_at l.text k ≡ false;
}

abbrev pub decreases-places : goal.decreases-places
decreases-places l = length l.text - l.at
