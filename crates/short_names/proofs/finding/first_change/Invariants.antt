use Rattle.short_names.proofs.Basics.{◌≤◌, ◌-◌, length, IsPlain}
use Rattle.short_names.proofs.finding.first_change.Given as goal

abbrev pub invariant-names : goal.invariant-names
invariant-names l = record {
  within : l.at ≤ length l.text;
  plain : IsPlain l.text l.at;
}

abbrev pub decreases-names : goal.decreases-names
decreases-names l = length l.text - l.at
