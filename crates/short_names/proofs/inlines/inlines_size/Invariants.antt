use Rattle.short_names.proofs.Basics.{◌≡◌, ◌≤◌, ◌+◌, ◌-◌, length, drop, inlines_size}
use Rattle.short_names.proofs.inlines.inlines_size.Given as goal

abbrev pub invariant-names : goal.invariant-names
invariant-names l = record {
  within : l.size ≤ length l.name;
  so_far : inlines_size l.rows 0 l.name ≡ l.size + inlines_size l.rows 0 (drop l.size l.name);
}

abbrev pub decreases-names : goal.decreases-names
decreases-names l = length l.name - l.size
