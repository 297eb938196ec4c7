use Rattle.short_names.proofs.Basics.{◌≡◌, ◌≤◌, ◌-◌, length, drop, row_in}
use Rattle.short_names.proofs.names.row_in.Given as goal

abbrev pub invariant-rows : goal.invariant-rows
invariant-rows l = record {
  within : l.k ≤ length l.rows;
  same : row_in l.rows l.text ≡ row_in (drop l.k l.rows) l.text;
}

abbrev pub decreases-rows : goal.decreases-rows
decreases-rows l = length l.rows - l.k
