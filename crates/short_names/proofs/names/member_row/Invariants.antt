use Rattle.short_names.proofs.Basics.{◌≡◌, ◌≤◌, ◌-◌, length, drop, ALIASES, member_in}
use Rattle.short_names.proofs.names.member_row.Given as goal

abbrev pub invariant-rows : goal.invariant-rows
invariant-rows l = record {
  within : l.row ≤ length ALIASES;
  same : member_in ALIASES l.name l.text ≡ member_in (drop l.row ALIASES) l.name l.text;
}

abbrev pub decreases-rows : goal.decreases-rows
decreases-rows l = length ALIASES - l.row
