use Rattle.short_names.proofs.Basics.{◌≡◌, ◌-◌, length, drop, TEMPLATES, template_in}
use Rattle.short_names.proofs.names.row_of.Given as goal

abbrev pub invariant-rows : goal.invariant-rows
invariant-rows l = record {
  same : template_in TEMPLATES l.name ≡ template_in (drop l.row TEMPLATES) l.name;
}

abbrev pub decreases-rows : goal.decreases-rows
decreases-rows l = length TEMPLATES - l.row
