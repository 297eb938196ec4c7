use Rattle.sym_filter.proofs.Basics.{◌≡◌, ◌-◌, ◌≤◌, length, take, true, list_all, is_no_lead}
use Rattle.sym_filter.proofs.escapes.before_lead.Given as goal

abbrev pub invariant-lanes : goal.invariant-lanes
invariant-lanes l = record {
  within : l.length ≤ length l.text;
  no_lead : list_all is_no_lead (take l.length l.text) ≡ true;
}

abbrev pub decreases-lanes : goal.decreases-lanes
decreases-lanes l = length l.text - l.length
