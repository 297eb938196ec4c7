use Rattle.sym_filter.proofs.Basics.{◌≡◌, ◌-◌, ◌≤◌, length, take, true, list_all, is_no_lead}
use Rattle.sym_filter.proofs.escapes.blocks_before_lead.Given as goal

abbrev pub invariant-steps : goal.invariant-steps
invariant-steps l = record {
  within : l.length ≤ length l.text;
  no_lead : list_all is_no_lead (take l.length l.text) ≡ true;
}

abbrev pub decreases-steps : goal.decreases-steps
decreases-steps l = length l.text - l.length
