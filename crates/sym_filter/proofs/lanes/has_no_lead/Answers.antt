use Rattle.sym_filter.proofs.Basics.{◌≡◌, subst, take, drop, true, ℕ, eqb-true, list_all, first_set, is_no_lead}
use Rattle.sym_filter.proofs.lanes.has_no_lead.Goals as goal

pub returns : goal.returns
returns c = λ all. subst (λ (mask : ℕ). list_all is_no_lead (take (first_set mask) (drop c.args.at c.args.text.now)) ≡ true) (eqb-true c.leads.result 0 all) c.leads.ensures.1
