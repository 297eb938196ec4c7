use Rattle.sym_filter.proofs.Basics.{◌≡◌, ◌≤◌, take, drop, subst, sym, true, ℕ, list_all, is_no_mark}
use Rattle.sym_filter.proofs.lanes.lanes_before_mark.Goals as goal

pub returns : goal.returns
returns c = subst (λ (n : ℕ). (n ≤ 16) × (list_all is_no_mark (take n (drop c.args.at c.args.text.now)) ≡ true)) (sym c.first_set.ensures) c.marks.ensures
