use Rattle.rust_direct.proofs.Basics.{◌≤◌, subst, sym, ℕ, Base62, is_digit_of, EachPasses}
use Rattle.rust_direct.proofs.lanes.digit_lanes.Goals as goal

pub returns : goal.returns
returns c = subst (λ (n : ℕ). (n ≤ 16) × EachPasses (is_digit_of Base62) c.args.s.now c.args.at n) (sym c.first_set.ensures) c.digit_stops.ensures
