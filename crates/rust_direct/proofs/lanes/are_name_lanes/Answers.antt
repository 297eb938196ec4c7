use Rattle.rust_direct.proofs.Basics.{subst, ℕ, eqb-true, Rust, is_name_byte, first_set, EachPasses}
use Rattle.rust_direct.proofs.lanes.are_name_lanes.Goals as goal

pub returns : goal.returns
returns c = λ all. subst (λ (mask : ℕ). EachPasses (is_name_byte Rust) c.args.s.now c.args.at (first_set mask)) (eqb-true c.name_stops.result 0 all) c.name_stops.ensures.1
