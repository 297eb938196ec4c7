-- The value of a constant (`MOST_BOUND`) that clauses name.
use Rattle.rust_tree.proofs.Basics.{◌≡◌, refl}
use Rattle.rust_tree.specs.declared.node.TheConstants.{MOST_BOUND}

pub most_lifetimes : MOST_BOUND ≡ 1000
most_lifetimes = refl
