-- The nodes that are made where a rule closes are those of its production.
use Rattle.rust_v0.proofs.Basics.{◌≡◌, refl, ap, arith, true, false, ℕ, ◌+◌, ◌-◌, ◌≤◌, length, Some, Ok, Err, Result, OnOk, Refusal, RustNodes, Production, production_of, is_reference, makes_part, nodes_of_production, made_by}
use Rattle.rust_v0.proofs.Meanings.{makes_no_reference}

-- a reference makes no node
pub none_by_reference : (number : ℕ) (production : Production) → production_of number ≡ Some production → is_reference production ≡ true → made_by number ≡ 0
unfolding nodes_of_production
none_by_reference number production is reference = rw (is, reference) refl

-- a production that makes a part makes no node
pub none_by_part : (number : ℕ) (production : Production) → production_of number ≡ Some production → makes_part production ≡ true → made_by number ≡ 0
unfolding nodes_of_production
none_by_part number production is part = rw (is, makes_no_reference production part, part) refl

-- each other production makes one node
pub one_by_node : (number : ℕ) (production : Production) → production_of number ≡ Some production → is_reference production ≡ false → makes_part production ≡ false → made_by number ≡ 1
unfolding nodes_of_production
one_by_node number production is reference part = rw (is, reference, part) refl

-- as many nodes were added as the production makes, whatever the call answers
pub made_so_many : (old new : RustNodes) (result : Result (Unit {0}) Refusal) (made more : ℕ) → length new.nodes.nodes ≡ length old.nodes.nodes + more → made ≡ more
    → OnOk result (length new.nodes.nodes ≡ length old.nodes.nodes + made)
made_so_many old new (Ok done) made more is same = omega (arith, is, same)
made_so_many old new (Err e) made more is same = tt

-- likewise if the first three nodes of each table aren't counted
pub size_added : {A : Type 0} (old new : RustNodes) (result : Result A Refusal) (more : ℕ) → 3 ≤ length old.nodes.nodes → OnOk result (length new.nodes.nodes ≡ length old.nodes.nodes + more)
    → OnOk result (length new.nodes.nodes - 3 ≡ length old.nodes.nodes - 3 + more)
size_added old new (Ok done) more begun is = omega (arith, begun, is)
size_added old new (Err e) more begun is = tt

pub size_same : {A : Type 0} (old new : RustNodes) (result : Result A Refusal) → OnOk result (length new.nodes.nodes ≡ length old.nodes.nodes)
    → OnOk result (length new.nodes.nodes - 3 ≡ length old.nodes.nodes - 3)
size_same old new (Ok done) is = ap (λ n. n - 3) is
size_same old new (Err e) is = tt
