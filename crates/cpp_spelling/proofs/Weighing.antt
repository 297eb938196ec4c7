-- The weight of each tree is at least 12.
use Rattle.cpp_spelling.proofs.Basics.{◌≤◌, arith, Term, absent, weight}

pub weight-some : (t : Term) → 12 ≤ weight t
unfolding weight
weight-some absent = omega arith
weight-some _ = omega arith
