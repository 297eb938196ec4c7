-- If each rule adds at most one node, a tree adds at most as many nodes as it has rows.
use Rattle.std.proofs.Common.{ℕ, ◌≤◌, arith}
use Rattle.sym_shape.specs.Tree.{Tree, Forest, branch, empty, token, fixed, nothing, grown, row_count, row_count_all}
use Rattle.sym_link.specs.Owing.{Owes, cost, cost_all}

module _ (owes : Owes) (one : (number : ℕ) → owes number 0 ≤ 1) where
  mutual
    pub cost_rows : (tree : Tree) → cost owes tree ≤ row_count tree
    cost_rows (branch rule taken parts) = omega (arith, one rule.number, cost_rows_all parts)
    cost_rows empty = omega arith
    cost_rows (token t) = omega arith
    cost_rows (fixed byte) = omega arith

    pub cost_rows_all : (parts : Forest) → cost_all owes parts ≤ row_count_all parts
    cost_rows_all nothing = omega arith
    cost_rows_all (grown tree rest) = omega (arith, cost_rows tree, cost_rows_all rest)
