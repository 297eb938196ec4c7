use Rattle.rust_tree.specs.Tree.{of_path}
use Rattle.rust_tree.specs.Nodes.{trees}
use Rattle.rust_references.proofs.Naming.{path_named}
use Rattle.rust_references.proofs.named.path_named.Goals as goal

pub returns-in-Path-clause-names : goal.returns-in-Path-clause-names
returns-in-Path-clause-names c at known place bound table is =
    let noted = rw c.in-Path.is at is in
    rw c.in-Path.is (path_named (trees at.symbol c.args.nodes.now.nodes) c.in-Path.node at known c.args.place c.args.bound c.closed.result place bound
    noted.0 noted.1 noted.2 (c.closed.ensures.closes at.symbol (of_path noted.0) table noted.1))
