use Rattle.rust_tree.specs.Tree.{of_path, of_type}
use Rattle.rust_tree.specs.Nodes.{trees}
use Rattle.rust_references.proofs.Naming.{path_type_named, type_named}
use Rattle.rust_references.proofs.named.type_named.Goals as goal

pub returns-in-Path-clause-names : goal.returns-in-Path-clause-names
returns-in-Path-clause-names c at known place bound table is =
    let noted = rw c.in-Path.is at is in
    rw c.in-Path.is (path_type_named (trees at.symbol c.args.nodes.now.nodes) c.in-Path.node at known c.args.place c.args.bound c.closed.result place bound
    noted.0 noted.1 noted.2 (c.closed.ensures.closes at.symbol (of_path noted.0) table noted.1))

pub returns-in-Type-clause-names : goal.returns-in-Type-clause-names
returns-in-Type-clause-names c at known place bound table is =
    let noted = rw c.in-Type.is at is in
    rw c.in-Type.is (type_named (trees at.symbol c.args.nodes.now.nodes) c.in-Type.node at known c.args.place c.args.bound c.closed-in-Type.result place bound
    noted.0 noted.1 noted.2 noted.3 (c.closed-in-Type.ensures.closes at.symbol (of_type noted.0) table noted.1))
