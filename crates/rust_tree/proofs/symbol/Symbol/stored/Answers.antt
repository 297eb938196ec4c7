use Rattle.rust_tree.proofs.Reading.{read_tree, read_parts}
use Rattle.rust_tree.proofs.Viewing.{read-bare}
use Rattle.rust_tree.proofs.symbol.Symbol.stored.Goals as goal

pub returns-clause-tree : goal.returns-clause-tree
returns-clause-tree c = read_tree _ c.args.self.now c.self.view_is c.self.invariant c.args.node c.node.result c.node.ensures

pub returns-clause-parts : goal.returns-clause-parts
returns-clause-parts c = read_parts _ c.args.self.now c.self.view_is c.self.invariant c.args.node c.node.result c.node.ensures

pub returns-clause-bare : goal.returns-clause-bare
returns-clause-bare c = read-bare _ c.args.self.now c.self.view_is c.self.invariant
