use Rattle.rust_tree.proofs.Reading.{read_tree, read_parts}
use Rattle.rust_tree.proofs.symbol.Symbol.stored_at.Goals as goal

pub returns-clause-tree : goal.returns-clause-tree
returns-clause-tree c = read_tree _ c.args.self.now c.self.view_is c.self.invariant c.args.node c.node_at.result.now c.node_at.ensures

pub returns-clause-parts : goal.returns-clause-parts
returns-clause-parts c = read_parts _ c.args.self.now c.self.view_is c.self.invariant c.args.node c.node_at.result.now c.node_at.ensures
