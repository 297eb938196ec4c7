use Rattle.cpp_tree.proofs.Basics.{rules, over}
use Rattle.cpp_tree.proofs.Pushed.{with-thunk-more, adjusted, adjusted-trees}
use Rattle.cpp_tree.proofs.nodes.Nodes.push_thunk.Goals as goal

pub returns-clause-table : goal.returns-clause-table
returns-clause-table c =
    adjusted (over c.args.symbol.now c.args.self.now) _ c.args.thunk (with-thunk-more c.args.symbol.now c.args.self.now _ _ c.args.thunk (search rules) (search rules)) c.requires.table c.requires.within

pub returns-clause-trees : goal.returns-clause-trees
returns-clause-trees c =
    adjusted-trees (over c.args.symbol.now c.args.self.now) _ c.args.thunk (with-thunk-more c.args.symbol.now c.args.self.now _ _ c.args.thunk (search rules) (search rules)) c.requires.table c.requires.within
