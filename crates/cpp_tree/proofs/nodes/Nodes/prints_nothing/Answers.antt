use Rattle.cpp_tree.specs.Nodes.{over}
use Rattle.cpp_tree.proofs.Trees.{empty_in, empty_again, there-below}
use Rattle.cpp_tree.proofs.nodes.Nodes.prints_nothing.Goals as goal

pub returns-in-None : goal.returns-in-None
returns-in-None c = λ x. empty_in (over c.args.symbol.now c.args.self.now) c.args.tree c.entry-held.result x c.requires.table c.requires.tree.0 c.entry-held.ensures c.in-None.is

pub returns-in-Some : goal.returns-in-Some
returns-in-Some c = λ x.
    empty_again (over c.args.symbol.now c.args.self.now) c.args.tree c.entry-held.result c.in-Some.argument c.given_packs.result c.is_none.result c.empty_by.result x c.requires.table c.requires.tree.0 (there-below _ c.args.tree.under c.in-Some.argument c.in-Some.is c.requires.tree.1)
    c.entry-held.ensures c.in-Some.is c.given_packs.ensures c.is_none.ensures c.empty_by.ensures
