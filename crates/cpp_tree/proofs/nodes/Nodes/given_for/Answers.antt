use Rattle.cpp_tree.proofs.Basics.{ap, sym, ◌∙◌, if_alone, element, given_same, over, trees, tree_at}
use Rattle.cpp_tree.proofs.Trees.{placed-alone, given_listed}
use Rattle.cpp_tree.proofs.nodes.Nodes.given_for.Goals as goal

pub returns-then-is_list-clause-tree : goal.returns-then-is_list-clause-tree
returns-then-is_list-clause-tree c =
    let ts = trees (over c.args.symbol.now c.args.self.now) in
    let a = tree_at ts c.args.given in
    c.if_alone.ensures.tree ∙ ap if_alone (c.element.ensures.tree ∙ ap (λ t. element t c.args.number) (placed-alone ts c.args.given)) ∙ sym (given_listed a c.args.number (sym c.is_list.ensures ∙ c.if-is_list.true))

pub returns-clause-tree : goal.returns-clause-tree
returns-clause-tree c = sym (given_same (tree_at (trees (over c.args.symbol.now c.args.self.now)) c.args.given) c.args.number (sym c.is_list.ensures ∙ c.if-is_list.false))
