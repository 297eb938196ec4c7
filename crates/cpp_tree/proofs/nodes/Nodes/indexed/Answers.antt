use Rattle.cpp_tree.proofs.Basics.{arith, sym, ◌∙◌, ap, Some, over, trees, tree_under, indexed}
use Rattle.cpp_tree.proofs.Trees.{indexed_pack, pack_below, indexed_none, indexed_other}
use Rattle.cpp_tree.proofs.nodes.Nodes.indexed.Goals as goal

pub element-requires-clause-list : goal.element-requires-clause-list
element-requires-clause-list c =
    let y = over c.args.symbol.now c.args.self.now in
    (omega (arith, c.settled-settled.ensures.below.0, pack_below y c.settled-settled.result.node c.in-Pack.elements c.requires.table c.settled-settled.ensures.below.0 (sym c.node.ensures.is ∙ c.in-Pack.is)), c.settled-settled.ensures.below.1)

pub returns-in-Pack-clause-tree : goal.returns-in-Pack-clause-tree
returns-in-Pack-clause-tree c =
    let y = over c.args.symbol.now c.args.self.now in
    c.element.ensures.tree ∙ indexed_pack y c.settled-settled.result c.in-Some.i c.in-Pack.elements c.requires.table c.settled-settled.ensures.below.0 (sym c.node.ensures.is ∙ c.in-Pack.is)
    ∙ ap (λ t. indexed (Some c.in-Some.i) t) c.settled-settled.ensures.tree ∙ ap (λ x. indexed x (tree_under (trees y) c.args.argument)) (sym c.in-Some.is)

pub returns-in_default-clause-tree : goal.returns-in_default-clause-tree
returns-in_default-clause-tree c =
    let t = tree_under (trees (over c.args.symbol.now c.args.self.now)) c.args.argument in
    sym (ap (λ x. indexed x t) c.in_default.is ∙ indexed_none t)

pub returns-in_default-node : goal.returns-in_default-node
returns-in_default-node c =
    let y = over c.args.symbol.now c.args.self.now in
    record {
      tree = sym (ap (λ t. indexed c.args.index t) (sym c.settled-settled.ensures.tree)
          ∙ indexed_other y c.settled-settled.result c.args.index c.requires.table c.settled-settled.ensures.below.0 c.settled-settled.ensures.flat (λ elements is. c.in_default-node.not-Pack elements (c.node.ensures.is ∙ is)) ∙ c.settled-settled.ensures.tree);
      below = c.requires.argument;
    }
