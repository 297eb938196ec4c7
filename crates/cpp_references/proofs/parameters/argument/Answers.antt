use Rattle.cpp_references.proofs.Basics.{◌∙◌, ap, refl, is_open, element, tree_at, placed-none, trees_in}
use Rattle.cpp_references.proofs.Arguments.{element_closed}
use Rattle.cpp_references.proofs.parameters.argument.Goals as goal

pub closed_node-requires-clause-closed : goal.closed_node-requires-clause-closed
closed_node-requires-clause-closed c =
    let ts = trees_in c.args.symbol.now c.args.nodes.now in
    ap is_open (c.element-argument.ensures.tree ∙ ap (λ t. element t c.args.number) (placed-none ts _ refl))
    ∙ element_closed (tree_at ts c.args.scope) c.args.number c.requires.closed

pub returns-clause-tree : goal.returns-clause-tree
returns-clause-tree c =
    let ts = trees_in c.args.symbol.now c.args.nodes.now in
    c.closed_node.ensures.tree ∙ c.element-argument.ensures.tree ∙ ap (λ t. element t c.args.number) (placed-none ts _ refl)
