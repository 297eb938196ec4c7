use Rattle.cpp_references.proofs.Basics.{sym, ◌∙◌, ap, Some, tree_at, tree_if_there, placed_if_there, tree_under, trees_in}
use Rattle.cpp_references.proofs.Arguments.{argument_closed, none_closed, some_closed}
use Rattle.cpp_references.proofs.parameters.closed_arguments.Goals as goal

pub closed_node-requires-clause-closed : goal.closed_node-requires-clause-closed
unfolding placed_if_there
closed_node-requires-clause-closed c =
    let ts = trees_in c.args.symbol.now c.args.nodes.now in
    let held = c.requires.table.each c.args.name c.requires.below in
    argument_closed (tree_at ts c.args.name) (tree_under ts c.in-Some.arguments) (sym c.is_open.ensures ∙ c.if-is_open.false)
    (sym held.arguments ∙ ap (λ o. placed_if_there ts o) (sym (ap (λ e. e.arguments) c.entry.ensures) ∙ c.in-Some.is))

pub returns-then-is_open-clause-is : goal.returns-then-is_open-clause-is
unfolding tree_if_there
returns-then-is_open-clause-is c = sym (none_closed (tree_at (trees_in c.args.symbol.now c.args.nodes.now) c.args.name) (sym c.is_open.ensures ∙ c.if-is_open.true))

pub returns-in-Some-clause-is : goal.returns-in-Some-clause-is
unfolding tree_if_there placed_if_there
returns-in-Some-clause-is c =
    let ts = trees_in c.args.symbol.now c.args.nodes.now in
    let held = c.requires.table.each c.args.name c.requires.below in
    ap (λ t. Some t) c.closed_node.ensures.tree
    ∙ sym (some_closed (tree_at ts c.args.name) (sym c.is_open.ensures ∙ c.if-is_open.false)
    ∙ sym held.arguments ∙ ap (λ o. placed_if_there ts o) (sym (ap (λ e. e.arguments) c.entry.ensures) ∙ c.in-Some.is))

pub returns-in-None-clause-is : goal.returns-in-None-clause-is
unfolding tree_if_there placed_if_there
returns-in-None-clause-is c =
    let ts = trees_in c.args.symbol.now c.args.nodes.now in
    let held = c.requires.table.each c.args.name c.requires.below in
    sym (some_closed (tree_at ts c.args.name) (sym c.is_open.ensures ∙ c.if-is_open.false)
    ∙ sym held.arguments ∙ ap (λ o. placed_if_there ts o) (sym (ap (λ e. e.arguments) c.entry.ensures) ∙ c.in-None.is))
