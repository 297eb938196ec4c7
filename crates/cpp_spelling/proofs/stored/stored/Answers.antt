use Rattle.cpp_spelling.proofs.Basics.{ap, sym, subst, ◌∙◌, erase, table_of, not_again, node_tree, IsMade}
use Rattle.cpp_spelling.proofs.Made.{made, again-tree}
use Rattle.cpp_spelling.proofs.stored.stored.Goals as goal

pub returns-in-Reargued-clause-tree : goal.returns-in-Reargued-clause-tree
returns-in-Reargued-clause-tree c =
    let y = c.args.symbol.now in
    again-tree (table_of y) c.args.node c.in-Reargued.tree c.in-Reargued.argument c.requires.table c.requires.node (ap (λ e. e.node) (sym c.entry-is.ensures) ∙ c.in-Reargued.is)
    ∙ ap (λ e. node_tree y e.node) (sym c.entry.ensures)

pub returns-in_default-clause-tree : goal.returns-in_default-clause-tree
returns-in_default-clause-tree c =
    let y = c.args.symbol.now in
    ap erase (c.requires.table.each c.args.node c.requires.node).built ∙ ap (λ e. node_tree y e.node) (sym c.entry-is.ensures)

pub returns-in_default-clause-own : goal.returns-in_default-clause-own
returns-in_default-clause-own c = not_again c.entry-is.result.node c.in_default.not-Reargued

pub returns-in_default-clause-below : goal.returns-in_default-clause-below
returns-in_default-clause-below c =
    let y = c.args.symbol.now in
    subst (λ e. IsMade y e.node) (sym c.entry-is.ensures) (made (table_of y) c.args.node c.requires.table c.requires.node)
