use Rattle.cpp_spelling.proofs.Basics.{ap, sym, ◌∙◌, erase, tree_of, is_one_piece, is_piece_behind, plain_at, node_tree}
use Rattle.cpp_spelling.proofs.Entities.{instance-piece, other-piece}
use Rattle.cpp_spelling.proofs.names.is_one_piece.Goals as goal

pub returns-in-Instance : goal.returns-in-Instance
unfolding erase tree_of
returns-in-Instance c =
    let y = c.args.symbol.now in
    c.is_piece_behind.ensures
    ∙ sym (instance-piece (plain_at y c.args.entity) (plain_at y c.in-Instance.template) (plain_at y c.in-Instance.arguments)
    (c.stored.ensures.tree ∙ ap (node_tree y) c.in-Instance.is))

pub returns-in_default : goal.returns-in_default
returns-in_default c =
    let y = c.args.symbol.now in
    c.is_piece_behind-in_default.ensures
    ∙ ap is_piece_behind c.stored.ensures.tree
    ∙ sym (other-piece y c.stored.result c.stored.ensures.own c.in_default.not-Instance)
    ∙ sym (ap is_one_piece c.stored.ensures.tree)
