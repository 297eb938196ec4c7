use Rattle.cpp_parts.proofs.Basics.{◌∙◌, sym, ap, plain_tree, table_of, is_string, piece_of, is_string_by}
use Rattle.cpp_parts.proofs.Kinding.{piece-by}
use Rattle.cpp_parts.proofs.kinds.is_string_name.Goals as goal

pub returns : goal.returns
returns c =
    c.is_string.ensures
    ∙ ap is_string_by c.node.ensures.fields.production
    ∙ sym (piece-by (plain_tree (table_of c.args.y.now) c.own_node.result)).1
    ∙ ap (λ t. is_string (piece_of t)) c.own_node.ensures.is
