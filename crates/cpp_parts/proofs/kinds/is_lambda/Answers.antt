use Rattle.cpp_parts.proofs.Basics.{◌∙◌, sym, ap, plain_tree, table_of, is_lambda_piece, piece_of, is_lambda_by}
use Rattle.cpp_parts.proofs.Kinding.{piece-by}
use Rattle.cpp_parts.proofs.kinds.is_lambda.Goals as goal

pub returns : goal.returns
returns c =
    c.is_lambda_name.ensures
    ∙ ap is_lambda_by c.node.ensures.fields.production
    ∙ sym (piece-by (plain_tree (table_of c.args.y.now) c.own_node.result)).2
    ∙ ap (λ t. is_lambda_piece (piece_of t)) c.own_node.ensures.is
