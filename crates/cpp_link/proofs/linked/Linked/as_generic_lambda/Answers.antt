use Rattle.cpp_link.proofs.Basics.{sym, ◌∙◌, ap, as_generic_lambda, trees_in, value_of}
use Rattle.cpp_link.proofs.Rescoped.{no_piece}
use Rattle.cpp_link.proofs.linked.Linked.as_generic_lambda.Goals as goal

pub returns-in-Piece-clause-value : goal.returns-in-Piece-clause-value
unfolding value_of
returns-in-Piece-clause-value c = c.piece_as_generic_lambda.ensures.is ∙ ap (λ p. as_generic_lambda (value_of c.args.symbol.now (trees_in c.args.symbol.now c.args.self.now.nodes) p)) (sym c.in-Piece.is)

pub returns-in_default-clause-value : goal.returns-in_default-clause-value
returns-in_default-clause-value c = sym (no_piece c.args.symbol.now (trees_in c.args.symbol.now c.args.self.now.nodes) c.args.part c.in_default.not-Piece)
