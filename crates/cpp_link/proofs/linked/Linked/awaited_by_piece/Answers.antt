use Rattle.cpp_link.proofs.Basics.{◌∙◌, sym, ap, refl, behind_another, awaited_by_piece, piece_of, trees_in}
use Rattle.cpp_link.proofs.Awaited.{heads_alike}
use Rattle.cpp_link.proofs.linked.Linked.awaited_by_piece.Goals as goal

pub returns-in-Lambda : goal.returns-in-Lambda
unfolding awaited_by_piece piece_of
returns-in-Lambda c = c.heads.ensures ∙ ap (λ p. awaited_by_piece c.args.encoding (piece_of c.args.symbol.now (trees_in c.args.symbol.now c.args.self.now.nodes) p)) (sym c.in-Lambda.is)

pub returns-in-GenericLambda : goal.returns-in-GenericLambda
unfolding awaited_by_piece piece_of
returns-in-GenericLambda c =
    c.behind_another.ensures ∙ ap behind_another (c.heads-in-GenericLambda.ensures ∙ heads_alike c.args.encoding _ _ c.types_in-types.ensures.heads)
    ∙ ap (λ p. awaited_by_piece c.args.encoding (piece_of c.args.symbol.now (trees_in c.args.symbol.now c.args.self.now.nodes) p)) (sym c.in-GenericLambda.is)
