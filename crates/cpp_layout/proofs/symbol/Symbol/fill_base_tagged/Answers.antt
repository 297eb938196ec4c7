use Rattle.cpp_layout.proofs.Basics.{ap, sym, ◌∙◌, context_of, printed_tree, base_tagged, own_piece, piece_parts}
use Rattle.cpp_layout.proofs.Growing.{fills, starts, told-so}
use Rattle.cpp_layout.proofs.symbol.Symbol.fill_base_tagged.Goals as goal

pub returns-then-of_structor-clause-shows : goal.returns-then-of_structor-clause-shows
unfolding base_tagged
returns-then-of_structor-clause-shows g c =
    fills c.args.self.now c.args.ctx.detail _ _ _ (c.push_item.ensures.shows _ _ (starts c.args.self.now c.args.ctx.detail _))
    (ap (λ b. base_tagged (context_of c.args.ctx) b (printed_tree c.args.self.now c.args.ctx c.args.name)) (sym c.if-of_structor.true))

pub returns-else-of_structor-clause-shows : goal.returns-else-of_structor-clause-shows
unfolding base_tagged
returns-else-of_structor-clause-shows g c =
    let inner = c.untagged-inner.result in
    let said = c.untagged-inner.ensures in
    fills c.args.self.now c.args.ctx.detail _ _ _ (told-so c.args.self.now inner.ctx.detail c.args.ctx.detail _ _ said.detail c.fill_own_piece.ensures.shows)
    (ap (λ x. piece_parts x (own_piece (printed_tree c.args.self.now inner.ctx inner.node))) said.index
    ∙ ap (λ t. piece_parts (context_of c.args.ctx) (own_piece t)) said.tree
    ∙ ap (λ b. base_tagged (context_of c.args.ctx) b (printed_tree c.args.self.now c.args.ctx c.args.name)) (sym c.if-of_structor.false))
