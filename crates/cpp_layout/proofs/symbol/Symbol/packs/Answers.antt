use Rattle.cpp_layout.proofs.Basics.{ap, subst, ◌≡◌, ◌∙◌, over, tree_under, trees, packs_of, pack_length, table_of}
use Rattle.cpp_layout.proofs.symbol.Symbol.packs.Goals as goal

pub returns : goal.returns
unfolding tree_under packs_of
returns c =
    subst (λ ts. c.packs.result ≡ pack_length (tree_under ts (record { node = c.args.node; under = c.args.ctx.argument })))
    (ap (λ b. trees (over b c.self.inside.nodes)) c.deref.ensures.value ∙ ap (λ y. trees (table_of y)) c.self.view_is) c.packs.ensures
