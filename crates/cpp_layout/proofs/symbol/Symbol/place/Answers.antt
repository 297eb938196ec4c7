use Rattle.cpp_layout.proofs.Basics.{ap, subst, ◌≡◌, ◌∙◌, over, tree_under, trees, table_of}
use Rattle.cpp_layout.proofs.symbol.Symbol.place.Goals as goal

pub returns-clause-tree : goal.returns-clause-tree
unfolding tree_under
returns-clause-tree c =
    subst (λ ts. tree_under ts c.settled-placed.result ≡ tree_under ts (record { node = c.args.node; under = c.args.ctx.argument }))
    (ap (λ b. trees (over b c.self.inside.nodes)) c.deref.ensures.value ∙ ap (λ y. trees (table_of y)) c.self.view_is) c.settled-placed.ensures.tree
