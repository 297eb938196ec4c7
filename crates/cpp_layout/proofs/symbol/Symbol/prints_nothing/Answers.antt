use Rattle.cpp_layout.proofs.Basics.{ap, subst, ◌≡◌, ◌∙◌, over, tree_under, trees, context_of, table_of}
use Rattle.cpp_term.specs.Items as items
use Rattle.cpp_layout.proofs.symbol.Symbol.prints_nothing.Goals as goal

pub returns : goal.returns
unfolding tree_under
returns c =
    subst (λ ts. c.prints_nothing.result ≡ items.is_empty (context_of c.args.ctx) (tree_under ts (record { node = c.args.node; under = c.args.ctx.argument })))
    (ap (λ b. trees (over b c.self.inside.nodes)) c.deref.ensures.value ∙ ap (λ y. trees (table_of y)) c.self.view_is) (c.prints_nothing.ensures (context_of c.args.ctx))
