use Rattle.cpp_layout.proofs.Basics.{ap, subst, ◌≡◌, ◌∙◌, over, tree_under, trees, context_of, table_of}
use Rattle.cpp_grammar.specs.Items as heads
use Rattle.cpp_term.specs.Items as items
use Rattle.cpp_layout.proofs.symbol.Symbol.is_function.Goals as goal

pub returns-in-None : goal.returns-in-None
unfolding tree_under
returns-in-None c =
    subst (λ ts. c.is_function-in-None.result ≡ heads.is_funarr (items.head (context_of c.args.ctx) (tree_under ts (record { node = c.args.node; under = c.args.ctx.argument }))))
    (ap (λ b. trees (over b c.self.inside.nodes)) c.deref.ensures.value ∙ ap (λ y. trees (table_of y)) c.self.view_is) c.is_function-in-None.ensures
