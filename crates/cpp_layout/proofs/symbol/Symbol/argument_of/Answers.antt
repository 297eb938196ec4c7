use Rattle.cpp_layout.proofs.Basics.{ap, arith, length, subst, ◌≡◌, ◌∙◌, over, tree_under, tree_at, trees, placed-alone, argument, indexed, table_of}
use Rattle.cpp_layout.proofs.symbol.Symbol.argument_of.Goals as goal

pub indexed-placed-requires-clause-argument : goal.indexed-placed-requires-clause-argument
indexed-placed-requires-clause-argument c = (omega (arith, ap (λ y. length y.table.nodes) c.self.view_is, c.given_or-argument.ensures.below), tt)

pub returns-clause-tree : goal.returns-clause-tree
unfolding tree_under argument
returns-clause-tree c =
    let read = trees (over c.deref.result.now c.self.inside.nodes) in
    subst (λ ts. tree_under ts c.indexed-placed.result ≡ indexed c.args.ctx.index (tree_at ts c.given_or-argument.result))
    (ap (λ b. trees (over b c.self.inside.nodes)) c.deref.ensures.value ∙ ap (λ y. trees (table_of y)) c.self.view_is)
    (c.indexed-placed.ensures.tree ∙ ap (indexed c.args.ctx.index) (placed-alone read c.given_or-argument.result))
    ∙ ap (indexed c.args.ctx.index) c.given_or-argument.ensures.tree
