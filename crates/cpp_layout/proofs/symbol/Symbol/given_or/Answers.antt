use Rattle.cpp_layout.proofs.Basics.{ap, arith, length, subst, sym, ◌≡◌, ◌∙◌, argument_or, over, tree_at, tree_if_there, trees, there-below, table_of}
use Rattle.cpp_layout.proofs.symbol.Symbol.given_or.Goals as goal

pub given_for-requires-clause-given : goal.given_for-requires-clause-given
given_for-requires-clause-given c = omega (arith, ap (λ y. length y.table.nodes) c.self.view_is, there-below _ c.args.given c.in-Some.argument c.in-Some.is c.requires.given)

pub returns-in-Some-clause-tree : goal.returns-in-Some-clause-tree
unfolding argument_or tree_if_there
returns-in-Some-clause-tree c =
    subst (λ ts. tree_at ts c.given_for.result ≡ argument_or (tree_if_there ts c.args.given) c.args.number (tree_at ts c.args.own))
    (ap (λ b. trees (over b c.self.inside.nodes)) c.deref.ensures.value ∙ ap (λ y. trees (table_of y)) c.self.view_is)
    (c.given_for.ensures.tree
    ∙ ap (λ g. argument_or (tree_if_there (trees (over c.deref.result.now c.self.inside.nodes)) g) c.args.number (tree_at (trees (over c.deref.result.now c.self.inside.nodes)) c.args.own)) (sym c.in-Some.is))

pub returns-in-Some-clause-below : goal.returns-in-Some-clause-below
returns-in-Some-clause-below c = omega (arith, ap (λ y. length y.table.nodes) c.self.view_is, c.given_for.ensures.below)
