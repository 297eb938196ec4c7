use Rattle.cpp_layout.proofs.Basics.{ap, subst, ◌≡◌, ◌∙◌, over, tree_under, tree_at, trees, placed-alone, element, table_of}
use Rattle.cpp_layout.proofs.symbol.Symbol.element_of.Goals as goal

pub returns-clause-tree : goal.returns-clause-tree
unfolding tree_under
returns-clause-tree c =
    subst (λ ts. tree_under ts c.element-placed.result ≡ element (tree_at ts c.args.list) c.args.k)
    (ap (λ b. trees (over b c.self.inside.nodes)) c.deref.ensures.value ∙ ap (λ y. trees (table_of y)) c.self.view_is)
    (c.element-placed.ensures.tree ∙ ap (λ t. element t c.args.k) (placed-alone (trees (over c.deref.result.now c.self.inside.nodes)) c.args.list))
