use Rattle.cpp_layout.proofs.Basics.{ap, subst, ◌≡◌, ◌∙◌, over, tree_under, trees, without_tags, table_of}
use Rattle.cpp_layout.proofs.symbol.Symbol.untagged.Goals as goal

pub returns-clause-tree : goal.returns-clause-tree
unfolding tree_under
returns-clause-tree c =
    let seen = ap (λ y. trees (table_of y)) c.self.view_is in
    subst (λ ts. tree_under ts c.settled-placed.result ≡ tree_under ts c.untagged-inner.result) (ap (λ b. trees (over b c.self.inside.nodes)) c.deref-2.ensures.value ∙ seen) c.settled-placed.ensures.tree
    ∙ subst (λ ts. tree_under ts c.untagged-inner.result ≡ without_tags (tree_under ts (record { node = c.args.name; under = c.args.ctx.argument })))
    (ap (λ b. trees (over b c.self.inside.nodes)) c.deref.ensures.value ∙ seen) c.untagged-inner.ensures.tree
