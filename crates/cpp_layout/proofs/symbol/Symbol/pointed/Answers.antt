use Rattle.cpp_layout.proofs.Basics.{ap, subst, ◌≡◌, ◌∙◌, pointer, reargued, over, tree_if_there, tree_of, tree_under, trees, table_of}
use Rattle.cpp_layout.proofs.symbol.Symbol.pointed.Goals as goal

pub returns-in-Pointer-clause-tree : goal.returns-in-Pointer-clause-tree
unfolding tree_under tree_of reargued
returns-in-Pointer-clause-tree c =
    subst (λ ts. tree_under ts c.args.ty ≡ pointer (tree_under ts (record { node = c.in-Pointer.to; under = c.args.ty.under })))
    (ap (λ b. trees (over b c.self.inside.nodes)) c.deref.ensures.value ∙ ap (λ y. trees (table_of y)) c.self.view_is)
    (ap (λ t. reargued (tree_if_there (trees (over c.deref.result.now c.self.inside.nodes)) c.args.ty.under) t) c.in-Pointer.ensures.tree)
