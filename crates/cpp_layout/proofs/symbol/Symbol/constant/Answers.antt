use Rattle.cpp_layout.proofs.Basics.{ap, subst, ◌≡◌, ◌∙◌, qualified, reargued, over, tree_at, tree_if_there, tree_of, tree_under, trees, table_of, just_const}
use Rattle.cpp_layout.proofs.symbol.Symbol.constant.Goals as goal

pub returns-else-not-is_just_const-clause-tree : goal.returns-else-not-is_just_const-clause-tree
unfolding tree_under tree_of reargued
returns-else-not-is_just_const-clause-tree c =
    subst (λ ts. tree_under ts c.args.ty ≡ qualified just_const (tree_under ts (record { node = c.in-Qualified.to; under = c.args.ty.under })))
    (ap (λ b. trees (over b c.self.inside.nodes)) c.deref.ensures.value ∙ ap (λ y. trees (table_of y)) c.self.view_is)
    (ap (λ t. reargued (tree_if_there (trees (over c.deref.result.now c.self.inside.nodes)) c.args.ty.under) t)
    (c.in-Qualified.ensures.tree ∙ ap (λ q. qualified q (tree_at (trees (over c.deref.result.now c.self.inside.nodes)) c.in-Qualified.to)) (c.is_just_const.ensures c.if-not-is_just_const.false)))
