use Rattle.rust_tree.proofs.Basics.{ap, ◌∙◌, slice_get, rules, subst, sym, bounds_in, bounds_of, path_in, bindings_in, trees_of, bound_in, Shows}
use Rattle.rust_tree.proofs.Pushing.{starts, fills}
use Rattle.rust_tree.proofs.Showing.{deeper, early-path, brief-bound, bare-bound}
use Rattle.rust_tree.proofs.symbol.Symbol.fill_bound.Goals as goal

pub returns-in-None-clause-shows : goal.returns-in-None-clause-shows
unfolding bounds_of
returns-in-None-clause-shows g c =
    fills c.args.self.now _ _ _ (starts c.args.self.now _) (ap (λ t. bound_in c.args.ctx (bounds_in t)) c.in-None.ensures.tree)

pub returns-then-not-has_arguments-clause-shows : goal.returns-then-not-has_arguments-clause-shows
unfolding bounds_of
returns-then-not-has_arguments-clause-shows g c =
    let p = early-path (trees_of c.args.self.now) c.args.node c.in-More.path c.in-More.ensures.parts.0 in
    fills c.args.self.now _ _ _ (c.push_path.ensures.shows _ _ (starts c.args.self.now _) p.1 (deeper c.args.ctx.bound c.in-More.path c.args.node p.0 c.requires.depth)) (ap (λ t. bound_in c.args.ctx (bounds_in t)) c.in-More.ensures.tree ∙ brief-bound c.args.ctx.detail c.args.ctx.bound (path_in (slice_get (trees_of c.args.self.now) c.in-More.path)) (bindings_in (slice_get (trees_of c.args.self.now) c.in-More.bindings)) (sym c.has_arguments.ensures ∙ c.if-not-has_arguments.true))

pub returns-then-any_bindings-clause-shows : goal.returns-then-any_bindings-clause-shows
unfolding bounds_of
returns-then-any_bindings-clause-shows g c =
    subst (λ w. Shows c.args.self.now (g.S.PartList.held c.args.parts.now) (g.S.PartList.held c.fill_full_bound.new.parts) w) (sym (ap (λ t. bound_in c.args.ctx (bounds_in t)) c.in-More.ensures.tree)) c.fill_full_bound.ensures.shows

pub returns-else-any_bindings-clause-shows : goal.returns-else-any_bindings-clause-shows
unfolding bounds_of
returns-else-any_bindings-clause-shows g c =
    let p = early-path (trees_of c.args.self.now) c.args.node c.in-More.path c.in-More.ensures.parts.0 in
    fills c.args.self.now _ _ _ (c.push_path-else-any_bindings.ensures.shows _ _ (starts c.args.self.now _) p.1 (deeper c.args.ctx.bound c.in-More.path c.args.node p.0 c.requires.depth)) (ap (λ t. bound_in c.args.ctx (bounds_in t)) c.in-More.ensures.tree ∙ bare-bound c.args.ctx.detail c.args.ctx.bound (path_in (slice_get (trees_of c.args.self.now) c.in-More.path)) (bindings_in (slice_get (trees_of c.args.self.now) c.in-More.bindings)) (search rules))
