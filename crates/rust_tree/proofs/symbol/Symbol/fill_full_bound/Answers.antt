use Rattle.rust_tree.proofs.Basics.{slice_get, bindings_in, path_of, trees_of}
use Rattle.rust_tree.proofs.Pushing.{starts, fills}
use Rattle.rust_tree.proofs.Showing.{deeper, early-path, early-arguments, generic-bound, plain-bound}
use Rattle.rust_tree.proofs.symbol.Symbol.fill_full_bound.Goals as goal

pub returns-in-Generic-clause-shows : goal.returns-in-Generic-clause-shows
unfolding path_of
returns-in-Generic-clause-shows g c =
    let p = early-path (trees_of c.args.self.now) c.args.path c.in-Generic.parent (rw c.in-Generic.is at c.path.ensures.parts).0 in
    let a = early-arguments (trees_of c.args.self.now) c.args.path c.in-Generic.arguments (rw c.in-Generic.is at c.path.ensures.parts).1 in
    fills c.args.self.now _ _ _ (c.push_path.ensures.shows _ _ (c.push_text-in-Generic.ensures.shows _ _ (c.push_arguments_before.ensures.shows _ _ (c.push_bindings.ensures.shows _ _ (c.push_text.ensures.shows _ _ (starts c.args.self.now _)) c.requires.depth_of_bindings) (deeper c.args.ctx.bound c.in-Generic.arguments c.args.path a.0 c.requires.depth))) p.1 (deeper c.args.ctx.bound c.in-Generic.parent c.args.path p.0 c.requires.depth)) (rw (rw c.in-Generic.is at c.path.ensures.tree) (generic-bound c.args.ctx.detail c.args.ctx.bound _ _ (bindings_in (slice_get (trees_of c.args.self.now) c.args.bindings)) c.requires.full c.requires.any))

pub returns-in-Crate-clause-shows : goal.returns-in-Crate-clause-shows
unfolding path_of
returns-in-Crate-clause-shows g c =
    fills c.args.self.now _ _ _ (c.push_plain_bound.ensures.shows _ _ (starts c.args.self.now _) c.requires.path c.requires.depth c.requires.depth_of_bindings) (rw (rw c.in-Crate.is at c.path.ensures.tree) (plain-bound c.args.ctx.detail c.args.ctx.bound _ (bindings_in (slice_get (trees_of c.args.self.now) c.args.bindings)) tt c.requires.full c.requires.any))

pub returns-in-InherentImpl-clause-shows : goal.returns-in-InherentImpl-clause-shows
unfolding path_of
returns-in-InherentImpl-clause-shows g c =
    fills c.args.self.now _ _ _ (c.push_plain_bound-in-InherentImpl.ensures.shows _ _ (starts c.args.self.now _) c.requires.path c.requires.depth c.requires.depth_of_bindings) (rw (rw c.in-InherentImpl.is at c.path.ensures.tree) (plain-bound c.args.ctx.detail c.args.ctx.bound _ (bindings_in (slice_get (trees_of c.args.self.now) c.args.bindings)) tt c.requires.full c.requires.any))

pub returns-in-TraitImpl-clause-shows : goal.returns-in-TraitImpl-clause-shows
unfolding path_of
returns-in-TraitImpl-clause-shows g c =
    fills c.args.self.now _ _ _ (c.push_plain_bound-in-TraitImpl.ensures.shows _ _ (starts c.args.self.now _) c.requires.path c.requires.depth c.requires.depth_of_bindings) (rw (rw c.in-TraitImpl.is at c.path.ensures.tree) (plain-bound c.args.ctx.detail c.args.ctx.bound _ (bindings_in (slice_get (trees_of c.args.self.now) c.args.bindings)) tt c.requires.full c.requires.any))

pub returns-in-TraitDefinition-clause-shows : goal.returns-in-TraitDefinition-clause-shows
unfolding path_of
returns-in-TraitDefinition-clause-shows g c =
    fills c.args.self.now _ _ _ (c.push_plain_bound-in-TraitDefinition.ensures.shows _ _ (starts c.args.self.now _) c.requires.path c.requires.depth c.requires.depth_of_bindings) (rw (rw c.in-TraitDefinition.is at c.path.ensures.tree) (plain-bound c.args.ctx.detail c.args.ctx.bound _ (bindings_in (slice_get (trees_of c.args.self.now) c.args.bindings)) tt c.requires.full c.requires.any))

pub returns-in-Nested-clause-shows : goal.returns-in-Nested-clause-shows
unfolding path_of
returns-in-Nested-clause-shows g c =
    fills c.args.self.now _ _ _ (c.push_plain_bound-in-Nested.ensures.shows _ _ (starts c.args.self.now _) c.requires.path c.requires.depth c.requires.depth_of_bindings) (rw (rw c.in-Nested.is at c.path.ensures.tree) (plain-bound c.args.ctx.detail c.args.ctx.bound _ (bindings_in (slice_get (trees_of c.args.self.now) c.args.bindings)) tt c.requires.full c.requires.any))
