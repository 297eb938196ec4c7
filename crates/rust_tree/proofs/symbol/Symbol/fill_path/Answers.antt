use Rattle.rust_tree.proofs.Basics.{ap, path_in, path_of, path_parts, trees_of}
use Rattle.rust_tree.proofs.Pushing.{starts, fills}
use Rattle.rust_tree.proofs.Showing.{deeper, early-path, early-type, early-arguments}
use Rattle.rust_tree.proofs.symbol.Symbol.fill_path.Goals as goal

pub returns-in-Crate-clause-shows : goal.returns-in-Crate-clause-shows
unfolding path_parts path_of
returns-in-Crate-clause-shows g c =
    fills c.args.self.now _ _ _ (c.push_name.ensures.shows _ _ (starts c.args.self.now _) (rw c.in-Crate.is at c.path.ensures.parts)) (ap (λ t. path_parts c.args.ctx.detail c.args.ctx.bound c.args.value (path_in t)) (rw c.in-Crate.is at c.path.ensures.tree))

pub returns-in-InherentImpl-clause-shows : goal.returns-in-InherentImpl-clause-shows
unfolding path_parts path_of
returns-in-InherentImpl-clause-shows g c =
    let t = early-type (trees_of c.args.self.now) c.args.node c.in-InherentImpl.self_type (rw c.in-InherentImpl.is at c.path.ensures.parts).1 in
    fills c.args.self.now _ _ _ (c.push_text-in-InherentImpl.ensures.shows _ _ (c.push_item.ensures.shows _ _ (c.push_text.ensures.shows _ _ (starts c.args.self.now _)) t.1 (deeper c.args.ctx.bound c.in-InherentImpl.self_type c.args.node t.0 c.requires.depth))) (ap (λ t. path_parts c.args.ctx.detail c.args.ctx.bound c.args.value (path_in t)) (rw c.in-InherentImpl.is at c.path.ensures.tree))

pub returns-in-TraitImpl-clause-shows : goal.returns-in-TraitImpl-clause-shows
unfolding path_parts path_of
returns-in-TraitImpl-clause-shows g c =
    let t = early-type (trees_of c.args.self.now) c.args.node c.in-TraitImpl.self_type (rw c.in-TraitImpl.is at c.path.ensures.parts).1 in
    let q = early-path (trees_of c.args.self.now) c.args.node c.in-TraitImpl.implemented (rw c.in-TraitImpl.is at c.path.ensures.parts).2 in
    fills c.args.self.now _ _ _ (c.push_as.ensures.shows _ _ (starts c.args.self.now _) t.1 (deeper c.args.ctx.bound c.in-TraitImpl.self_type c.args.node t.0 c.requires.depth) q.1 (deeper c.args.ctx.bound c.in-TraitImpl.implemented c.args.node q.0 c.requires.depth)) (ap (λ t. path_parts c.args.ctx.detail c.args.ctx.bound c.args.value (path_in t)) (rw c.in-TraitImpl.is at c.path.ensures.tree))

pub returns-in-TraitDefinition-clause-shows : goal.returns-in-TraitDefinition-clause-shows
unfolding path_parts path_of
returns-in-TraitDefinition-clause-shows g c =
    let t = early-type (trees_of c.args.self.now) c.args.node c.in-TraitDefinition.self_type (rw c.in-TraitDefinition.is at c.path.ensures.parts).0 in
    let q = early-path (trees_of c.args.self.now) c.args.node c.in-TraitDefinition.implemented (rw c.in-TraitDefinition.is at c.path.ensures.parts).1 in
    fills c.args.self.now _ _ _ (c.push_as-in-TraitDefinition.ensures.shows _ _ (starts c.args.self.now _) t.1 (deeper c.args.ctx.bound c.in-TraitDefinition.self_type c.args.node t.0 c.requires.depth) q.1 (deeper c.args.ctx.bound c.in-TraitDefinition.implemented c.args.node q.0 c.requires.depth)) (ap (λ t. path_parts c.args.ctx.detail c.args.ctx.bound c.args.value (path_in t)) (rw c.in-TraitDefinition.is at c.path.ensures.tree))

pub returns-in-Nested-clause-shows : goal.returns-in-Nested-clause-shows
unfolding path_parts path_of
returns-in-Nested-clause-shows g c =
    let p = early-path (trees_of c.args.self.now) c.args.node c.in-Nested.parent (rw c.in-Nested.is at c.path.ensures.parts).0 in
    fills c.args.self.now _ _ _ (c.push_path.ensures.shows _ _ (c.push_nested.ensures.shows _ _ (starts c.args.self.now _) (rw c.in-Nested.is at c.path.ensures.parts).1) p.1 (deeper c.args.ctx.bound c.in-Nested.parent c.args.node p.0 c.requires.depth)) (ap (λ t. path_parts c.args.ctx.detail c.args.ctx.bound c.args.value (path_in t)) (rw c.in-Nested.is at c.path.ensures.tree))

pub returns-in-Generic-clause-shows : goal.returns-in-Generic-clause-shows
unfolding path_parts path_of
returns-in-Generic-clause-shows g c =
    let p = early-path (trees_of c.args.self.now) c.args.node c.in-Generic.parent (rw c.in-Generic.is at c.path.ensures.parts).0 in
    let a = early-arguments (trees_of c.args.self.now) c.args.node c.in-Generic.arguments (rw c.in-Generic.is at c.path.ensures.parts).1 in
    fills c.args.self.now _ _ _ (c.push_path-in-Generic.ensures.shows _ _ (c.push_argument_list.ensures.shows _ _ (starts c.args.self.now _) (deeper c.args.ctx.bound c.in-Generic.arguments c.args.node a.0 c.requires.depth)) p.1 (deeper c.args.ctx.bound c.in-Generic.parent c.args.node p.0 c.requires.depth)) (ap (λ t. path_parts c.args.ctx.detail c.args.ctx.bound c.args.value (path_in t)) (rw c.in-Generic.is at c.path.ensures.tree))
