use Rattle.rust_tree.proofs.Basics.{slice_get, type_in, trees_of, binder_in}
use Rattle.rust_tree.proofs.Pushing.{starts, fills}
use Rattle.rust_tree.proofs.Showing.{names-none, names-last, names-more}
use Rattle.rust_tree.proofs.symbol.Symbol.fill_names.Goals as goal

pub returns-then-at-binder-2-clause-shows : goal.returns-then-at-binder-2-clause-shows
returns-then-at-binder-2-clause-shows g c =
    fills c.args.self.now _ _ _ (c.push_separator.ensures.shows _ _ (c.push_numbered.ensures.shows _ _ (c.push_item.ensures.shows _ _ (starts c.args.self.now _) c.requires.ty c.requires.depth))) (names-more c.args.ctx.bound c.args.at (binder_in (type_in (slice_get (trees_of c.args.self.now) c.args.node))) c.binder-binder.result c.binder-binder.ensures c.if-at-binder-2.true)

pub returns-else-at-binder-2-clause-shows : goal.returns-else-at-binder-2-clause-shows
returns-else-at-binder-2-clause-shows g c =
    fills c.args.self.now _ _ _ (c.push_separator-else-at-binder-2.ensures.shows _ _ (c.push_numbered-else-at-binder-2.ensures.shows _ _ (starts c.args.self.now _))) (names-last c.args.ctx.bound c.args.at (binder_in (type_in (slice_get (trees_of c.args.self.now) c.args.node))) c.binder-binder.result c.binder-binder.ensures c.if-at-binder.true c.if-at-binder-2.false)

pub returns-else-at-binder-clause-shows : goal.returns-else-at-binder-clause-shows
returns-else-at-binder-clause-shows g c =
    fills c.args.self.now _ _ _ (starts c.args.self.now _) (names-none c.args.ctx.bound c.args.at (binder_in (type_in (slice_get (trees_of c.args.self.now) c.args.node))) c.binder-binder.result c.binder-binder.ensures c.if-at-binder.false)
