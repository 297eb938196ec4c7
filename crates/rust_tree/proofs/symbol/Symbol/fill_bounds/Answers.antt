use Rattle.rust_tree.proofs.Basics.{ap, if◌then◌else◌, [], codes, bounds_in, bounds_of, bounds_from, trees_of, parts_in}
use Rattle.rust_tree.proofs.Pushing.{starts, fills}
use Rattle.rust_tree.proofs.Showing.{deeper, early-bounds, bounds-more}
use Rattle.rust_tree.proofs.symbol.Symbol.fill_bounds.Goals as goal

pub returns-in-None-clause-shows : goal.returns-in-None-clause-shows
unfolding bounds_from bounds_of
returns-in-None-clause-shows g c =
    fills c.args.self.now _ _ _ (starts c.args.self.now _) (ap (λ t. parts_in (bounds_from c.args.ctx.detail c.args.ctx.bound (if c.args.first then [] else codes " + ") (bounds_in t))) c.in-None.ensures.tree)

pub returns-in-More-clause-shows : goal.returns-in-More-clause-shows
unfolding bounds_of
returns-in-More-clause-shows g c =
    let r = early-bounds (trees_of c.args.self.now) c.args.node c.in-More.rest c.in-More.ensures.parts.2 in
    fills c.args.self.now _ _ _ (c.push_separator.ensures.shows _ _ (c.push_item.ensures.shows _ _ (c.push_bounds.ensures.shows _ _ (starts c.args.self.now _) (deeper c.args.ctx.bound c.in-More.rest c.args.node r.0 c.requires.depth)) c.requires.bounds c.requires.depth)) (rw c.in-More.ensures.tree (ap parts_in (bounds-more c.args.ctx.detail c.args.ctx.bound _ _ _ _)))
