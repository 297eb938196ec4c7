use Rattle.rust_tree.proofs.Basics.{ap, if◌then◌else◌, [], codes, types_in, types_of, types_from, trees_of, parts_in}
use Rattle.rust_tree.proofs.Pushing.{starts, fills}
use Rattle.rust_tree.proofs.Showing.{deeper, early-type, early-types}
use Rattle.rust_tree.proofs.symbol.Symbol.fill_types.Goals as goal

pub returns-in-None-clause-shows : goal.returns-in-None-clause-shows
unfolding types_from types_of
returns-in-None-clause-shows g c =
    fills c.args.self.now _ _ _ (starts c.args.self.now _) (ap (λ t. parts_in (types_from c.args.ctx.detail c.args.ctx.bound (if c.args.first then [] else codes ", ") (types_in t))) c.in-None.ensures.tree)

pub returns-in-More-clause-shows : goal.returns-in-More-clause-shows
unfolding types_from types_of
returns-in-More-clause-shows g c =
    let t = early-type (trees_of c.args.self.now) c.args.node c.in-More.ty c.in-More.ensures.parts.0 in
    let r = early-types (trees_of c.args.self.now) c.args.node c.in-More.rest c.in-More.ensures.parts.1 in
    fills c.args.self.now _ _ _ (c.push_separator.ensures.shows _ _ (c.push_item.ensures.shows _ _ (c.push_types.ensures.shows _ _ (starts c.args.self.now _) (deeper c.args.ctx.bound c.in-More.rest c.args.node r.0 c.requires.depth)) t.1 (deeper c.args.ctx.bound c.in-More.ty c.args.node t.0 c.requires.depth))) (ap (λ t. parts_in (types_from c.args.ctx.detail c.args.ctx.bound (if c.args.first then [] else codes ", ") (types_in t))) c.in-More.ensures.tree)
