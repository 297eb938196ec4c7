use Rattle.rust_tree.proofs.Basics.{ap, if◌then◌else◌, [], codes, bindings_in, bindings_of, bindings_from, trees_of, parts_in}
use Rattle.rust_tree.proofs.Pushing.{starts, fills}
use Rattle.rust_tree.proofs.Showing.{deeper, early-type, early-bindings}
use Rattle.rust_tree.proofs.symbol.Symbol.fill_bindings.Goals as goal

pub returns-in-None-clause-shows : goal.returns-in-None-clause-shows
unfolding bindings_from bindings_of
returns-in-None-clause-shows g c =
    fills c.args.self.now _ _ _ (starts c.args.self.now _) (ap (λ t. parts_in (bindings_from c.args.ctx.detail c.args.ctx.bound (if c.args.first then [] else codes ", ") (bindings_in t))) c.in-None.ensures.tree)

pub returns-in-More-clause-shows : goal.returns-in-More-clause-shows
unfolding bindings_from bindings_of
returns-in-More-clause-shows g c =
    let t = early-type (trees_of c.args.self.now) c.args.node c.in-More.bound_type c.in-More.ensures.parts.1 in
    let r = early-bindings (trees_of c.args.self.now) c.args.node c.in-More.rest c.in-More.ensures.parts.2 in
    fills c.args.self.now _ _ _ (c.push_separator.ensures.shows _ _ (c.push_name.ensures.shows _ _ (c.push_text.ensures.shows _ _ (c.push_item.ensures.shows _ _ (c.push_bindings.ensures.shows _ _ (starts c.args.self.now _) (deeper c.args.ctx.bound c.in-More.rest c.args.node r.0 c.requires.depth)) t.1 (deeper c.args.ctx.bound c.in-More.bound_type c.args.node t.0 c.requires.depth))) c.in-More.ensures.parts.0)) (ap (λ t. parts_in (bindings_from c.args.ctx.detail c.args.ctx.bound (if c.args.first then [] else codes ", ") (bindings_in t))) c.in-More.ensures.tree)
