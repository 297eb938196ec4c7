use Rattle.rust_tree.proofs.Basics.{refl, symbol_of, symbol_parts, trees_of}
use Rattle.rust_tree.proofs.Pushing.{starts, fills}
use Rattle.rust_tree.proofs.Showing.{deeper-top, early-path}
use Rattle.rust_tree.proofs.symbol.Symbol.fill_symbol.Goals as goal

pub returns-clause-shows : goal.returns-clause-shows
unfolding symbol_parts symbol_of
returns-clause-shows g c =
    let p = early-path (trees_of c.args.self.now) c.args.node c.whole-whole.result.path c.whole-whole.ensures.parts.0 in
    fills c.args.self.now _ _ _ (c.push_path.ensures.shows _ _ (c.push_suffix.ensures.shows _ _ (starts c.args.self.now _) c.whole-whole.ensures.parts.2) p.1 (deeper-top c.args.ctx.bound c.whole-whole.result.path c.args.node p.0 c.requires.depth)) (rw c.whole-whole.ensures.tree refl)
