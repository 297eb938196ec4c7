use Rattle.std.proofs.Common.{sym}
use Rattle.rust_tree.proofs.Showing.{text-changed, if-true, if-false}
use Rattle.rust_tree.proofs.symbol.Symbol.push_either.Goals as goal

pub returns-then-first-clause-shows : goal.returns-then-first-clause-shows
returns-then-first-clause-shows g c below so_far shows =
    text-changed c.args.self.now _ so_far _ _ (sym (if-true c.args.first _ _ c.if-first.true)) (c.push_text.ensures.shows _ _ shows)

pub returns-else-first-clause-shows : goal.returns-else-first-clause-shows
returns-else-first-clause-shows g c below so_far shows =
    text-changed c.args.self.now _ so_far _ _ (sym (if-false c.args.first _ _ c.if-first.false)) (c.push_text-else-first.ensures.shows _ _ shows)
