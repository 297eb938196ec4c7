use Rattle.std.proofs.Common.{sym, rules}
use Rattle.rust_tree.proofs.Showing.{text-changed, if-false}
use Rattle.rust_tree.proofs.symbol.Symbol.push_separator.Goals as goal

pub returns-then-not-first-clause-shows : goal.returns-then-not-first-clause-shows
returns-then-not-first-clause-shows g c below so_far shows =
    text-changed c.args.self.now _ so_far _ _ (sym (if-false c.args.first _ _ (search rules))) (c.push_text.ensures.shows _ _ shows)
