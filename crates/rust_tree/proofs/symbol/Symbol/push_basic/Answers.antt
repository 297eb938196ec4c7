use Rattle.std.proofs.Common.{arith, sym, rules}
use Rattle.rust_tree.proofs.BasicTypes.{below-basic}
use Rattle.rust_tree.proofs.Showing.{text-changed, fixed-basic, some-basic}
use Rattle.rust_tree.proofs.symbol.Symbol.push_basic.Goals as goal

pub returns-then-letter-lt97-clause-shows : goal.returns-then-letter-lt97-clause-shows
returns-then-letter-lt97-clause-shows g c below so_far shows =
    text-changed c.args.self.now _ so_far _ _ (sym (below-basic c.args.letter c.if-letter-lt97.true)) shows

pub push_text-requires-clause-text : goal.push_text-requires-clause-text
push_text-requires-clause-text g c =
    some-basic c.basic_text.result.now c.args.letter c.basic_text.ensures c.if-letter-lt97.false (search rules)

pub returns-then-not-is_empty-clause-shows : goal.returns-then-not-is_empty-clause-shows
returns-then-not-is_empty-clause-shows g c below so_far shows =
    text-changed c.args.self.now _ so_far _ _ (fixed-basic c.args.letter (omega (arith, c.if-letter-lt97.false))) (c.push_text.ensures.shows _ _ shows)
