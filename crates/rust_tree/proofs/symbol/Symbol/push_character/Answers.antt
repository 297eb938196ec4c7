use Rattle.rust_tree.proofs.Showing.{text-changed, quote-text, backslash-text, low-text, high-text, plain-text}
use Rattle.rust_tree.proofs.symbol.Symbol.push_character.Goals as goal

pub returns-then-character-eq39-clause-shows : goal.returns-then-character-eq39-clause-shows
returns-then-character-eq39-clause-shows g c below so_far shows =
    text-changed c.args.self.now _ so_far _ _ (quote-text c.args.character c.if-character-eq39.true) (c.push_own.ensures.shows _ _ shows)

pub returns-then-character-eq92-clause-shows : goal.returns-then-character-eq92-clause-shows
returns-then-character-eq92-clause-shows g c below so_far shows =
    text-changed c.args.self.now _ so_far _ _ (backslash-text c.args.character c.if-character-eq92.true) (c.push_own-then-character-eq92.ensures.shows _ _ shows)

pub returns-then-character-lt32-clause-shows : goal.returns-then-character-lt32-clause-shows
returns-then-character-lt32-clause-shows g c below so_far shows =
    text-changed c.args.self.now _ so_far _ _ (low-text c.args.character c.if-character-lt32.true) (c.push_escaped.ensures.shows _ _ shows)

pub returns-then-character-le126-clause-shows : goal.returns-then-character-le126-clause-shows
returns-then-character-le126-clause-shows g c below so_far shows =
    text-changed c.args.self.now _ so_far _ _ (plain-text c.args.character c.if-character-eq39.false c.if-character-eq92.false c.if-character-lt32.false c.if-character-le126.true) (c.push_own-then-character-le126.ensures.shows _ _ shows)

pub returns-else-character-le126-clause-shows : goal.returns-else-character-le126-clause-shows
returns-else-character-le126-clause-shows g c below so_far shows =
    text-changed c.args.self.now _ so_far _ _ (high-text c.args.character c.if-character-le126.false) (c.push_escaped-else-character-le126.ensures.shows _ _ shows)
