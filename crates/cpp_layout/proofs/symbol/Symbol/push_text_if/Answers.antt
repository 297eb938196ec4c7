use Rattle.cpp_layout.proofs.Growing.{fills, if-not, if-text}
use Rattle.cpp_layout.proofs.symbol.Symbol.push_text_if.Goals as goal

pub returns-then-test-clause-shows : goal.returns-then-test-clause-shows
returns-then-test-clause-shows g c d below others shows = fills c.args.self.now d _ _ _ (c.push_text.ensures.shows d below others shows) (if-text c.args.test _ others c.if-test.true)

pub returns-else-test-clause-shows : goal.returns-else-test-clause-shows
returns-else-test-clause-shows g c d below others shows = fills c.args.self.now d _ _ _ shows (if-not c.args.test _ others c.if-test.false)
