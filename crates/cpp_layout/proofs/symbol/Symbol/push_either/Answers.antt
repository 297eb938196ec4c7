use Rattle.cpp_layout.proofs.Growing.{either-not, either-so, fills}
use Rattle.cpp_layout.proofs.symbol.Symbol.push_either.Goals as goal

pub returns-then-test-clause-shows : goal.returns-then-test-clause-shows
returns-then-test-clause-shows g c d below others shows = fills c.args.self.now d _ _ _ (c.push_text.ensures.shows d below others shows) (either-so c.args.test c.args.yes c.args.no others c.if-test.true)

pub returns-else-test-clause-shows : goal.returns-else-test-clause-shows
returns-else-test-clause-shows g c d below others shows = fills c.args.self.now d _ _ _ (c.push_text-else-test.ensures.shows d below others shows) (either-not c.args.test c.args.yes c.args.no others c.if-test.false)
