use Rattle.cpp_layout.proofs.Growing.{fixed-pushed}
use Rattle.cpp_layout.proofs.symbol.Symbol.push_text.Goals as goal

pub returns-clause-shows : goal.returns-clause-shows
returns-clause-shows g c d below others shows = fixed-pushed c.args.self.now d _ _ c.args.number others c.push_part.ensures.held c.requires.text shows
