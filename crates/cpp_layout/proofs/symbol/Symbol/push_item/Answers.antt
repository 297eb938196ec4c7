use Rattle.cpp_layout.proofs.Growing.{item-pushed}
use Rattle.cpp_layout.proofs.symbol.Symbol.push_item.Goals as goal

pub returns-clause-shows : goal.returns-clause-shows
returns-clause-shows g c below others shows = item-pushed c.args.self.now _ _ c.args.node c.args.form c.args.at c.args.ctx others c.push_part.ensures.held shows c.requires.node c.requires.context
