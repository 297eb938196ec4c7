use Rattle.rust_tree.proofs.Pushing.{fixed-pushed}
use Rattle.rust_tree.proofs.symbol.Symbol.push_text.Goals as goal

pub returns-clause-shows : goal.returns-clause-shows
returns-clause-shows g c below so_far shows = fixed-pushed c.args.self.now _ _ c.args.number so_far c.push_part.ensures.held c.requires.text shows
