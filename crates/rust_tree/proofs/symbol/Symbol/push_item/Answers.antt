use Rattle.rust_tree.proofs.Pushing.{item-pushed}
use Rattle.rust_tree.proofs.symbol.Symbol.push_item.Goals as goal

pub returns-clause-shows : goal.returns-clause-shows
returns-clause-shows g c below so_far shows has deep =
    item-pushed c.args.self.now _ _ c.args.node c.number.result c.args.at c.args.form c.args.ctx so_far c.push_part.ensures.held c.number.ensures shows has deep
