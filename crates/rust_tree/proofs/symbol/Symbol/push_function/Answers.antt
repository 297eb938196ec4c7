use Rattle.rust_tree.proofs.Showing.{deeper-signature}
use Rattle.rust_tree.proofs.symbol.Symbol.push_function.Goals as goal

pub returns-clause-shows : goal.returns-clause-shows
returns-clause-shows g c below so_far shows is few binds =
    c.push_binder.ensures.shows _ _ (c.push_item.ensures.shows _ _ shows is (deeper-signature c.args.ctx.bound c.args.node c.args.binder few c.requires.depth)) is c.requires.depth binds
