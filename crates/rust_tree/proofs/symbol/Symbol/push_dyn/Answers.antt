use Rattle.rust_tree.proofs.Showing.{deeper-bound}
use Rattle.rust_tree.proofs.symbol.Symbol.push_dyn.Goals as goal

pub returns-clause-shows : goal.returns-clause-shows
returns-clause-shows g c below so_far shows is before few binds =
    c.push_text.ensures.shows _ _
    (c.push_binder.ensures.shows _ _
    (c.push_bounds.ensures.shows _ _ (c.push_dyn_lifetime.ensures.shows _ _ shows)
    (deeper-bound c.args.ctx.bound c.args.bounds c.args.node c.args.binder before few c.requires.depth))
    is c.requires.depth binds)
