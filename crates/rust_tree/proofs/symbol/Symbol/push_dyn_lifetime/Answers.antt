use Rattle.std.proofs.Common.{arith}
use Rattle.rust_tree.proofs.Showing.{changed, dyn-bound}
use Rattle.rust_tree.proofs.symbol.Symbol.push_dyn_lifetime.Goals as goal

pub returns-in_default-clause-shows : goal.returns-in_default-clause-shows
returns-in_default-clause-shows g c below so_far shows =
    changed c.args.self.now _ _ _ (dyn-bound c.args.ctx.bound c.args.lifetime so_far (omega (arith, c.in_default))) (c.push_text.ensures.shows _ _ (c.push_lifetime.ensures.shows _ _ shows))
