use Rattle.std.proofs.Common.{arith}
use Rattle.rust_tree.proofs.Showing.{text-changed, erased-lifetime, bound-lifetime}
use Rattle.rust_tree.proofs.symbol.Symbol.push_lifetime.Goals as goal

pub returns-in-0-clause-shows : goal.returns-in-0-clause-shows
returns-in-0-clause-shows g c below so_far shows =
    text-changed c.args.self.now _ so_far _ _ (erased-lifetime c.args.bound c.args.lifetime c.in-0.is) (c.push_own.ensures.shows _ _ shows)

pub returns-in_default-clause-shows : goal.returns-in_default-clause-shows
returns-in_default-clause-shows g c below so_far shows =
    text-changed c.args.self.now _ so_far _ _ (bound-lifetime c.args.bound c.args.lifetime c.from_outermost.result (omega (arith, c.in_default)) c.from_outermost.ensures) (c.push_numbered.ensures.shows _ _ shows)
