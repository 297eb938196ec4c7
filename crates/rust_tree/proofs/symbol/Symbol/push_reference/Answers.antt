use Rattle.std.proofs.Common.{arith}
use Rattle.rust_tree.proofs.Showing.{changed, reference-bound, reference-erased}
use Rattle.rust_tree.proofs.symbol.Symbol.push_reference.Goals as goal

pub returns-in-0-clause-shows : goal.returns-in-0-clause-shows
returns-in-0-clause-shows g c below so_far shows =
    changed c.args.self.now _ _ _ (reference-erased c.args.ctx.bound c.args.lifetime c.args.mutable so_far c.in-0.is) (c.push_either.ensures.shows _ _ shows)

pub returns-in_default-clause-shows : goal.returns-in_default-clause-shows
returns-in_default-clause-shows g c below so_far shows =
    changed c.args.self.now _ _ _ (reference-bound c.args.ctx.bound c.args.lifetime c.args.mutable so_far (omega (arith, c.in_default))) (c.push_text.ensures.shows _ _ (c.push_lifetime.ensures.shows _ _ (c.push_either-in_default.ensures.shows _ _ shows)))
