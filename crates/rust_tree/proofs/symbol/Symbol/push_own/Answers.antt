use Rattle.std.proofs.Common.{arith, length-append, ◌++◌}
use Rattle.rust_tree.proofs.Pushing.{own-pushed}
use Rattle.rust_tree.proofs.symbol.Symbol.push_own.Goals as goal

pub returns-clause-shows : goal.returns-clause-shows
returns-clause-shows g c below so_far shows =
    let a = length-append c.args.front.now (c.args.text.now ++ c.args.back.now) in
    let b = length-append c.args.text.now c.args.back.now in
    own-pushed c.args.self.now _ _ c.own.result _ so_far c.push_part.ensures.held c.own.ensures (omega (arith, a, b, c.requires.some)) (omega (arith, a, b, c.requires.few)) shows
