use Rattle.std.proofs.Common.{rules}
use Rattle.rust_tree.proofs.Pushing.{symbol-pushed, bytes-skipped}
use Rattle.rust_tree.proofs.symbol.Symbol.push_bytes.Goals as goal

pub returns-then-span-clause-shows : goal.returns-then-span-clause-shows
returns-then-span-clause-shows g c below so_far shows within =
    symbol-pushed c.args.self.now _ _ c.args.span so_far (search rules) (search rules) shows within

pub returns-else-span-clause-shows : goal.returns-else-span-clause-shows
returns-else-span-clause-shows g c below so_far shows within =
    bytes-skipped c.args.self.now _ c.args.self.now.bytes c.args.span so_far c.if-span.false shows
