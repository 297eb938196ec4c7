use Rattle.std.proofs.Common.{arith}
use Rattle.cpp_layout.proofs.Growing.{bytes-none, bytes-pushed, no-text}
use Rattle.cpp_layout.proofs.symbol.Symbol.push_bytes.Goals as goal

pub returns-then-span-clause-shows : goal.returns-then-span-clause-shows
returns-then-span-clause-shows g c d below others shows = bytes-pushed c.args.self.now d _ _ c.args.span others c.push_part.ensures.held (omega (arith, c.if-span.true)) shows c.requires.within

pub returns-else-span-clause-shows : goal.returns-else-span-clause-shows
returns-else-span-clause-shows g c d below others shows = no-text c.args.self.now d _ _ others (bytes-none c.args.self.now.bytes c.args.span (omega (arith, c.if-span.false))) shows
