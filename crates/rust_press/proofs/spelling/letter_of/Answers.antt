use Rattle.std.proofs.Common.{arith}
use Rattle.rust_press.specs.Spelled.{letters}
use Rattle.rust_press.proofs.TreeSpellings.{letter-there, letter-none}
use Rattle.rust_press.proofs.spelling.letter_of.Goals as goal

pub returns-then-production-le-SYMBOL : goal.returns-then-production-le-SYMBOL
returns-then-production-le-SYMBOL c = letter-there letters c.args.production 0 46 (omega (arith, c.if-production-le-SYMBOL.true))

pub returns-else-production-le-SYMBOL : goal.returns-else-production-le-SYMBOL
returns-else-production-le-SYMBOL c = letter-none letters c.args.production 46 (omega (arith, c.if-production-le-SYMBOL.false))
