use Rattle.std.proofs.Common.{arith, ◌+◌}
use Rattle.cpp_link.proofs.Digits.{lone_byte}
use Rattle.cpp_link.proofs.numbers.one_byte.Goals as goal

pub returns-clause-is : goal.returns-clause-is
returns-clause-is c = lone_byte c.args.symbol.now c.args.place (c.args.place + 1) (omega arith) (omega (arith, c.requires.place))
