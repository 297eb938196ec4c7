use Rattle.std.proofs.Common.{arith}
use Rattle.itanium.proofs.wide.WideMangling.restart.Goals as goal

pub returns-clause-begins : goal.returns-clause-begins
returns-clause-begins c = record {
  size = omega (arith, c.in_ok-restart.ensures.size);
  holds = (c.in_ok-restart.ensures.holds c.args._symbol.now, omega (arith, c.in_ok-restart.ensures.size));
  paid = c.in_ok-restart.ensures.paid;
}
