use Rattle.sym_calls.proofs.Basics.{replicate, Adds}
use Rattle.sym_calls.proofs.counted.Counted.add_dots.Given as goal

abbrev pub invariant-loop : goal.invariant-loop
invariant-loop l = Adds l.fn.self l.self (replicate l.counter 46)
