use Rattle.std.proofs.Common.{length, sym, subst, ap, arith}
use Rattle.example_layout.specs.Dag.{IsLinked}
use Rattle.example_layout.proofs.DagLemmas.{doubled-length, doubled-linked}
use Rattle.example_layout.proofs.Dag.doubling.Goals as goal

pub returns-clause-linked : goal.returns-clause-linked
returns-clause-linked c = subst (IsLinked 0) (sym c.loop-below.invariant.0) (doubled-linked c.loop-below.below)

pub returns-clause-len : goal.returns-clause-len
returns-clause-len c = omega (arith, ap length c.loop-below.invariant.0, doubled-length c.loop-below.below)
