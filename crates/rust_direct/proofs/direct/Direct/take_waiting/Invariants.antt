-- A path or a type was read.
use Rattle.rust_direct.proofs.Basics.{length, IsWriting}
use Rattle.rust_direct.specs.declared.open.Step.TheVariants as steps
use Rattle.rust_direct.proofs.direct.Direct.take_waiting.Given as goal

abbrev pub invariant-names : goal.invariant-names
invariant-names g l = IsWriting g.S.Showing.IS_BRIEF l.s l.self (steps.Value l.from l.forms)

abbrev pub decreases-names : goal.decreases-names
decreases-names g l = length l.self.waiting.list.items
