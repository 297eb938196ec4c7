-- The expansion of the pattern for this many elements of the pack is written.
use Rattle.cpp_direct.proofs.ForAnswers.{List, Detail, Term, AreExpanded, IsPackOf}
use Rattle.cpp_direct.proofs.direct.Direct.expand_all.Given as goal

abbrev pub invariant-elements : goal.invariant-elements
invariant-elements l =
    (detail : Detail) (ts : List Term) → IsPackOf detail l.fn.self.text.list.items l.argument ts → AreExpanded detail l.pattern l.fn.self l.self ts l.number
