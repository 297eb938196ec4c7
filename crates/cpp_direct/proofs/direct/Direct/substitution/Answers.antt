use Rattle.cpp_direct.proofs.ForAnswers.{counted_value, there-at, NumberKind}
use Rattle.cpp_direct.proofs.direct.Direct.substitution.Goals as goal

pub returns-clause-is : goal.returns-clause-is
returns-clause-is c =
    let n = c.in_ok-place.ensures in (
      n.0,
      n.1,
      there-at c.args.self.now.candidates.list.items c.as_slice.result.now c.in_ok-place.place.index (counted_value NumberKind.Seq36 n.0) c.in_ok-candidate.candidate.now
          c.as_slice.ensures n.2 c.in_ok-candidate.ensures.lookup.0 c.in_ok-candidate.ensures.lookup.1,
    )
