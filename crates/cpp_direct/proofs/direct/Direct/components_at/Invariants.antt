-- A component is expected.
use Rattle.cpp_direct.proofs.ForAnswers.{IsWriting, symbol_by, Step}
use Rattle.cpp_direct.proofs.direct.Direct.components_at.Given as goal

abbrev pub invariant-loop : goal.invariant-loop
invariant-loop g l = IsWriting (symbol_by g.G.Grammar.IS_WIDE g.G.Grammar.IS_BARE g.G.Grammar.IS_BRIEF l.s) l.self Step.Component
