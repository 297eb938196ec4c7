-- These arguments of a name are read, and the known ones are at their places.
use Rattle.cpp_direct.proofs.ForAnswers.{false, AwaitsKnownArgument, symbol_by}
use Rattle.cpp_direct.proofs.direct.Direct.argument_ended.Given as goal

abbrev pub invariant-literals : goal.invariant-literals
invariant-literals g l = AwaitsKnownArgument (symbol_by g.G.Grammar.IS_WIDE g.G.Grammar.IS_BARE g.G.Grammar.IS_BRIEF l.s) l.self false l.last l.more
