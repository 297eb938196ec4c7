use Rattle.cpp_term.proofs.PrintsNoted.{shows_noted}
use Rattle.cpp_term.proofs.texts_are_the_same.Goals as goal

pub returns : goal.returns
returns c = shows_noted
