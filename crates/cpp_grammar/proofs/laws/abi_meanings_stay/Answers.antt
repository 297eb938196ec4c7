use Rattle.cpp_grammar.proofs.Staying.{meaning_stays}
use Rattle.cpp_grammar.proofs.laws.abi_meanings_stay.Goals as goal

pub returns : goal.returns
returns c = meaning_stays
