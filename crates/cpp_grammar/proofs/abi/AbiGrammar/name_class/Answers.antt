use Rattle.cpp_grammar.proofs.Basics.{refl, abi}
use Rattle.cpp_grammar.proofs.abi.AbiGrammar.name_class.Goals as goal

pub returns : goal.returns
unfolding abi
returns c = refl
