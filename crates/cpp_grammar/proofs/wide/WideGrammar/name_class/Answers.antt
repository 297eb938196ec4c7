use Rattle.cpp_grammar.proofs.Basics.{refl, wide}
use Rattle.cpp_grammar.proofs.wide.WideGrammar.name_class.Goals as goal

pub returns : goal.returns
unfolding wide
returns c = refl
