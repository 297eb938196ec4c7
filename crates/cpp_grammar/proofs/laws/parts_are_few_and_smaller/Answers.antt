use Rattle.cpp_grammar.proofs.RanksFall.{ranks_fall}
use Rattle.cpp_grammar.proofs.FewParts.{few_parts}
use Rattle.cpp_grammar.proofs.laws.parts_are_few_and_smaller.Goals as goal

pub returns-clause-few : goal.returns-clause-few
returns-clause-few c = few_parts

pub returns-clause-smaller : goal.returns-clause-smaller
returns-clause-smaller c = ranks_fall
