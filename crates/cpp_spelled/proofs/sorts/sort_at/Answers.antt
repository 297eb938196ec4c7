use Rattle.std.proofs.Common.{◌∙◌, arith}
use Rattle.cpp_grammar.specs.Grammar.{productions}
use Rattle.cpp_spelled.specs.Sorts.{sort_of}
use Rattle.cpp_spelled.specs.declared.sort.Sort.TheVariants as sort
use Rattle.cpp_spelled.proofs.Listed.{sort_got}
use Rattle.cpp_spelled.proofs.sorts.sort_at.Goals as goal

pub returns-in-Some : goal.returns-in-Some
unfolding productions sort_of
returns-in-Some c = c.in-Some.ensures.lookup.3.1 sort.Closed ∙ sort_got c.args.rule

pub returns-in-None : goal.returns-in-None
unfolding productions sort_of
returns-in-None c = c.in-None.ensures.lookup.4 (omega arith) sort.Closed ∙ sort_got c.args.rule
