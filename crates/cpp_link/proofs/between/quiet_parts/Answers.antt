use Rattle.cpp_link.proofs.Basics.{◌∙◌, arith, productions, quiet_parts}
use Rattle.cpp_link.proofs.Reading.{count_got}
use Rattle.cpp_link.proofs.between.quiet_parts.Goals as goal

pub returns-in-Some : goal.returns-in-Some
unfolding productions quiet_parts
returns-in-Some c = c.in-Some.ensures.lookup.3.1 5 ∙ count_got quiet_parts c.args.number

pub returns-in-None : goal.returns-in-None
unfolding productions quiet_parts
returns-in-None c = c.in-None.ensures.lookup.4 (omega arith) 5 ∙ count_got quiet_parts c.args.number
