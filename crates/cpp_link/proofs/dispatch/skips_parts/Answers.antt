use Rattle.cpp_link.proofs.Basics.{◌∙◌, arith, false, productions, skips_parts}
use Rattle.cpp_link.proofs.Reading.{count_got}
use Rattle.cpp_link.proofs.dispatch.skips_parts.Goals as goal

pub returns-in-Some : goal.returns-in-Some
unfolding productions skips_parts
returns-in-Some c = c.in-Some.ensures.lookup.3.1 false ∙ count_got skips_parts c.args.number

pub returns-in-None : goal.returns-in-None
unfolding productions skips_parts
returns-in-None c = c.in-None.ensures.lookup.4 (omega arith) false ∙ count_got skips_parts c.args.number
