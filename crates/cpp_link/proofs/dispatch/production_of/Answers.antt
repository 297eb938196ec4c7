use Rattle.cpp_link.proofs.Basics.{◌∙◌, arith, Production, productions, production_at}
use Rattle.cpp_link.proofs.Reading.{production_got}
use Rattle.cpp_link.proofs.dispatch.production_of.Goals as goal

pub returns-in-Some : goal.returns-in-Some
unfolding productions production_at
returns-in-Some c = c.in-Some.ensures.lookup.3.1 Production.Mark ∙ production_got c.args.number

pub returns-in-None : goal.returns-in-None
unfolding productions production_at
returns-in-None c = c.in-None.ensures.lookup.4 (omega arith) Production.Mark ∙ production_got c.args.number
