use Rattle.cpp_link.proofs.Basics.{sym, subst, AreListed}
use Rattle.cpp_references.specs.declared.candidates.Counted.TheVariants as noted
use Rattle.cpp_link.proofs.Pushed.{none_listed}
use Rattle.cpp_link.proofs.candidates.Candidates.clear.Goals as goal

pub returns-clause-counted : goal.returns-clause-counted
returns-clause-counted c = subst (λ xs. AreListed 0 0 noted.ByAll xs) (sym c.clear.ensures.items) none_listed
