use Rattle.sym_demangle.proofs.Answering as law
use Rattle.sym_demangle.proofs.laws.one_answer.Goals as goal

pub returns-clause-one : goal.returns-clause-one
returns-clause-one g c = λ detail s limit a b p q. law.one_answer g.M.Mangling.mangled detail s limit a b p q

pub returns-clause-given : goal.returns-clause-given
returns-clause-given g c = λ detail s limit r bytes is. law.is_answer g.M.Mangling.mangled detail s limit r bytes is
