use Rattle.sym_demangle.proofs.Answering.{has_answer}
use Rattle.sym_demangle.proofs.laws.each_has_an_answer.Goals as goal

pub returns : goal.returns
returns g c = λ detail s limit bytes. has_answer g.M.Mangling.mangled detail s limit bytes
