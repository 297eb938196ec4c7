use Rattle.sym_demangle.proofs.Reasons.{reading_reason, answer_reason}
use Rattle.sym_demangle.proofs.laws.each_refusal_has_a_reason.Goals as goal

pub returns-clause-read : goal.returns-clause-read
returns-clause-read g c = λ s refusal reading. reading_reason g.M.Mangling.mangled c.refuses_bad_tokens.ensures s refusal reading

pub returns-clause-answered : goal.returns-clause-answered
returns-clause-answered g c = λ detail s limit refusal is. answer_reason g.M.Mangling.mangled c.refuses_bad_tokens.ensures detail s limit refusal is
