use Rattle.std.specs.Prelude.{Err}
use Rattle.sym_demangle.proofs.Answering.{reading_answered, read_has_text}
use Rattle.sym_demangle.proofs.Reasons.{reading_not_too_long}
use Rattle.sym_demangle.proofs.laws.read_answers.Goals as goal

pub returns-clause-answered : goal.returns-clause-answered
returns-clause-answered g c = λ detail s limit result bytes reading. reading_answered g.M.Mangling.mangled detail s limit result bytes reading

pub returns-clause-read : goal.returns-clause-read
returns-clause-read g c = λ detail s limit symbol bytes reading. read_has_text g.M.Mangling.mangled detail s limit symbol bytes reading

pub returns-clause-refused : goal.returns-clause-refused
returns-clause-refused g c = λ detail s limit refusal bytes reading.
    (reading_answered g.M.Mangling.mangled detail s limit (Err refusal) bytes reading, reading_not_too_long g.M.Mangling.mangled c.refuses_bad_tokens.ensures s refusal reading)
