use Rattle.demangle_names.proofs.StringLemmas.{reads_back}
use Rattle.demangle_names.proofs.escaping.escaped_reads_back.Goals as goal

pub returns : goal.returns
returns c = reads_back
