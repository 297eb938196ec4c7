use Rattle.demangle_names.proofs.StringLemmas.{keeps_strings}
use Rattle.demangle_names.proofs.escaping.replaced_keeps_strings.Goals as goal

pub returns : goal.returns
returns c = keeps_strings
