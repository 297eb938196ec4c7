use Rattle.std.proofs.Common.{codes}
use Rattle.short_names.proofs.FrontLemmas.{front-length}
use Rattle.short_names.proofs.names.front_size.Goals as goal

pub returns-else-starts_with-clause-within : goal.returns-else-starts_with-clause-within
returns-else-starts_with-clause-within c = λ is. front-length c.args.text.now (codes "::") is
