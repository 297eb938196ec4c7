use Rattle.rust_legacy.proofs.Short.{short_path}
use Rattle.rust_legacy.proofs.laws.legacy_texts_are_short.Goals as goal

pub returns-clause-text : goal.returns-clause-text
returns-clause-text c = λ s path is. (short_path s path is).text

pub returns-clause-cost : goal.returns-clause-cost
returns-clause-cost c = λ s path is. (short_path s path is).cost
