use Rattle.short_names.proofs.Basics.{ap, full, short}
use Rattle.short_names.proofs.OtherLemmas.{full-stays, short-stays}
use Rattle.short_names.proofs.laws.texts_without_rows_stay.Goals as goal

pub returns-clause-stays : goal.returns-clause-stays
returns-clause-stays c = λ text none. (short-stays text none, full-stays text none)

pub returns-clause-laws : goal.returns-clause-laws
returns-clause-laws c = λ text none. (λ _. ap full (short-stays text none), λ _. ap short (full-stays text none))
