use Rattle.short_names.proofs.LengthLemmas.{no-longer}
use Rattle.short_names.proofs.laws.short_texts_are_no_longer.Goals as goal

pub returns : goal.returns
returns c = no-longer
