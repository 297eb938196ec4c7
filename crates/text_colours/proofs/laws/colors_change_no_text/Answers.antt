use Rattle.text_colours.proofs.SequenceLemmas.{text-left}
use Rattle.text_colours.proofs.laws.colors_change_no_text.Goals as goal

pub returns : goal.returns
returns c = text-left
