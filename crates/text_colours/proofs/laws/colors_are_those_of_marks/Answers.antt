use Rattle.text_colours.proofs.MarkLemmas.{marks-shown}
use Rattle.text_colours.proofs.laws.colors_are_those_of_marks.Goals as goal

pub returns : goal.returns
returns c = marks-shown
