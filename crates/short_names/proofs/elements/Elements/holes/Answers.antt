use Rattle.short_names.proofs.elements.Elements.holes.Goals as goal

pub at-requires : goal.at-requires
at-requires c = c.requires

pub at-requires-2 : goal.at-requires-2
at-requires-2 c = c.requires

pub returns : goal.returns
returns c = λ elements e. (c.at.ensures elements e, c.at-2.ensures elements e, c.text_at.ensures)
