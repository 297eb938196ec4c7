use Rattle.sym_calls.proofs.text.text_in.Goals as goal

pub returns-in-Whole : goal.returns-in-Whole
returns-in-Whole g c = rw (c.in-Whole.is) c.whole_in.ensures

pub returns-in-Short : goal.returns-in-Short
returns-in-Short g c = rw (c.in-Short.is) c.short_in.ensures
