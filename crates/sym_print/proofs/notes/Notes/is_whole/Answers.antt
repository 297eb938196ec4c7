use Rattle.sym_print.proofs.Basics.{sym, ◌∙◌, eqb-true}
use Rattle.sym_print.proofs.notes.Notes.is_whole.Goals as goal

pub returns-in-Some-clause-whole : goal.returns-in-Some-clause-whole
returns-in-Some-clause-whole g c same = (c.in-Some.begun.now, c.in-Some.ensures.some.0, sym c.deref.ensures.value ∙ c.in-Some.ensures.some.1, eqb-true _ _ same)
