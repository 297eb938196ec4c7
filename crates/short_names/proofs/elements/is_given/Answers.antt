use Rattle.short_names.proofs.Basics.{not, sym, ap, ◌∙◌, and_left}
use Rattle.short_names.proofs.NameLemmas.{both-hold}
use Rattle.short_names.proofs.elements.is_given.Goals as goal

pub returns-then-not-is_empty : goal.returns-then-not-is_empty
returns-then-not-is_empty c = c.is_filled.ensures ∙ both-hold _ _ (ap not (sym c.is_empty.ensures ∙ c.if-not-is_empty.true))

pub returns-else-not-is_empty : goal.returns-else-not-is_empty
returns-else-not-is_empty c = ap not c.if-not-is_empty.false ∙ sym (and_left _ _ (ap not (sym c.is_empty.ensures ∙ c.if-not-is_empty.false)))
