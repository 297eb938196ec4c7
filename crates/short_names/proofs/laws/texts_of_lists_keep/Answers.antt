use Rattle.short_names.proofs.Basics.{◌∙◌, sym, ap, full, short}
use Rattle.short_names.proofs.PartLaws.{made-keeps-full, made-keeps-short}
use Rattle.short_names.proofs.UsualNames.{made-adaptor, made-full, made-map, made-usual, simple-names}
use Rattle.short_names.proofs.UsualRows.{usual-names}
use Rattle.short_names.proofs.laws.texts_of_lists_keep.Goals as goal

pub returns-clause-laws : goal.returns-clause-laws
returns-clause-laws c = λ text made. (λ pairs. made-keeps-full text made, λ pairs. made-keeps-short text made)

pub returns-clause-alike : goal.returns-clause-alike
returns-clause-alike c = λ text other made other_made.
    (λ e. sym (made-keeps-full text made) ∙ ap full e ∙ made-keeps-full other other_made, λ e. sym (made-keeps-short text made) ∙ ap short e ∙ made-keeps-short other other_made)

pub returns-clause-templates : goal.returns-clause-templates
returns-clause-templates c = simple-names

pub returns-clause-usual_names : goal.returns-clause-usual_names
returns-clause-usual_names c = usual-names

pub returns-clause-example : goal.returns-clause-example
returns-clause-example c = made-map

pub returns-clause-usual : goal.returns-clause-usual
returns-clause-usual c = made-usual

pub returns-clause-adaptor : goal.returns-clause-adaptor
returns-clause-adaptor c = made-adaptor

pub returns-clause-full : goal.returns-clause-full
returns-clause-full c = made-full
