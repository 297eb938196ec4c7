use Rattle.short_names.proofs.Basics.{◌∙◌, sym, ap, full, short}
use Rattle.short_names.proofs.UsualLaws.{whole-keeps-full, whole-keeps-short}
use Rattle.short_names.proofs.UsualNames.{inlined-string, std-stream, std-string, string-constructors, string-member}
use Rattle.short_names.proofs.laws.texts_of_usual_names_keep.Goals as goal

pub returns-clause-laws : goal.returns-clause-laws
returns-clause-laws c = λ text made. (λ pairs. whole-keeps-full text made, λ pairs. whole-keeps-short text made)

pub returns-clause-alike : goal.returns-clause-alike
returns-clause-alike c = λ text other made other_made.
    (λ e. sym (whole-keeps-full text made) ∙ ap full e ∙ whole-keeps-full other other_made, λ e. sym (whole-keeps-short text made) ∙ ap short e ∙ whole-keeps-short other other_made)

pub returns-clause-string : goal.returns-clause-string
returns-clause-string c = std-string

pub returns-clause-member : goal.returns-clause-member
returns-clause-member c = (std-string, string-member)

pub returns-clause-constructors : goal.returns-clause-constructors
returns-clause-constructors c = (std-string, string-constructors)

pub returns-clause-inlined : goal.returns-clause-inlined
returns-clause-inlined c = inlined-string

pub returns-clause-stream : goal.returns-clause-stream
returns-clause-stream c = std-stream
