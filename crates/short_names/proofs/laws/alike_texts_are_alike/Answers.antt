use Rattle.short_names.proofs.Basics.{◌∙◌, sym, ap, full, short}
use Rattle.short_names.proofs.laws.alike_texts_are_alike.Goals as goal

pub returns : goal.returns
returns c = λ text other keeps_full keeps_short other_keeps_full other_keeps_short pairs other_pairs.
    (λ e. sym (keeps_full pairs) ∙ ap full e ∙ other_keeps_full other_pairs, λ e. sym (keeps_short pairs) ∙ ap short e ∙ other_keeps_short other_pairs)
