use Rattle.short_names.proofs.Basics.{sym, ap₂, ◌∙◌, refl, Place, is_given}
use Rattle.short_names.proofs.ListedLemmas.{given-same, no-place, no-row, default-at}
use Rattle.short_names.proofs.elements.Elements.is_default.Goals as goal

abbrev none : Place
none = record { from = 0; to = 0 }

pub returns-then-place-named : goal.returns-then-place-named
returns-then-place-named c = λ elements e h. sym (no-place c.args.named elements c.args.place c.if-place-named.true)

pub returns-then-row-ge174 : goal.returns-then-row-ge174
returns-then-row-ge174 c = λ elements e h. sym (no-row c.args.named elements c.args.place c.if-row-ge174.true)

pub returns : goal.returns
returns c =
    λ elements e h.
    let named = c.args.named in
    c.is_given.ensures
    ∙ given-same named elements c.args.holes h c.at.result.now c.text_at.result.now
    ∙ ap₂ (is_given named elements) (c.at.ensures elements e) c.text_at.ensures
    ∙ default-at named elements c.args.place c.if-place-named.false _ refl c.if-row-ge174.false none

pub at-requires : goal.at-requires
at-requires c = (c.requires.0, c.requires.1)
