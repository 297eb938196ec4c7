use Rattle.short_names.proofs.Basics.{nat_eq, sym, ap, ◌∙◌, ne_eqb, pointwise, get_or_from_slice_get, Place, Template, TEMPLATES, text_of}
use Rattle.short_names.proofs.TemplateLemmas.{other-here}
use Rattle.short_names.proofs.names.has_name.Goals as goal

abbrev nowhere : Place
nowhere = record { from = 0; to = 0 }

abbrev none : Template
none = record { name = nowhere; count = 0; first_default = 0; polymorphic = nowhere; first_alias = 0; end_alias = 0 }

pub returns-then-row-mark : goal.returns-then-row-mark
returns-then-row-mark c =
    λ template got.
    c.eq.ensures
    ∙ ap (λ t. pointwise nat_eq t c.args.name.now) (c.text_at.ensures ∙ ap (λ (t : Template). text_of t.name) (get_or_from_slice_get TEMPLATES c.args.row template none got))

pub returns-else-row-mark : goal.returns-else-row-mark
returns-else-row-mark c = λ template got. ne_eqb _ _ c.if-row-mark.false ∙ other-here c.args.name.now c.args.row template c.requires.within got (λ same. c.if-row-mark.false (same ∙ sym c.requires.mark))
