use Rattle.short_names.proofs.Basics.{◌∙◌, ◌++◌, sym, ap, false, without_inlines, taken}
use Rattle.short_names.proofs.short.take_text.Goals as goal

pub returns-then-keeps_inline : goal.returns-then-keeps_inline
unfolding taken
returns-then-keeps_inline c =
    c.in_ok-extend_from_slice.ensures.items ∙ ap (λ o. o ++ c.args.text.now) c.clear.ensures.items ∙ ap (λ k. taken k c.args.text.now) (sym c.if-keeps_inline.true)

pub returns : goal.returns
unfolding taken
returns c =
    c.in_ok-append_without.ensures ∙ ap (λ o. o ++ without_inlines false 0 c.args.text.now) c.clear.ensures.items ∙ ap (λ k. taken k c.args.text.now) (sym c.if-keeps_inline.false)
