use Rattle.short_names.proofs.Basics.{length, drop, nat_eq, sym, ap, ap₂, ◌∙◌, arith, starts_with, and_left, is_constructor, last_part}
use Rattle.short_names.proofs.FrontLemmas.{rest-all, front-length}
use Rattle.short_names.proofs.NameLemmas.{both-hold, run-room}
use Rattle.short_names.proofs.names.is_member.Goals as goal

pub slice_bounds-is_constructor-count : goal.slice_bounds-is_constructor-count
slice_bounds-is_constructor-count c =
    omega (arith, front-length c.args.name.now c.text_at-usual.result.now (sym c.begins_with.ensures ∙ c.if-begins_with.true), ap length c.requires, run-room c.args.text.now)

pub slice_bounds-is_constructor-start : goal.slice_bounds-is_constructor-start
slice_bounds-is_constructor-start c =
    omega (arith, front-length c.args.name.now c.text_at-usual.result.now (sym c.begins_with.ensures ∙ c.if-begins_with.true), ap length c.requires, run-room c.args.text.now)

pub returns-then-begins_with : goal.returns-then-begins_with
returns-then-begins_with c =
    let text = c.args.text.now in
    let begins = ap (starts_with nat_eq c.args.name.now) (sym c.text_at-usual.ensures) ∙ sym c.begins_with.ensures ∙ c.if-begins_with.true in
    c.is_constructor.ensures
    ∙ ap₂ is_constructor (rest-all text (length c.text_at-usual.result.now) ∙ ap (λ t. drop (length t) text) c.text_at-usual.ensures) (c.last_part.ensures ∙ ap last_part c.text_at.ensures)
    ∙ both-hold _ _ begins

pub returns-else-begins_with : goal.returns-else-begins_with
returns-else-begins_with c =
    let other = ap (starts_with nat_eq c.args.name.now) (sym c.text_at-usual.ensures) ∙ sym c.begins_with.ensures ∙ c.if-begins_with.false in
    c.if-begins_with.false ∙ sym (and_left _ _ other)
