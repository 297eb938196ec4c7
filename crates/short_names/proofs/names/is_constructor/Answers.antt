use Rattle.short_names.proofs.Basics.{◌+◌, not, length, drop, get_or, nat_eq, sym, ap, ◌∙◌, starts_with, is_letter}
use Rattle.short_names.proofs.FrontLemmas.{rest-all}
use Rattle.short_names.proofs.NameLemmas.{no-colons, no-class, with-class}
use Rattle.short_names.proofs.names.is_constructor.Goals as goal

pub returns-then-not-starts_with : goal.returns-then-not-starts_with
returns-then-not-starts_with c = sym (no-colons c.args.text.now c.args.class.now (sym c.starts_with.ensures.value ∙ c.if-not-starts_with.true))

pub returns-then-not-begins_with : goal.returns-then-not-begins_with
returns-then-not-begins_with c =
    let text = c.args.text.now in
    let size = c.front_size-size.result in
    let rest = rest-all text size ∙ ap (λ n. drop n text) c.front_size-size.ensures.size in
    sym (no-class text c.args.class.now (sym c.starts_with.ensures.value ∙ c.if-not-starts_with.false)
    (ap (λ t. starts_with nat_eq t c.args.class.now) (sym rest) ∙ sym c.begins_with.ensures ∙ c.if-not-begins_with.true))

pub returns : goal.returns
returns c =
    let text = c.args.text.now in
    let size = c.front_size-size.result in
    let rest = rest-all text size ∙ ap (λ n. drop n text) c.front_size-size.ensures.size in
    ap not c.has_letter.ensures
    ∙ ap (λ n. not (is_letter (get_or text (n + length c.args.class.now) 0))) c.front_size-size.ensures.size
    ∙ sym (with-class text c.args.class.now (sym c.starts_with.ensures.value ∙ c.if-not-starts_with.false)
    (ap (λ t. starts_with nat_eq t c.args.class.now) (sym rest) ∙ sym c.begins_with.ensures ∙ c.if-not-begins_with.false))

pub slice_bounds-member-count : goal.slice_bounds-member-count
slice_bounds-member-count c = c.front_size-size.ensures.within (sym c.starts_with.ensures.value ∙ c.if-not-starts_with.false)

pub slice_bounds-member-start : goal.slice_bounds-member-start
slice_bounds-member-start c = c.front_size-size.ensures.within (sym c.starts_with.ensures.value ∙ c.if-not-starts_with.false)
