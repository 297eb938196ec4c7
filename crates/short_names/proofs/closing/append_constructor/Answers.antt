use Rattle.short_names.proofs.Basics.{◌∙◌, ◌+◌, ◌++◌, [], sym, ap, length, take, if◌then◌else◌, front_size, is_constructor, last_part}
use Rattle.short_names.proofs.CloseLemmas.{none-answered, some-answered}
use Rattle.short_names.proofs.closing.append_constructor.Goals as goal

pub returns-then-is_empty : goal.returns-then-is_empty
returns-then-is_empty c =
    let rest = c.args.rest.now in
    let class_is = c.last_part-class.ensures ∙ ap last_part c.text_at.ensures in
    none-answered c.args.text.now.items rest c.before_constructor-front.result.now c.args.alias
    (c.before_constructor-front.ensures ∙ ap (λ k. if is_constructor rest k then take (front_size rest) rest else []) class_is)
    (sym c.is_empty.ensures ∙ c.if-is_empty.true)

pub returns : goal.returns
returns c =
    let items = c.args.text.now.items in
    let rest = c.args.rest.now in
    let front = c.before_constructor-front.result.now in
    let class_is = c.last_part-class.ensures ∙ ap last_part c.text_at.ensures in
    some-answered items rest front c.args.alias _ _
    (c.before_constructor-front.ensures ∙ ap (λ k. if is_constructor rest k then take (front_size rest) rest else []) class_is)
    (sym c.is_empty.ensures ∙ c.if-is_empty.false)
    (c.in_ok-extend_from_slice-2.ensures.items ∙ ap (λ a. a ++ c.class_of.result.now) c.in_ok-extend_from_slice.ensures.items ∙ ap (λ k. (items ++ front) ++ k) c.class_of.ensures)
    (ap (λ k. length front + length k) class_is)
