use Rattle.short_names.proofs.Basics.{[], take, sym, ap, ◌∙◌, length-take-le, if◌then◌else◌, front_size}
use Rattle.short_names.proofs.NameLemmas.{colons-from}
use Rattle.short_names.proofs.names.before_constructor.Goals as goal

pub returns-then-is_constructor : goal.returns-then-is_constructor
returns-then-is_constructor c =
    let text = c.args.text.now in
    ap (λ n. take n text) c.front_size-size.ensures.size
    ∙ sym (ap (λ b. if b then take (front_size text) text else []) (sym c.is_constructor.ensures ∙ c.if-is_constructor.true))

pub returns : goal.returns
returns c =
    let text = c.args.text.now in
    sym (ap (λ b. if b then take (front_size text) text else []) (sym c.is_constructor.ensures ∙ c.if-is_constructor.false))

pub slice_bounds-result-end : goal.slice_bounds-result-end
slice_bounds-result-end c =
    sym (length-take-le c.front_size-size.result c.args.text.now (c.front_size-size.ensures.within (colons-from c.args.text.now c.args.class.now (sym c.is_constructor.ensures ∙ c.if-is_constructor.true))))
