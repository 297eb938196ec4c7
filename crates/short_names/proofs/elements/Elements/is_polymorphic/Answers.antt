use Rattle.short_names.proofs.Basics.{◌-◌, sym, ap, ap₂, ◌∙◌, arith, is_given, element}
use Rattle.short_names.proofs.ElementLemmas.{starts-length}
use Rattle.short_names.proofs.ListedLemmas.{given-same, other-count, same-count}
use Rattle.short_names.proofs.elements.Elements.is_polymorphic.Goals as goal

pub returns-then-all-named : goal.returns-then-all-named
returns-then-all-named c =
    λ elements e h. sym (other-count c.args.named elements (λ same. c.if-all-named.true (starts-length _ _ elements e ∙ same)))

pub returns : goal.returns
returns c =
    λ elements e h.
    let named = c.args.named in
    let long = starts-length _ _ elements e in
    c.is_given.ensures
    ∙ given-same named elements c.args.holes h c.at.result.now c.text_at.result.now
    ∙ ap₂ (is_given named elements) (c.at.ensures elements e ∙ ap (λ n. element elements (n - 1)) long) c.text_at.ensures
    ∙ sym (same-count named elements (sym long ∙ c.if-all-named.false))

pub overflow_sub-all : goal.overflow_sub-all
overflow_sub-all c = omega (arith, c.requires.1.some, starts-length _ _ c.requires.0 c.requires.1)

pub at-requires : goal.at-requires
at-requires c = (c.requires.0, c.requires.1)
