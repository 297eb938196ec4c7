use Rattle.short_names.proofs.Basics.{sym, ap, ◌∙◌, arith, left_of}
use Rattle.short_names.proofs.ElementLemmas.{starts-length}
use Rattle.short_names.proofs.ListedLemmas.{left-more, left-few}
use Rattle.short_names.proofs.elements.Elements.left.Goals as goal

pub returns-then-all-named : goal.returns-then-all-named
returns-then-all-named c =
    λ elements e h.
    let long = starts-length _ _ elements e in
    long ∙ sym (left-more c.args.named elements (omega (arith, long, c.if-all-named.true)))

pub returns : goal.returns
returns c =
    λ elements e h.
    let long = starts-length _ _ elements e in
    c.without_defaults.ensures elements e h ∙ ap (left_of c.args.named elements) long ∙ sym (left-few c.args.named elements (omega (arith, long, c.if-all-named.false)))

pub without_defaults-requires : goal.without_defaults-requires
without_defaults-requires c = c.requires
