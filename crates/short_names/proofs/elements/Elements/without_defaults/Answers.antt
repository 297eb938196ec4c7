use Rattle.std.proofs.Common.{◌-◌, sym, ◌∙◌, arith}
use Rattle.short_names.proofs.ListedLemmas.{one-less, none-less, nothing-left}
use Rattle.short_names.proofs.elements.Elements.without_defaults.Goals as goal

pub elements-preserved : goal.elements-preserved
elements-preserved c =
    λ elements e h.
    c.elements.invariant elements e h
    ∙ one-less c.args.named elements c.elements.left (c.elements.left - 1) (omega (arith, c.elements-test.true)) (sym (c.is_default.ensures elements e h) ∙ c.if-not-is_default.false)

pub returns-then-not-is_default : goal.returns-then-not-is_default
returns-then-not-is_default c =
    λ elements e h.
    sym
    (c.elements.invariant elements e h
    ∙ none-less c.args.named elements c.elements.left (c.elements.left - 1) (omega (arith, c.elements-test.true)) (sym (c.is_default.ensures elements e h) ∙ c.if-not-is_default.true))

pub returns : goal.returns
returns c = λ elements e h. sym (c.elements.invariant elements e h ∙ nothing-left c.args.named elements c.elements.left (omega (arith, c.elements-test.false)))

pub is_default-requires : goal.is_default-requires
is_default-requires c = c.requires
