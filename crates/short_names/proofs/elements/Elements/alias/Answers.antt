use Rattle.short_names.proofs.Basics.{◌<◌, nat_eq, refl, sym, ap, ap₂, ◌∙◌, arith, inl, inr, pointwise, Alias, filled}
use Rattle.short_names.proofs.ListedLemmas.{filled-same, usual-past, usual-found, usual-none, usual-end}
use Rattle.short_names.proofs.RunLemmas.{lt-or-le}
use Rattle.short_names.proofs.elements.Elements.alias.Goals as goal

abbrev none : Alias
none = record { template = record { from = 0; to = 0 }; arguments = record { from = 0; to = 0 }; name = record { from = 0; to = 0 } }

pub rows-init : goal.rows-init
rows-init c = record { same = λ elements e h. refl }

pub returns-then-is_filled : goal.returns-then-is_filled
returns-then-is_filled c =
    λ elements e h.
    let named = c.args.named in
    let holes = c.args.holes in
    let below : c.rows.k < named.template.end_alias = omega (arith, c.rows-test.true, c.min-end.ensures) in
    let within : c.rows.k < 47 = omega (arith, c.rows-test.true, c.min-end.ensures) in
    let is =
    ap₂ (pointwise nat_eq) (sym (c.front-text.ensures elements e))
    (sym (ap (filled holes.first.now holes.second.now holes.whole.now) c.text_at.ensures ∙ filled-same named elements holes h _))
    ∙ sym c.is_filled.ensures ∙ c.if-is_filled.true in
    sym (c.rows.invariant.same elements e h ∙ usual-found named elements c.args.count named.template.end_alias c.rows.k none below within is)

pub rows-preserved : goal.rows-preserved
rows-preserved c = record {
  same = λ elements e h.
      let named = c.args.named in
      let holes = c.args.holes in
      let below : c.rows.k < named.template.end_alias = omega (arith, c.rows-test.true, c.min-end.ensures) in
      let within : c.rows.k < 47 = omega (arith, c.rows-test.true, c.min-end.ensures) in
      let other =
      ap₂ (pointwise nat_eq) (sym (c.front-text.ensures elements e))
      (sym (ap (filled holes.first.now holes.second.now holes.whole.now) c.text_at.ensures ∙ filled-same named elements holes h _))
      ∙ sym c.is_filled.ensures ∙ c.if-is_filled.false in
      c.rows.invariant.same elements e h ∙ usual-past named elements c.args.count named.template.end_alias c.rows.k none below within other;
}

pub returns : goal.returns
returns c =
    λ elements e h.
    let named = c.args.named in
    sym
    (c.rows.invariant.same elements e h
    ∙ elim (lt-or-le c.rows.k named.template.end_alias) [
      | inl below ↦ usual-end named elements c.args.count named.template.end_alias c.rows.k (omega (arith, below, c.rows-test.false, c.min-end.ensures))
      | inr past ↦ usual-none named elements c.args.count named.template.end_alias c.rows.k past
    ])
