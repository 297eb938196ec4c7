use Rattle.rust_direct.proofs.Basics.{◌∷◌, ◌++◌, [], arith, refl, subst, ap, ◌∙◌, StandsAt, stands-join}
use Rattle.rust_direct.specs.declared.open.Open.TheVariants as opens
use Rattle.rust_direct.proofs.SymbolsRead.{symbol-begun}
use Rattle.rust_direct.proofs.direct.Direct.begin.Goals as goal

pub returns : goal.returns
returns g c =
    let s = c.args.s.now in
    let first = subst (λ b. StandsAt s 0 (b ∷ [])) c.if-byte_at-ne95.false (c.byte_at.ensures (λ e. omega (arith, e, c.if-byte_at-ne95.false))) in
    let second = subst (λ b. StandsAt s 1 (b ∷ [])) c.if-byte_at-ne82.false
    (c.byte_at-else-byte_at-ne95.ensures (λ e. omega (arith, e, c.if-byte_at-ne82.false))) in
    symbol-begun g.S.Showing.IS_BRIEF s c.args.self.now _ _ (stands-join s 0 (95 ∷ []) (82 ∷ []) first second) c.requires.fresh c.clear_numbers.ensures.text
    c.clear_numbers.ensures.aside c.clear_numbers.ensures.is_aside c.clear_numbers.ensures.notes c.in_ok-clear_numbers.ensures.numbers (omega arith)
    (c.in_ok-push.ensures.items ∙ ap (λ v. v.list.items ++ opens.Symbol ∷ []) c.clear_numbers.ensures.waiting)
    (c.push.ensures.room ∙ ap (λ v. v.room) c.clear_numbers.ensures.waiting) refl
