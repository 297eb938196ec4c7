use Rattle.rust_v0.proofs.Basics.{◌≡◌, ◌<◌, refl, sym, ◌∙◌, arith, Some, None, Ok, Err, Option, drop, take, ap, length, ◌^◌, err_from_is_err_and, rest_all, Production, of_part, production_of, at_rule}
use Rattle.rust_v0.specs.CodeSemantics as semantics
use Rattle.rust_v0.proofs.Closing.{put_gives, same_adds}
use Rattle.rust_v0.proofs.Meanings.{made_gives, gives_part}
use Rattle.rust_v0.proofs.NodeCount.{made_so_many, none_by_reference, none_by_part, one_by_node}
use Rattle.rust_v0.proofs.Reading.{v0_ended}
use Rattle.rust_v0.proofs.nodes.RustNodes.close_any.Goals as goal

no_production : (found : Option Production) → ((production : Production) → found ≡ Some production → ⊥) → found ≡ None
no_production None never = refl
no_production (Some production) never = absurd (never production refl)

pub returns-in_default-clause-closes : goal.returns-in_default-clause-closes
returns-in_default-clause-closes c rule known from left state is none =
    let production_is : production_of rule.rule.number ≡ None = rw (← is.number) (sym c.numbered.ensures ∙ no_production c.numbered.result c.in_default.not-Some) in
    rw (v0_ended c.args.symbol.now rule known from left state none, production_is) refl

pub returns-in_err-part-clause-closes : goal.returns-in_err-part-clause-closes
returns-in_err-part-clause-closes c rule known from left state is none =
    let s = c.args.symbol.now in
    let at = at_rule s rule state in
    let production_is : production_of rule.rule.number ≡ Some c.in-Some.production = rw (← is.number) (sym c.numbered.ensures ∙ c.in-Some.is) in
    let p = err_from_is_err_and c.from_residual.result c.from_residual.ensures.1 in
    rw (p.1, p.2, v0_ended s rule known from left state none, production_is)
    (c.in_err-part.ensures.gives at known (sym c.is_reference.ensures ∙ c.if-is_reference.true) (sym (c.site_of-site.ensures.place ∙ is.place)) (sym (c.site_of-site.ensures.bound ∙ is.kept.is))
    (rw (c.site_of-site.ensures.place, is.place) is.kept.there) is.holds (rw (c.deref.ensures.value, rest_all c.args.parts.now.items c.args.frame.base) is.parts))

pub returns-then-is_reference-clause-closes : goal.returns-then-is_reference-clause-closes
returns-then-is_reference-clause-closes c rule known from left state is none =
    let s = c.args.symbol.now in
    let at = at_rule s rule state in
    let production_is : production_of rule.rule.number ≡ Some c.in-Some.production = rw (← is.number) (sym c.numbered.ensures ∙ c.in-Some.is) in
    rw (v0_ended s rule known from left state none, production_is)
    (put_gives s c.reference.new.self (take c.args.frame.base c.args.parts.now.items) c.put.new.parts.items c.in_ok-part.part c.put.result _ c.put.ensures.items c.put.ensures.memory
    (c.in_ok-part.ensures.gives at known (sym c.is_reference.ensures ∙ c.if-is_reference.true) (sym (c.site_of-site.ensures.place ∙ is.place)) (sym (c.site_of-site.ensures.bound ∙ is.kept.is))
    (rw (c.site_of-site.ensures.place, is.place) is.kept.there) is.holds (rw (c.deref.ensures.value, rest_all c.args.parts.now.items c.args.frame.base) is.parts)))

pub returns-then-is_reference-clause-adds : goal.returns-then-is_reference-clause-adds
returns-then-is_reference-clause-adds c = same_adds c.args.symbol.now c.args.self.now c.reference.new.self c.put.result c.reference.ensures.nodes c.reference.ensures.places

pub returns-in_err-part-2-clause-closes : goal.returns-in_err-part-2-clause-closes
returns-in_err-part-2-clause-closes c rule known from left state is none =
    let s = c.args.symbol.now in
    let at = at_rule s rule state in
    let production_is : production_of rule.rule.number ≡ Some c.in-Some.production = rw (← is.number) (sym c.numbered.ensures ∙ c.in-Some.is) in
    let fits : rule.context < 2 ^ 64 = omega (arith, is.kept.few, is.place, c.requires.place, c.requires.room.fits) in
    let own = drop c.args.frame.base c.args.parts.now.items in
    let made_is : of_part (Err c.in_err-part-2.field-0.0) ≡ semantics.made c.in-Some.production s rule.place rule.context own =
    rw (← is.place, ← c.site_of-site.ensures.place, ← is.kept.is, ← c.site_of-site.ensures.bound, ← rest_all c.args.parts.now.items c.args.frame.base, ← c.deref.ensures.value)
    (c.in_err-part-2.ensures.is s (sym c.makes_part.ensures ∙ c.if-makes_part.true) (rw c.site_of-site.ensures.place c.site_of-site.ensures.byte) c.site_of-site.ensures.end) in
    let p = err_from_is_err_and c.from_residual-in_err-part-2.result c.from_residual-in_err-part-2.ensures.1 in
    rw (p.1, p.2, v0_ended s rule known from left state none, production_is)
    (gives_part s c.args.self.now at (Err c.in_err-part-2.field-0.0) _ _ is.holds made_is
    (made_gives c.args.self.now.nodes at c.in-Some.production own known (sym c.is_reference.ensures ∙ c.if-is_reference.false) (rw (← is.place) c.requires.place) fits is.holds.lists is.parts))

pub returns-then-makes_part-clause-closes : goal.returns-then-makes_part-clause-closes
returns-then-makes_part-clause-closes c rule known from left state is none =
    let s = c.args.symbol.now in
    let at = at_rule s rule state in
    let production_is : production_of rule.rule.number ≡ Some c.in-Some.production = rw (← is.number) (sym c.numbered.ensures ∙ c.in-Some.is) in
    let fits : rule.context < 2 ^ 64 = omega (arith, is.kept.few, is.place, c.requires.place, c.requires.room.fits) in
    let own = drop c.args.frame.base c.args.parts.now.items in
    let made_is : of_part (Ok c.in_ok-part-2.part) ≡ semantics.made c.in-Some.production s rule.place rule.context own =
    rw (← is.place, ← c.site_of-site.ensures.place, ← is.kept.is, ← c.site_of-site.ensures.bound, ← rest_all c.args.parts.now.items c.args.frame.base, ← c.deref.ensures.value)
    (c.in_ok-part-2.ensures.is s (sym c.makes_part.ensures ∙ c.if-makes_part.true) (rw c.site_of-site.ensures.place c.site_of-site.ensures.byte) c.site_of-site.ensures.end) in
    rw (v0_ended s rule known from left state none, production_is)
    (put_gives s c.args.self.now (take c.args.frame.base c.args.parts.now.items) c.put-then-makes_part.new.parts.items c.in_ok-part-2.part c.put-then-makes_part.result _
    c.put-then-makes_part.ensures.items c.put-then-makes_part.ensures.memory
    (gives_part s c.args.self.now at (Ok c.in_ok-part-2.part) _ _ is.holds made_is
    (made_gives c.args.self.now.nodes at c.in-Some.production own known (sym c.is_reference.ensures ∙ c.if-is_reference.false) (rw (← is.place) c.requires.place) fits is.holds.lists is.parts)))

pub returns-then-makes_part-clause-adds : goal.returns-then-makes_part-clause-adds
returns-then-makes_part-clause-adds c = same_adds c.args.symbol.now c.args.self.now c.args.self.now c.put-then-makes_part.result refl refl

pub returns-in_err-added-clause-closes : goal.returns-in_err-added-clause-closes
returns-in_err-added-clause-closes c rule known from left state is none =
    let s = c.args.symbol.now in
    let at = at_rule s rule state in
    let production_is : production_of rule.rule.number ≡ Some c.in-Some.production = rw (← is.number) (sym c.numbered.ensures ∙ c.in-Some.is) in
    let fits : rule.context < 2 ^ 64 = omega (arith, is.kept.few, is.place, c.requires.place, c.requires.room.fits) in
    let own = drop c.args.frame.base c.args.parts.now.items in
    let p = err_from_is_err_and c.from_residual-in_err-added.result c.from_residual-in_err-added.ensures.1 in
    rw (p.1, p.2, v0_ended s rule known from left state none, production_is)
    (c.in_err-added.ensures.gives at _ (sym c.is_reference.ensures ∙ c.if-is_reference.false) (sym c.makes_part.ensures ∙ c.if-makes_part.false) (sym (c.site_of-site.ensures.place ∙ is.place))
    (rw (← is.place) c.site_of-site.ensures.byte) (rw (c.site_of-site.ensures.place, is.place) is.kept.there) is.holds
    (rw (c.deref.ensures.value, rest_all c.args.parts.now.items c.args.frame.base)
    (made_gives c.args.self.now.nodes at c.in-Some.production own known (sym c.is_reference.ensures ∙ c.if-is_reference.false) (rw (← is.place) c.requires.place) fits is.holds.lists is.parts)))

pub returns-clause-closes : goal.returns-clause-closes
returns-clause-closes c rule known from left state is none =
    let s = c.args.symbol.now in
    let at = at_rule s rule state in
    let production_is : production_of rule.rule.number ≡ Some c.in-Some.production = rw (← is.number) (sym c.numbered.ensures ∙ c.in-Some.is) in
    let fits : rule.context < 2 ^ 64 = omega (arith, is.kept.few, is.place, c.requires.place, c.requires.room.fits) in
    let own = drop c.args.frame.base c.args.parts.now.items in
    rw (v0_ended s rule known from left state none, production_is)
    (put_gives s c.add_by.new.self (take c.args.frame.base c.args.parts.now.items) c.put-2.new.parts.items c.part_of.result c.put-2.result _ c.put-2.ensures.items c.put-2.ensures.memory
    (rw c.part_of.ensures (c.in_ok-added.ensures.gives at _ (sym c.is_reference.ensures ∙ c.if-is_reference.false) (sym c.makes_part.ensures ∙ c.if-makes_part.false) (sym (c.site_of-site.ensures.place ∙ is.place))
    (rw (← is.place) c.site_of-site.ensures.byte) (rw (c.site_of-site.ensures.place, is.place) is.kept.there) is.holds
    (rw (c.deref.ensures.value, rest_all c.args.parts.now.items c.args.frame.base)
    (made_gives c.args.self.now.nodes at c.in-Some.production own known (sym c.is_reference.ensures ∙ c.if-is_reference.false) (rw (← is.place) c.requires.place) fits is.holds.lists is.parts)))))

pub returns-then-is_reference-clause-made : goal.returns-then-is_reference-clause-made
returns-then-is_reference-clause-made c =
    made_so_many c.args.self.now c.reference.new.self c.put.result _ 0 (omega (arith, ap (λ t. length t.nodes) c.reference.ensures.nodes))
    (none_by_reference c.args.frame.rule c.in-Some.production (sym c.numbered.ensures ∙ c.in-Some.is) (sym c.is_reference.ensures ∙ c.if-is_reference.true))

pub returns-then-makes_part-clause-made : goal.returns-then-makes_part-clause-made
returns-then-makes_part-clause-made c =
    made_so_many c.args.self.now c.args.self.now c.put-then-makes_part.result _ 0 (omega arith)
    (none_by_part c.args.frame.rule c.in-Some.production (sym c.numbered.ensures ∙ c.in-Some.is) (sym c.makes_part.ensures ∙ c.if-makes_part.true))

pub returns-clause-made : goal.returns-clause-made
returns-clause-made c =
    made_so_many c.args.self.now c.add_by.new.self c.put-2.result _ 1 c.in_ok-added.ensures.more
    (one_by_node c.args.frame.rule c.in-Some.production (sym c.numbered.ensures ∙ c.in-Some.is) (sym c.is_reference.ensures ∙ c.if-is_reference.false) (sym c.makes_part.ensures ∙ c.if-makes_part.false))
