use Rattle.rust_v0.proofs.Basics.{◌≡◌, ◌<◌, ◌++◌, ◌∷◌, [], refl, sym, ap, ◌∙◌, arith, Some, Ok, drop, take, ◌^◌, rest_all, taken_dropped, Part, of_part, production_of, at_rule}
use Rattle.rust_grammar.specs.declared.production.Production.TheVariants as rules
use Rattle.rust_v0.specs.CodeSemantics as semantics
use Rattle.rust_v0.proofs.Closing.{same_adds}
use Rattle.rust_v0.proofs.Meanings.{made_gives, gives_part}
use Rattle.rust_v0.proofs.NodeCount.{made_so_many, none_by_part}
use Rattle.rust_v0.proofs.Reading.{v0_ended}
use Rattle.rust_v0.proofs.nodes.RustNodes.close_rule.Goals as goal

pub returns-in-Some-PlainName-clause-closes : goal.returns-in-Some-PlainName-clause-closes
returns-in-Some-PlainName-clause-closes c rule known from left state is none =
    let s = c.args.symbol.now in
    let own = drop c.args.frame.base c.args.parts.now.items in
    let one = c.if-is_name.ensures in
    let own_is : own ≡ Part.Name one.0 ∷ [] = sym (rest_all c.args.parts.now.items c.args.frame.base) ∙ (rw c.deref.ensures.value at one.1) in
    let production_is : production_of rule.rule.number ≡ Some rules.PlainName = rw (← is.number) (sym c.numbered.ensures ∙ c.in-Some-PlainName.is ∙ ap (λ p. Some p) c.in-Some-PlainName.field-0-is) in
    let fits : rule.context < 2 ^ 64 = omega (arith, is.kept.few, is.place, c.requires.place, c.requires.room.fits) in
    let made_is : of_part (Ok (Part.Name one.0)) ≡ semantics.made rules.PlainName s rule.place rule.context own = rw own_is refl in
    rw (v0_ended s rule known from left state none, production_is) (
      Part.Name one.0,
      sym (taken_dropped c.args.frame.base c.args.parts.now.items) ∙ ap (λ ps. take c.args.frame.base c.args.parts.now.items ++ ps) own_is,
      gives_part s c.args.self.now (at_rule s rule state) (Ok (Part.Name one.0)) _ _ is.holds made_is
          (made_gives c.args.self.now.nodes (at_rule s rule state) rules.PlainName own known refl (rw (← is.place) c.requires.place) fits is.holds.lists is.parts),
    )

pub returns-in-Some-PlainName-clause-adds : goal.returns-in-Some-PlainName-clause-adds
returns-in-Some-PlainName-clause-adds c = same_adds c.args.symbol.now c.args.self.now c.args.self.now (Ok tt) refl refl

pub returns-in-Some-PlainName-clause-made : goal.returns-in-Some-PlainName-clause-made
returns-in-Some-PlainName-clause-made c =
    made_so_many c.args.self.now c.args.self.now (Ok tt) _ 0 (omega arith) (none_by_part c.args.frame.rule rules.PlainName
    (sym c.numbered.ensures ∙ c.in-Some-PlainName.is ∙ ap (λ p. Some p) c.in-Some-PlainName.field-0-is) refl)
