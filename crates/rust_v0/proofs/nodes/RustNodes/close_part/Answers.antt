use Rattle.rust_v0.proofs.Basics.{◌≡◌, ◌<◌, refl, arith, Some, Ok, Err, drop, take, ◌^◌, err_from_is_err_and, rest_all, of_part, production_of, at_rule}
use Rattle.rust_v0.specs.CodeSemantics as semantics
use Rattle.rust_v0.proofs.Closing.{put_gives, same_adds}
use Rattle.rust_v0.proofs.Meanings.{made_gives, gives_part, makes_no_reference}
use Rattle.rust_v0.proofs.NodeCount.{made_so_many, none_by_part}
use Rattle.rust_v0.proofs.Reading.{v0_ended}
use Rattle.rust_v0.proofs.nodes.RustNodes.close_part.Goals as goal

pub returns-in_err-part-clause-closes : goal.returns-in_err-part-clause-closes
returns-in_err-part-clause-closes c rule known from left state is none =
    let s = c.args.symbol.now in
    let own = drop c.args.frame.base c.args.parts.now.items in
    let production_is : production_of rule.rule.number ≡ Some c.args.production = rw (← is.number) c.requires.production in
    let fits : rule.context < 2 ^ 64 = omega (arith, is.kept.few, is.place, c.requires.place, c.requires.room.fits) in
    let made_is : of_part (Err c.in_err-part.field-0.0) ≡ semantics.made c.args.production s rule.place rule.context own =
    rw (← is.place, ← c.site_of-site.ensures.place, ← is.kept.is, ← c.site_of-site.ensures.bound, ← rest_all c.args.parts.now.items c.args.frame.base, ← c.deref.ensures.value)
    (c.in_err-part.ensures.is s c.requires.part (rw c.site_of-site.ensures.place c.site_of-site.ensures.byte) c.site_of-site.ensures.end) in
    let p = err_from_is_err_and c.from_residual.result c.from_residual.ensures.1 in
    rw (p.1, p.2, v0_ended s rule known from left state none, production_is)
    (gives_part s c.args.self.now (at_rule s rule state) (Err c.in_err-part.field-0.0) _ _ is.holds made_is
    (made_gives c.args.self.now.nodes (at_rule s rule state) c.args.production own known (makes_no_reference c.args.production c.requires.part) (rw (← is.place) c.requires.place) fits is.holds.lists is.parts))

pub returns-clause-closes : goal.returns-clause-closes
returns-clause-closes c rule known from left state is none =
    let s = c.args.symbol.now in
    let own = drop c.args.frame.base c.args.parts.now.items in
    let production_is : production_of rule.rule.number ≡ Some c.args.production = rw (← is.number) c.requires.production in
    let fits : rule.context < 2 ^ 64 = omega (arith, is.kept.few, is.place, c.requires.place, c.requires.room.fits) in
    let made_is : of_part (Ok c.in_ok-part.part) ≡ semantics.made c.args.production s rule.place rule.context own =
    rw (← is.place, ← c.site_of-site.ensures.place, ← is.kept.is, ← c.site_of-site.ensures.bound, ← rest_all c.args.parts.now.items c.args.frame.base, ← c.deref.ensures.value)
    (c.in_ok-part.ensures.is s c.requires.part (rw c.site_of-site.ensures.place c.site_of-site.ensures.byte) c.site_of-site.ensures.end) in
    rw (v0_ended s rule known from left state none, production_is)
    (put_gives s c.args.self.now (take c.args.frame.base c.args.parts.now.items) c.put.new.parts.items c.in_ok-part.part c.put.result _ c.put.ensures.items c.put.ensures.memory
    (gives_part s c.args.self.now (at_rule s rule state) (Ok c.in_ok-part.part) _ _ is.holds made_is
    (made_gives c.args.self.now.nodes (at_rule s rule state) c.args.production own known (makes_no_reference c.args.production c.requires.part) (rw (← is.place) c.requires.place) fits is.holds.lists is.parts)))

pub returns-clause-adds : goal.returns-clause-adds
returns-clause-adds c = same_adds c.args.symbol.now c.args.self.now c.args.self.now c.put.result refl refl

pub returns-clause-made : goal.returns-clause-made
returns-clause-made c = made_so_many c.args.self.now c.args.self.now c.put.result _ 0 (omega arith) (none_by_part c.args.frame.rule c.args.production c.requires.production c.requires.part)
