use Rattle.rust_v0.proofs.Basics.{◌≡◌, ◌<◌, sym, arith, Some, drop, take, ◌^◌, err_from_is_err_and, production_of, at_rule}
use Rattle.rust_v0.proofs.Closing.{put_gives}
use Rattle.rust_v0.proofs.Meanings.{made_gives}
use Rattle.rust_v0.proofs.NodeCount.{made_so_many, one_by_node}
use Rattle.rust_v0.proofs.Reading.{v0_ended}
use Rattle.rust_v0.proofs.nodes.RustNodes.close_node.Goals as goal

pub returns-in_err-added-clause-closes : goal.returns-in_err-added-clause-closes
returns-in_err-added-clause-closes c rule known from left state is none =
    let s = c.args._symbol.now in
    let at = at_rule s rule state in
    let own = drop c.args.frame.base c.args.parts.now.items in
    let by = c.requires.made in
    let production_is : production_of rule.rule.number ≡ Some by.production = rw (← is.number) by.is in
    let fits : rule.context < 2 ^ 64 = omega (arith, is.kept.few, is.place, c.requires.place, c.requires.room.fits) in
    let p = err_from_is_err_and c.from_residual.result c.from_residual.ensures.1 in
    rw (p.1, p.2, v0_ended s rule known from left state none, production_is)
    (c.in_err-added.ensures.gives at _ _ (by.made_is s rule.place rule.context) (sym is.place) (rw is.place is.kept.there) is.holds
    (made_gives c.args.self.now.nodes at by.production own known by.no_reference (rw (← is.place) c.requires.place) fits is.holds.lists is.parts))

pub returns-clause-closes : goal.returns-clause-closes
returns-clause-closes c rule known from left state is none =
    let s = c.args._symbol.now in
    let at = at_rule s rule state in
    let own = drop c.args.frame.base c.args.parts.now.items in
    let by = c.requires.made in
    let production_is : production_of rule.rule.number ≡ Some by.production = rw (← is.number) by.is in
    let fits : rule.context < 2 ^ 64 = omega (arith, is.kept.few, is.place, c.requires.place, c.requires.room.fits) in
    rw (v0_ended s rule known from left state none, production_is)
    (put_gives s c.add_made.new.self (take c.args.frame.base c.args.parts.now.items) c.put.new.parts.items c.part_of.result c.put.result _ c.put.ensures.items c.put.ensures.memory
    (rw c.part_of.ensures (c.in_ok-added.ensures.gives at _ _ (by.made_is s rule.place rule.context) (sym is.place) (rw is.place is.kept.there) is.holds
    (made_gives c.args.self.now.nodes at by.production own known by.no_reference (rw (← is.place) c.requires.place) fits is.holds.lists is.parts))))

pub returns-clause-made : goal.returns-clause-made
returns-clause-made c =
    let by = c.requires.made in
    made_so_many c.args.self.now c.add_made.new.self c.put.result _ 1 c.in_ok-added.ensures.more (one_by_node c.args.frame.rule by.production by.is by.no_reference by.no_part)
