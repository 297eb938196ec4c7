use Rattle.rust_direct.proofs.PathsRead.{waited-for}
use Rattle.rust_direct.proofs.direct.Direct.pass.Goals as goal

pub symbol_ended-requires-clause-arrives : goal.symbol_ended-requires-clause-arrives
symbol_ended-requires-clause-arrives g c = waited-for g.S.Showing.IS_BRIEF c.args.s.now c.take_waiting.new.self _ _ c.args.from c.args.forms c.in-Symbol.is c.in_ok-take_waiting.ensures

pub other_ended-requires-clause-arrives : goal.other_ended-requires-clause-arrives
other_ended-requires-clause-arrives g c = waited-for g.S.Showing.IS_BRIEF c.args.s.now c.take_waiting.new.self _ _ c.args.from c.args.forms c.in-Other.is c.in_ok-take_waiting.ensures

pub special_ended-requires-clause-arrives : goal.special_ended-requires-clause-arrives
special_ended-requires-clause-arrives g c = waited-for g.S.Showing.IS_BRIEF c.args.s.now c.take_waiting.new.self _ _ c.args.from c.args.forms c.in-Nest.is c.in_ok-take_waiting.ensures

pub generic_ended-requires : goal.generic_ended-requires
generic_ended-requires g c = waited-for g.S.Showing.IS_BRIEF c.args.s.now c.take_waiting.new.self _ _ c.args.from c.args.forms c.in-Generic.is c.in_ok-take_waiting.ensures

pub argument_ended-requires : goal.argument_ended-requires
argument_ended-requires g c = waited-for g.S.Showing.IS_BRIEF c.args.s.now c.take_waiting.new.self _ _ c.args.from c.args.forms c.in-Argument.is c.in_ok-take_waiting.ensures

pub impl_ended-requires : goal.impl_ended-requires
impl_ended-requires g c = waited-for g.S.Showing.IS_BRIEF c.args.s.now c.take_waiting.new.self _ _ c.args.from c.args.forms c.in-Impl.is c.in_ok-take_waiting.ensures

pub wrap_ended-requires : goal.wrap_ended-requires
wrap_ended-requires g c = waited-for g.S.Showing.IS_BRIEF c.args.s.now c.take_waiting.new.self _ _ c.args.from c.args.forms c.in-Wrap.is c.in_ok-take_waiting.ensures

pub array_ended-requires-clause-arrives : goal.array_ended-requires-clause-arrives
array_ended-requires-clause-arrives g c = waited-for g.S.Showing.IS_BRIEF c.args.s.now c.take_waiting.new.self _ _ c.args.from c.args.forms c.in-Array.is c.in_ok-take_waiting.ensures

pub trait_impl_ended-requires : goal.trait_impl_ended-requires
trait_impl_ended-requires g c = waited-for g.S.Showing.IS_BRIEF c.args.s.now c.take_waiting.new.self _ _ c.args.from c.args.forms c.in-TraitImpl.is c.in_ok-take_waiting.ensures

pub implementing_ended-requires : goal.implementing_ended-requires
implementing_ended-requires g c = waited-for g.S.Showing.IS_BRIEF c.args.s.now c.take_waiting.new.self _ _ c.args.from c.args.forms c.in-Implementing.is c.in_ok-take_waiting.ensures

pub implemented_ended-requires : goal.implemented_ended-requires
implemented_ended-requires g c = waited-for g.S.Showing.IS_BRIEF c.args.s.now c.take_waiting.new.self _ _ c.args.from c.args.forms c.in-Implemented.is c.in_ok-take_waiting.ensures

pub element_ended-requires : goal.element_ended-requires
element_ended-requires g c = waited-for g.S.Showing.IS_BRIEF c.args.s.now c.take_waiting.new.self _ _ c.args.from c.args.forms c.in-Tuple.is c.in_ok-take_waiting.ensures

pub bound_ended-requires : goal.bound_ended-requires
bound_ended-requires g c = waited-for g.S.Showing.IS_BRIEF c.args.s.now c.take_waiting.new.self _ _ c.args.from c.args.forms c.in-Dyn.is c.in_ok-take_waiting.ensures

pub inner_impl_ended-requires : goal.inner_impl_ended-requires
inner_impl_ended-requires g c = waited-for g.S.Showing.IS_BRIEF c.args.s.now c.take_waiting.new.self _ _ c.args.from c.args.forms c.in-InnerImpl.is c.in_ok-take_waiting.ensures

pub inner_trait_impl_ended-requires : goal.inner_trait_impl_ended-requires
inner_trait_impl_ended-requires g c = waited-for g.S.Showing.IS_BRIEF c.args.s.now c.take_waiting.new.self _ _ c.args.from c.args.forms c.in-InnerTraitImpl.is c.in_ok-take_waiting.ensures
