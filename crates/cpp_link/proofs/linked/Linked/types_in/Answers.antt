use Rattle.cpp_link.proofs.Awaited.{declared_types, own_types}
use Rattle.cpp_link.proofs.linked.Linked.types_in.Goals as goal

pub returns-in-Declaring-clause-heads : goal.returns-in-Declaring-clause-heads
returns-in-Declaring-clause-heads c k = declared_types _ _ _ _ c.opened.result.node _ _ c.in-Declaring.parameters k c.opened.ensures.tree c.in-Declaring.is

pub returns-in_default-clause-heads : goal.returns-in_default-clause-heads
returns-in_default-clause-heads c k = own_types _ _ _ _ c.opened.result.node _ k c.opened.ensures.tree c.opened.ensures.own c.in_default.not-Declaring
