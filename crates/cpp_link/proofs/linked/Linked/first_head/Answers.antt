use Rattle.std.proofs.Common.{◌∙◌, arith}
use Rattle.cpp_link.proofs.Awaited.{cell_head, cell_rest, no_head, no_rest}
use Rattle.cpp_link.proofs.linked.Linked.first_head.Goals as goal

pub returns-in-Cell-clause-head : goal.returns-in-Cell-clause-head
returns-in-Cell-clause-head c = c.head_at.ensures ∙ cell_head _ _ _ _ c.opened.result.node _ c.in-Cell.first c.in-Cell.rest c.opened.ensures.tree c.in-Cell.is

pub returns-in-Cell-clause-others : goal.returns-in-Cell-clause-others
returns-in-Cell-clause-others c k = cell_rest _ _ _ _ c.opened.result.node _ c.in-Cell.first c.in-Cell.rest k c.opened.ensures.tree c.in-Cell.is

pub returns-in_default-clause-head : goal.returns-in_default-clause-head
returns-in_default-clause-head c = no_head _ _ _ _ c.opened.result.node _ c.opened.ensures.tree c.opened.ensures.own c.in_default.not-Cell

pub returns-in_default-clause-others : goal.returns-in_default-clause-others
returns-in_default-clause-others c k = no_rest _ _ _ _ c.opened.result.node _ k c.opened.ensures.tree c.opened.ensures.own c.in_default.not-Cell _ c.requires.table.no_list

pub returns-in_default-clause-there : goal.returns-in_default-clause-there
returns-in_default-clause-there c = omega (arith, c.requires.table.fixed)
