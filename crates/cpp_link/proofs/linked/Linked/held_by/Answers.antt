use Rattle.cpp_link.proofs.Basics.{sym, ◌∙◌, ap, counted_held}
use Rattle.cpp_link.proofs.Reading.{held_node_is}
use Rattle.cpp_link.proofs.linked.Linked.held_by.Goals as goal

pub returns : goal.returns
returns c = c.held_node.ensures ∙ sym (ap counted_held c.opened.ensures.tree ∙ held_node_is _ _ _ _ c.opened.result.node c.opened.ensures.own)
