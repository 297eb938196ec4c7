use Rattle.cpp_link.proofs.Basics.{sym, ◌∙◌, ap, is_instance}
use Rattle.cpp_link.proofs.Reading.{instance_is}
use Rattle.cpp_link.proofs.linked.Linked.is_instance.Goals as goal

pub returns : goal.returns
returns c = c.is_instance_node.ensures ∙ sym (ap is_instance c.opened.ensures.tree ∙ instance_is _ _ _ _ c.opened.result.node c.opened.ensures.own)
