use Rattle.cpp_link.proofs.Basics.{sym, ◌∙◌, ap, ends_arguments}
use Rattle.cpp_link.proofs.Operations.{ending_is}
use Rattle.cpp_link.proofs.linked.Linked.ends_arguments.Goals as goal

pub returns : goal.returns
returns c = c.ends_arguments.ensures ∙ sym (ap ends_arguments c.opened.ensures.tree ∙ ending_is _ _ _ _ c.opened.result.node c.opened.ensures.own)
