use Rattle.cpp_link.proofs.Basics.{sym, ◌∙◌, ap, is_comma}
use Rattle.cpp_link.proofs.Operations.{comma_is}
use Rattle.cpp_link.proofs.linked.Linked.is_comma.Goals as goal

pub returns : goal.returns
returns c = c.is_comma.ensures ∙ sym (ap is_comma c.opened.ensures.tree ∙ comma_is _ _ _ _ c.opened.result.node c.opened.ensures.own)
