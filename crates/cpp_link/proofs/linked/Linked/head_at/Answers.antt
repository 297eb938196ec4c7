use Rattle.cpp_link.proofs.Basics.{sym, ◌∙◌, ap, head_of}
use Rattle.cpp_link.proofs.Awaited.{head_is}
use Rattle.cpp_link.proofs.linked.Linked.head_at.Goals as goal

pub returns : goal.returns
returns c = c.head_of.ensures ∙ sym (ap head_of c.opened.ensures.tree ∙ head_is _ _ _ _ c.opened.result.node c.opened.ensures.own)
