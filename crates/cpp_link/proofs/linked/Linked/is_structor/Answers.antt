use Rattle.cpp_link.proofs.Basics.{sym, ◌∙◌, ap, is_structor}
use Rattle.cpp_link.proofs.Reading.{structor_is}
use Rattle.cpp_link.proofs.linked.Linked.is_structor.Goals as goal

pub returns : goal.returns
returns c = c.is_structor.ensures ∙ sym (ap is_structor c.opened.ensures.tree ∙ structor_is _ _ _ _ c.opened.result.node c.opened.ensures.own)
