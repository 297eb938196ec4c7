use Rattle.cpp_references.proofs.Basics.{sym, ◌∙◌, ap, is_module}
use Rattle.cpp_references.proofs.Functions.{module_is}
use Rattle.cpp_references.proofs.candidates.is_module.Goals as goal

pub returns : goal.returns
returns c = c.names_module.ensures ∙ sym (ap is_module c.opened.ensures.tree ∙ module_is _ _ _ _ c.opened.result.node c.opened.ensures.own)
