use Rattle.cpp_references.proofs.Basics.{sym, ◌∙◌, ap, is_function_type}
use Rattle.cpp_references.proofs.Functions.{function_is}
use Rattle.cpp_references.proofs.candidates.is_function_type.Goals as goal

pub returns : goal.returns
returns c = c.is_function.ensures ∙ sym (ap is_function_type c.opened.ensures.tree ∙ function_is _ _ _ _ c.opened.result.node c.opened.ensures.own)
