use Rattle.cpp_tree.proofs.FreeParameters.{open-free}
use Rattle.cpp_tree.proofs.laws.open_trees_have_free_parameters.Goals as goal

pub returns : goal.returns
returns c t = open-free t
