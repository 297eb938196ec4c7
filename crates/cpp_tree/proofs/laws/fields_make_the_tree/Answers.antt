use Rattle.cpp_tree.proofs.Rebuilding.{tree-made}
use Rattle.cpp_tree.proofs.laws.fields_make_the_tree.Goals as goal

pub returns : goal.returns
returns c one = tree-made one
