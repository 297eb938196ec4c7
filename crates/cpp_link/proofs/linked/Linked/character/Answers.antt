use Rattle.std.proofs.Common.{◌∙◌, ap}
use Rattle.cpp_term.specs.Term as term
use Rattle.cpp_tree.specs.Nodes.{tree_of, signed_of}
use Rattle.cpp_link.proofs.linked.Linked.character.Goals as goal

pub returns-clause-tree : goal.returns-clause-tree
unfolding tree_of
returns-clause-tree c = c.in_ok-number.ensures.tree ∙ ap (λ t. term.integer t (signed_of c.args.symbol.now c.args.value)) c.in_ok-ty.ensures.tree
