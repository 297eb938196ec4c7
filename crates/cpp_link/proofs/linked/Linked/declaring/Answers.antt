use Rattle.cpp_link.proofs.Basics.{◌∙◌, both}
use Rattle.cpp_term.specs.Term as term
use Rattle.cpp_tree.specs.Nodes.{tree_of}
use Rattle.cpp_link.proofs.linked.Linked.declaring.Goals as goal

pub returns-clause-tree : goal.returns-clause-tree
unfolding tree_of
returns-clause-tree c =
    c.in_ok-number.ensures.tree
    ∙ both (λ t u. term.declaring t u) (c.in_ok-parameters.ensures.adds.grows.stays c.args.heads c.requires.heads) c.in_ok-parameters.ensures.tree
