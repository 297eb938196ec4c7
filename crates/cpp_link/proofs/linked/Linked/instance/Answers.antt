use Rattle.cpp_link.proofs.Basics.{◌∙◌, both}
use Rattle.cpp_term.specs.Term as term
use Rattle.cpp_tree.specs.Nodes.{tree_of}
use Rattle.cpp_link.proofs.linked.Linked.instance.Goals as goal

pub returns-clause-tree : goal.returns-clause-tree
unfolding tree_of
returns-clause-tree c =
    c.in_ok-number.ensures.tree
    ∙ both (λ t u. term.instance t u) c.in_ok-template.ensures.tree (c.in_ok-template.ensures.adds.grows.stays c.args.arguments c.requires.arguments)
