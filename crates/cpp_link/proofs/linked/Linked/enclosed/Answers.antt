use Rattle.cpp_link.proofs.Basics.{◌∙◌, arith, both}
use Rattle.cpp_term.specs.Term as term
use Rattle.cpp_tree.specs.Nodes.{tree_of}
use Rattle.cpp_link.proofs.linked.Linked.enclosed.Goals as goal

pub returns-clause-tree : goal.returns-clause-tree
unfolding tree_of
returns-clause-tree c =
    c.in_ok-number.ensures.tree
    ∙ both (λ t u. term.list t u) (c.in_ok-first.ensures.tree ∙ c.in_parentheses.ensures.is _ _ _ c.requires.place.table.no_tree) (c.in_ok-first.ensures.adds.grows.stays c.args.rest c.requires.rest)

pub add-requires-clause-below : goal.add-requires-clause-below
add-requires-clause-below c = c.in_parentheses.ensures.there _ _ _ (omega (arith, c.requires.place.table.fixed)) c.requires.first
