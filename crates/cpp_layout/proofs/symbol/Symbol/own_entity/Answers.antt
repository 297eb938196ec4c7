use Rattle.cpp_layout.proofs.Basics.{ap, sym, ◌∙◌, entity_of, tree_of, reargued}
use Rattle.cpp_layout.proofs.Naming.{entity-other}
use Rattle.cpp_layout.proofs.symbol.Symbol.own_entity.Goals as goal

pub returns-in-OfDefault-clause-tree : goal.returns-in-OfDefault-clause-tree
unfolding tree_of entity_of reargued
returns-in-OfDefault-clause-tree c = sym (ap entity_of c.in-OfDefault.ensures.tree) ∙ ap entity_of c.place-place.ensures.tree

pub returns-in_default-clause-tree : goal.returns-in_default-clause-tree
returns-in_default-clause-tree c = entity-other _ _ _ _ c.stored.result c.stored.ensures.own _ c.stored.ensures.tree c.in_default.not-OfDefault ∙ ap entity_of c.place-place.ensures.tree
