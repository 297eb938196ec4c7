use Rattle.cpp_parts.proofs.Basics.{◌∙◌, sym, ap, refl, arith, fields_of, plain_tree, table_of, entity_of}
use Rattle.cpp_parts.proofs.Sorting.{is-of_default, first-is, parts-of, entity-other}
use Rattle.cpp_parts.proofs.sorts.entity_node.Goals as goal

pub part-requires-clause-part : goal.part-requires-clause-part
unfolding fields_of
part-requires-clause-part c =
    let e = is-of_default (plain_tree (table_of c.args.y.now) c.args.entity) c.node.ensures.tree (sym c.node.ensures.fields.production ∙ c.if-node-eq-OF_DEFAULT.true) in
    omega (arith, parts-of (plain_tree (table_of c.args.y.now) c.args.entity) _ 1 e.1 refl)

pub returns-then-node-eq-OF_DEFAULT-clause-is : goal.returns-then-node-eq-OF_DEFAULT-clause-is
unfolding entity_of
returns-then-node-eq-OF_DEFAULT-clause-is c =
    let e = is-of_default (plain_tree (table_of c.args.y.now) c.args.entity) c.node.ensures.tree (sym c.node.ensures.fields.production ∙ c.if-node-eq-OF_DEFAULT.true) in
    sym (ap entity_of e.1 ∙ first-is (plain_tree (table_of c.args.y.now) c.args.entity) _ c.part.ensures.part)

pub returns-clause-is : goal.returns-clause-is
returns-clause-is c = sym (entity-other (plain_tree (table_of c.args.y.now) c.args.entity) (λ p. c.if-node-eq-OF_DEFAULT.false (c.node.ensures.fields.production ∙ p)))
