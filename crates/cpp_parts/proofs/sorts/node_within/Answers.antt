use Rattle.cpp_parts.proofs.Basics.{◌∙◌, sym, ap, refl, arith, Some, fields_of, local_fields, plain_tree, table_of, within}
use Rattle.cpp_parts.proofs.Sorting.{is-pack, is-expansion, first-is, parts-of, within-other}
use Rattle.cpp_parts.proofs.sorts.node_within.Goals as goal

pub part-requires-clause-part : goal.part-requires-clause-part
unfolding fields_of local_fields
part-requires-clause-part c =
    let e = is-pack (plain_tree (table_of c.args.y.now) c.args.node) c.node-found.ensures.tree (sym c.node-found.ensures.fields.production ∙ c.if-found-eq-PACK.true) in
    omega (arith, parts-of (plain_tree (table_of c.args.y.now) c.args.node) _ 1 e refl)

pub returns-then-found-eq-PACK-clause-is : goal.returns-then-found-eq-PACK-clause-is
unfolding within
returns-then-found-eq-PACK-clause-is c =
    let e = is-pack (plain_tree (table_of c.args.y.now) c.args.node) c.node-found.ensures.tree (sym c.node-found.ensures.fields.production ∙ c.if-found-eq-PACK.true) in
    ap within e ∙ ap (λ t. Some t) (first-is (plain_tree (table_of c.args.y.now) c.args.node) _ c.part.ensures.part)

pub part-requires-then-found-eq-EXPANSION-clause-part : goal.part-requires-then-found-eq-EXPANSION-clause-part
unfolding fields_of local_fields
part-requires-then-found-eq-EXPANSION-clause-part c =
    let e = is-expansion (plain_tree (table_of c.args.y.now) c.args.node) c.node-found.ensures.tree (sym c.node-found.ensures.fields.production ∙ c.if-found-eq-EXPANSION.true) in
    omega (arith, parts-of (plain_tree (table_of c.args.y.now) c.args.node) _ 1 e refl)

pub returns-then-found-eq-EXPANSION-clause-is : goal.returns-then-found-eq-EXPANSION-clause-is
unfolding within
returns-then-found-eq-EXPANSION-clause-is c =
    let e = is-expansion (plain_tree (table_of c.args.y.now) c.args.node) c.node-found.ensures.tree (sym c.node-found.ensures.fields.production ∙ c.if-found-eq-EXPANSION.true) in
    ap within e ∙ ap (λ t. Some t) (first-is (plain_tree (table_of c.args.y.now) c.args.node) _ c.part-then-found-eq-EXPANSION.ensures.part)

pub returns-clause-is : goal.returns-clause-is
returns-clause-is c = within-other (plain_tree (table_of c.args.y.now) c.args.node) (λ p. c.if-found-eq-PACK.false (c.node-found.ensures.fields.production ∙ p)) (λ p. c.if-found-eq-EXPANSION.false (c.node-found.ensures.fields.production ∙ p))
