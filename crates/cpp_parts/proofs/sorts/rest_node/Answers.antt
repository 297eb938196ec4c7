use Rattle.cpp_parts.proofs.Basics.{◌∙◌, sym, ap, refl, arith, fields_of, plain_tree, table_of, rest_of}
use Rattle.cpp_parts.proofs.Sorting.{is-list, second-is, parts-of, rest-other}
use Rattle.cpp_parts.proofs.sorts.rest_node.Goals as goal

pub part-requires-clause-part : goal.part-requires-clause-part
unfolding fields_of
part-requires-clause-part c =
    let e = is-list (plain_tree (table_of c.args.y.now) c.args.node) c.node.ensures.tree (sym c.node.ensures.fields.production ∙ c.if-node-eq-LIST.true) in
    omega (arith, parts-of (plain_tree (table_of c.args.y.now) c.args.node) _ 2 e refl)

pub returns-then-node-eq-LIST-clause-is : goal.returns-then-node-eq-LIST-clause-is
unfolding rest_of
returns-then-node-eq-LIST-clause-is c =
    let e = is-list (plain_tree (table_of c.args.y.now) c.args.node) c.node.ensures.tree (sym c.node.ensures.fields.production ∙ c.if-node-eq-LIST.true) in
    sym (ap rest_of e ∙ second-is (plain_tree (table_of c.args.y.now) c.args.node) _ c.part.ensures.part)

pub returns-clause-is : goal.returns-clause-is
returns-clause-is c = sym (rest-other (plain_tree (table_of c.args.y.now) c.args.node) (λ p. c.if-node-eq-LIST.false (c.node.ensures.fields.production ∙ p)))
