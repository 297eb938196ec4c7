use Rattle.cpp_parts.proofs.Basics.{◌∙◌, sym, ap, refl, arith, fields_of, plain_tree, table_of, element_of}
use Rattle.cpp_parts.proofs.Sorting.{is-list, first-is, parts-of, element-other}
use Rattle.cpp_parts.proofs.sorts.element_node.Goals as goal

pub part-requires-clause-part : goal.part-requires-clause-part
unfolding fields_of
part-requires-clause-part c =
    let e = is-list (plain_tree (table_of c.args.y.now) c.args.node) c.node.ensures.tree (sym c.node.ensures.fields.production ∙ c.if-node-eq-LIST.true) in
    omega (arith, parts-of (plain_tree (table_of c.args.y.now) c.args.node) _ 2 e refl)

pub returns-then-node-eq-LIST-clause-is : goal.returns-then-node-eq-LIST-clause-is
unfolding element_of
returns-then-node-eq-LIST-clause-is c =
    let e = is-list (plain_tree (table_of c.args.y.now) c.args.node) c.node.ensures.tree (sym c.node.ensures.fields.production ∙ c.if-node-eq-LIST.true) in
    sym (ap element_of e ∙ first-is (plain_tree (table_of c.args.y.now) c.args.node) _ c.part.ensures.part)

pub returns-clause-is : goal.returns-clause-is
returns-clause-is c = sym (element-other (plain_tree (table_of c.args.y.now) c.args.node) (λ p. c.if-node-eq-LIST.false (c.node.ensures.fields.production ∙ p)))
