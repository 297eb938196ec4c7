use Rattle.cpp_parts.proofs.Basics.{◌∙◌, sym, ap, refl, arith, get_or, fields_of, plain_tree, table_of, named_kind, other_kind_by}
use Rattle.cpp_parts.proofs.Sorting.{is-function, is-object, first-is, parts-of}
use Rattle.cpp_parts.proofs.Kinding.{encoding-function, encoding-object, encoding-other}
use Rattle.cpp_parts.proofs.kinds.encoding_kind.Goals as goal

pub part-requires-clause-part : goal.part-requires-clause-part
unfolding fields_of
part-requires-clause-part c =
    let e = is-function (plain_tree (table_of c.args.y.now) c.args.node) c.node-found.ensures.tree (sym c.node-found.ensures.fields.production ∙ c.if-found-eq-FUNCTION.true) in
    omega (arith, parts-of (plain_tree (table_of c.args.y.now) c.args.node) _ 3 e.2 refl)

pub returns-then-found-eq-FUNCTION : goal.returns-then-found-eq-FUNCTION
returns-then-found-eq-FUNCTION c =
    let e = is-function (plain_tree (table_of c.args.y.now) c.args.node) c.node-found.ensures.tree (sym c.node-found.ensures.fields.production ∙ c.if-found-eq-FUNCTION.true) in
    c.named_kind.ensures
    ∙ ap named_kind c.own_node.ensures.is
    ∙ sym (encoding-function (plain_tree (table_of c.args.y.now) c.args.node) _ _ _ _ e.0 e.1 e.2 (first-is (plain_tree (table_of c.args.y.now) c.args.node) _ c.part.ensures.part))

pub part-requires-then-found-eq-OBJECT-clause-part : goal.part-requires-then-found-eq-OBJECT-clause-part
unfolding fields_of
part-requires-then-found-eq-OBJECT-clause-part c =
    let e = is-object (plain_tree (table_of c.args.y.now) c.args.node) c.node-found.ensures.tree (sym c.node-found.ensures.fields.production ∙ c.if-found-eq-OBJECT.true) in
    omega (arith, parts-of (plain_tree (table_of c.args.y.now) c.args.node) _ 1 e.2 refl)

pub returns-then-found-eq-OBJECT : goal.returns-then-found-eq-OBJECT
returns-then-found-eq-OBJECT c =
    let e = is-object (plain_tree (table_of c.args.y.now) c.args.node) c.node-found.ensures.tree (sym c.node-found.ensures.fields.production ∙ c.if-found-eq-OBJECT.true) in
    c.object_kind.ensures
    ∙ sym (encoding-object (plain_tree (table_of c.args.y.now) c.args.node) _ _ e.0 e.1 e.2 (first-is (plain_tree (table_of c.args.y.now) c.args.node) _ c.part-then-found-eq-OBJECT.ensures.part))

pub returns : goal.returns
returns c =
    c.other_kind.ensures
    ∙ ap (λ n. other_kind_by n (get_or c.node-found.result.numbers 0 0)) c.node-found.ensures.fields.production
    ∙ ap (λ ns. other_kind_by (fields_of (plain_tree (table_of c.args.y.now) c.args.node)).production (get_or ns 0 0)) c.node-found.ensures.fields.numbers
    ∙ sym (encoding-other (plain_tree (table_of c.args.y.now) c.args.node) (λ p. c.if-found-eq-FUNCTION.false (c.node-found.ensures.fields.production ∙ p)) (λ p. c.if-found-eq-OBJECT.false (c.node-found.ensures.fields.production ∙ p)))
