use Rattle.cpp_parts.proofs.Basics.{◌∙◌, sym, ap, refl, arith, get_or, fields_of, name_fields, plain_tree, table_of, is_call, is_lambda, called_kind, piece_kind_by}
use Rattle.cpp_parts.proofs.Sorting.{first-is, parts-of}
use Rattle.cpp_parts.proofs.Kinding.{is-nested-operator, named-operator, named-other}
use Rattle.cpp_parts.proofs.kinds.named_kind.Goals as goal

pub part-requires-clause-part : goal.part-requires-clause-part
unfolding fields_of name_fields
part-requires-clause-part c =
    let e = is-nested-operator (plain_tree (table_of c.args.y.now) c.args.node) c.node-found.ensures.tree (sym c.node-found.ensures.fields.production ∙ c.if-found-eq-NESTED_OPERATOR.true) in
    omega (arith, parts-of (plain_tree (table_of c.args.y.now) c.args.node) _ 1 e refl)

pub returns-then-found-eq-NESTED_OPERATOR : goal.returns-then-found-eq-NESTED_OPERATOR
returns-then-found-eq-NESTED_OPERATOR c =
    let p = plain_tree (table_of c.args.y.now) c.part.result in
    c.called_kind.ensures
    ∙ ap (λ b. called_kind b c.is_call.result) c.is_lambda-in_lambda.ensures
    ∙ ap (called_kind (is_lambda p)) (c.is_call.ensures ∙ ap (λ ns. is_call (get_or ns 0 0) (get_or ns 1 0)) c.node-found.ensures.fields.numbers)
    ∙ sym (named-operator (plain_tree (table_of c.args.y.now) c.args.node) p c.node-found.ensures.tree (sym c.node-found.ensures.fields.production ∙ c.if-found-eq-NESTED_OPERATOR.true) (first-is (plain_tree (table_of c.args.y.now) c.args.node) _ c.part.ensures.part))

pub returns : goal.returns
returns c =
    c.piece_kind.ensures
    ∙ ap piece_kind_by c.node-found.ensures.fields.production
    ∙ sym (named-other (plain_tree (table_of c.args.y.now) c.args.node) (λ p. c.if-found-eq-NESTED_OPERATOR.false (c.node-found.ensures.fields.production ∙ p)))
