use Rattle.cpp_parts.proofs.Basics.{◌∙◌, sym, ap, refl, arith, None, Some, fields_of, local_fields, plain_tree, table_of, local_kind}
use Rattle.cpp_parts.proofs.Sorting.{is-local, is-numbered, second-is, parts-of}
use Rattle.cpp_parts.proofs.Kinding.{object-local, object-other}
use Rattle.cpp_parts.proofs.kinds.object_kind.Goals as goal

pub part-requires-clause-part : goal.part-requires-clause-part
unfolding fields_of local_fields
part-requires-clause-part c =
    let e = is-local (plain_tree (table_of c.args.y.now) c.args.node) c.node-found.ensures.tree (sym c.node-found.ensures.fields.production ∙ c.if-found-eq-LOCAL.true) in
    omega (arith, parts-of (plain_tree (table_of c.args.y.now) c.args.node) _ 2 e refl)

pub returns-then-found-eq-LOCAL : goal.returns-then-found-eq-LOCAL
returns-then-found-eq-LOCAL c =
    let e = is-local (plain_tree (table_of c.args.y.now) c.args.node) c.node-found.ensures.tree (sym c.node-found.ensures.fields.production ∙ c.if-found-eq-LOCAL.true) in
    c.local_kind.ensures
    ∙ ap local_kind c.is_string_name.ensures
    ∙ sym (object-local (plain_tree (table_of c.args.y.now) c.args.node) _ _ _ None e (second-is (plain_tree (table_of c.args.y.now) c.args.node) _ c.part.ensures.part))

pub part-requires-then-found-eq-NUMBERED_LOCAL-clause-part : goal.part-requires-then-found-eq-NUMBERED_LOCAL-clause-part
unfolding fields_of local_fields
part-requires-then-found-eq-NUMBERED_LOCAL-clause-part c =
    let e = is-numbered (plain_tree (table_of c.args.y.now) c.args.node) c.node-found.ensures.tree (sym c.node-found.ensures.fields.production ∙ c.if-found-eq-NUMBERED_LOCAL.true) in
    omega (arith, parts-of (plain_tree (table_of c.args.y.now) c.args.node) _ 2 e.1 refl)

pub returns-then-found-eq-NUMBERED_LOCAL : goal.returns-then-found-eq-NUMBERED_LOCAL
returns-then-found-eq-NUMBERED_LOCAL c =
    let e = is-numbered (plain_tree (table_of c.args.y.now) c.args.node) c.node-found.ensures.tree (sym c.node-found.ensures.fields.production ∙ c.if-found-eq-NUMBERED_LOCAL.true) in
    c.local_kind-then-found-eq-NUMBERED_LOCAL.ensures
    ∙ ap local_kind c.is_string_name-then-found-eq-NUMBERED_LOCAL.ensures
    ∙ sym (object-local (plain_tree (table_of c.args.y.now) c.args.node) _ _ _ (Some e.0) e.1 (second-is (plain_tree (table_of c.args.y.now) c.args.node) _ c.part-then-found-eq-NUMBERED_LOCAL.ensures.part))

pub returns : goal.returns
returns c =
    sym (object-other (plain_tree (table_of c.args.y.now) c.args.node) (λ p. c.if-found-eq-LOCAL.false (c.node-found.ensures.fields.production ∙ p)) (λ p. c.if-found-eq-NUMBERED_LOCAL.false (c.node-found.ensures.fields.production ∙ p)))
