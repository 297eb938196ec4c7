use Rattle.cpp_parts.proofs.Basics.{◌∙◌, sym, refl, arith, Some, None, fields_of, local_fields, plain_tree, table_of}
use Rattle.cpp_parts.proofs.Sorting.{is-instance, is-tagged, is-local, is-numbered, is-holder, is-abbreviation, first-is, second-is, parts-of, name-other, by-instance, by-tagged, by-local, by-holder, by-abbreviation, by-no-name}
use Rattle.cpp_parts.proofs.sorts.name_sort.Goals as goal

pub part-requires-clause-part : goal.part-requires-clause-part
unfolding fields_of local_fields
part-requires-clause-part c =
    let e = is-instance (plain_tree (table_of c.args.y.now) c.args.node) c.node-found.ensures.tree (sym c.node-found.ensures.fields.production ∙ c.if-found-eq-INSTANCE.true) in
    omega (arith, parts-of (plain_tree (table_of c.args.y.now) c.args.node) _ 2 e refl)

pub part-requires-then-found-eq-INSTANCE-clause-part : goal.part-requires-then-found-eq-INSTANCE-clause-part
unfolding fields_of local_fields
part-requires-then-found-eq-INSTANCE-clause-part c =
    let e = is-instance (plain_tree (table_of c.args.y.now) c.args.node) c.node-found.ensures.tree (sym c.node-found.ensures.fields.production ∙ c.if-found-eq-INSTANCE.true) in
    omega (arith, parts-of (plain_tree (table_of c.args.y.now) c.args.node) _ 2 e refl)

pub returns-then-found-eq-INSTANCE-clause-is : goal.returns-then-found-eq-INSTANCE-clause-is
returns-then-found-eq-INSTANCE-clause-is c =
    let e = is-instance (plain_tree (table_of c.args.y.now) c.args.node) c.node-found.ensures.tree (sym c.node-found.ensures.fields.production ∙ c.if-found-eq-INSTANCE.true) in
    λ tags. by-instance tags c.args.y.now (plain_tree (table_of c.args.y.now) c.args.node) _ _ _ _ e (first-is (plain_tree (table_of c.args.y.now) c.args.node) _ c.part.ensures.part) (second-is (plain_tree (table_of c.args.y.now) c.args.node) _ c.part-then-found-eq-INSTANCE.ensures.part)

pub part-requires-then-found-eq-TAGGED-clause-part : goal.part-requires-then-found-eq-TAGGED-clause-part
unfolding fields_of local_fields
part-requires-then-found-eq-TAGGED-clause-part c =
    let e = is-tagged (plain_tree (table_of c.args.y.now) c.args.node) c.node-found.ensures.tree (sym c.node-found.ensures.fields.production ∙ c.if-found-eq-TAGGED.true) in
    omega (arith, parts-of (plain_tree (table_of c.args.y.now) c.args.node) _ 1 e.2 refl)

pub returns-then-found-eq-TAGGED-clause-is : goal.returns-then-found-eq-TAGGED-clause-is
returns-then-found-eq-TAGGED-clause-is c =
    let e = is-tagged (plain_tree (table_of c.args.y.now) c.args.node) c.node-found.ensures.tree (sym c.node-found.ensures.fields.production ∙ c.if-found-eq-TAGGED.true) in
    λ tags. by-tagged tags c.args.y.now (plain_tree (table_of c.args.y.now) c.args.node) _ e.0 e.1 _ e.2 (first-is (plain_tree (table_of c.args.y.now) c.args.node) _ c.part-then-found-eq-TAGGED.ensures.part)

pub part-requires-then-found-eq-LOCAL-clause-part : goal.part-requires-then-found-eq-LOCAL-clause-part
unfolding fields_of local_fields
part-requires-then-found-eq-LOCAL-clause-part c =
    let e = is-local (plain_tree (table_of c.args.y.now) c.args.node) c.node-found.ensures.tree (sym c.node-found.ensures.fields.production ∙ c.if-found-eq-LOCAL.true) in
    omega (arith, parts-of (plain_tree (table_of c.args.y.now) c.args.node) _ 2 e refl)

pub returns-then-found-eq-LOCAL-clause-is : goal.returns-then-found-eq-LOCAL-clause-is
returns-then-found-eq-LOCAL-clause-is c =
    let e = is-local (plain_tree (table_of c.args.y.now) c.args.node) c.node-found.ensures.tree (sym c.node-found.ensures.fields.production ∙ c.if-found-eq-LOCAL.true) in
    λ tags. by-local tags c.args.y.now (plain_tree (table_of c.args.y.now) c.args.node) _ _ None _ _ e (second-is (plain_tree (table_of c.args.y.now) c.args.node) _ c.part-then-found-eq-LOCAL.ensures.part) c.entity_node.ensures.is

pub part-requires-then-found-eq-NUMBERED_LOCAL-clause-part : goal.part-requires-then-found-eq-NUMBERED_LOCAL-clause-part
unfolding fields_of local_fields
part-requires-then-found-eq-NUMBERED_LOCAL-clause-part c =
    let e = is-numbered (plain_tree (table_of c.args.y.now) c.args.node) c.node-found.ensures.tree (sym c.node-found.ensures.fields.production ∙ c.if-found-eq-NUMBERED_LOCAL.true) in
    omega (arith, parts-of (plain_tree (table_of c.args.y.now) c.args.node) _ 2 e.1 refl)

pub returns-then-found-eq-NUMBERED_LOCAL-clause-is : goal.returns-then-found-eq-NUMBERED_LOCAL-clause-is
returns-then-found-eq-NUMBERED_LOCAL-clause-is c =
    let e = is-numbered (plain_tree (table_of c.args.y.now) c.args.node) c.node-found.ensures.tree (sym c.node-found.ensures.fields.production ∙ c.if-found-eq-NUMBERED_LOCAL.true) in
    λ tags. by-local tags c.args.y.now (plain_tree (table_of c.args.y.now) c.args.node) _ _ (Some e.0) _ _ e.1 (second-is (plain_tree (table_of c.args.y.now) c.args.node) _ c.part-then-found-eq-NUMBERED_LOCAL.ensures.part) c.entity_node-then-found-eq-NUMBERED_LOCAL.ensures.is

pub part-requires-then-found-eq-HOLDER-clause-part : goal.part-requires-then-found-eq-HOLDER-clause-part
unfolding fields_of local_fields
part-requires-then-found-eq-HOLDER-clause-part c =
    let e = is-holder (plain_tree (table_of c.args.y.now) c.args.node) c.node-found.ensures.tree (sym c.node-found.ensures.fields.production ∙ c.if-found-eq-HOLDER.true) in
    omega (arith, parts-of (plain_tree (table_of c.args.y.now) c.args.node) _ 1 e refl)

pub returns-then-found-eq-HOLDER-clause-is : goal.returns-then-found-eq-HOLDER-clause-is
returns-then-found-eq-HOLDER-clause-is c =
    let e = is-holder (plain_tree (table_of c.args.y.now) c.args.node) c.node-found.ensures.tree (sym c.node-found.ensures.fields.production ∙ c.if-found-eq-HOLDER.true) in
    λ tags. by-holder tags c.args.y.now (plain_tree (table_of c.args.y.now) c.args.node) _ _ e (first-is (plain_tree (table_of c.args.y.now) c.args.node) _ c.part-then-found-eq-HOLDER.ensures.part)

pub returns-then-found-eq-ABBREVIATION-clause-is : goal.returns-then-found-eq-ABBREVIATION-clause-is
returns-then-found-eq-ABBREVIATION-clause-is c =
    let e = is-abbreviation (plain_tree (table_of c.args.y.now) c.args.node) c.node-found.ensures.tree (sym c.node-found.ensures.fields.production ∙ c.if-found-eq-ABBREVIATION.true) in
    λ tags. by-abbreviation tags c.args.y.now (plain_tree (table_of c.args.y.now) c.args.node) e.0 e.1

pub returns-clause-is : goal.returns-clause-is
returns-clause-is c k u =
    name-other k (plain_tree (table_of c.args.y.now) c.args.node) u (λ p. c.if-found-eq-INSTANCE.false (c.node-found.ensures.fields.production ∙ p)) (λ p. c.if-found-eq-TAGGED.false (c.node-found.ensures.fields.production ∙ p)) (λ p. c.if-found-eq-LOCAL.false (c.node-found.ensures.fields.production ∙ p)) (λ p. c.if-found-eq-NUMBERED_LOCAL.false (c.node-found.ensures.fields.production ∙ p)) (λ p. c.if-found-eq-HOLDER.false (c.node-found.ensures.fields.production ∙ p)) (λ p. c.if-found-eq-ABBREVIATION.false (c.node-found.ensures.fields.production ∙ p)) ∙ by-no-name k c.args.y.now u
