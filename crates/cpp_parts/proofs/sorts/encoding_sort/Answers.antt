use Rattle.cpp_parts.proofs.Basics.{◌∙◌, sym, ap, refl, arith, fields_of, local_fields, plain_tree, table_of, is_absent}
use Rattle.cpp_parts.proofs.Sorting.{is-function, is-object, is-thunk, is-table_thunk, is-covariant_thunk, is-wide_thunk, is-clone, first-is, second-is, third-is, parts-of, thunk-parts, encoding-other, by-function, by-object, by-thunk, by-clone, by-no-encoding}
use Rattle.cpp_parts.proofs.sorts.encoding_sort.Goals as goal

pub part-requires-clause-part : goal.part-requires-clause-part
unfolding fields_of local_fields
part-requires-clause-part c =
    let e = is-function (plain_tree (table_of c.args.y.now) c.args.node) c.node-found.ensures.tree (sym c.node-found.ensures.fields.production ∙ c.if-found-eq-FUNCTION.true) in
    omega (arith, parts-of (plain_tree (table_of c.args.y.now) c.args.node) _ 3 e.2 refl)

pub part-requires-then-found-eq-FUNCTION-2-clause-part : goal.part-requires-then-found-eq-FUNCTION-2-clause-part
unfolding fields_of local_fields
part-requires-then-found-eq-FUNCTION-2-clause-part c =
    let e = is-function (plain_tree (table_of c.args.y.now) c.args.node) c.node-found.ensures.tree (sym c.node-found.ensures.fields.production ∙ c.if-found-eq-FUNCTION.true) in
    omega (arith, parts-of (plain_tree (table_of c.args.y.now) c.args.node) _ 3 e.2 refl)

pub returns-then-found-eq-FUNCTION-clause-is : goal.returns-then-found-eq-FUNCTION-clause-is
returns-then-found-eq-FUNCTION-clause-is c =
    let e = is-function (plain_tree (table_of c.args.y.now) c.args.node) c.node-found.ensures.tree (sym c.node-found.ensures.fields.production ∙ c.if-found-eq-FUNCTION.true) in
    λ specials. by-function specials c.args.y.now (plain_tree (table_of c.args.y.now) c.args.node) _ _ _ e.0 e.1 _ _ _ e.2 (first-is (plain_tree (table_of c.args.y.now) c.args.node) _ c.part-then-found-eq-FUNCTION.ensures.part) (third-is (plain_tree (table_of c.args.y.now) c.args.node) _ c.part-then-found-eq-FUNCTION-2.ensures.part) (ap is_absent (second-is (plain_tree (table_of c.args.y.now) c.args.node) _ c.part.ensures.part) ∙ sym c.returns_nothing-nothing.ensures)

pub part-requires-then-found-eq-OBJECT-clause-part : goal.part-requires-then-found-eq-OBJECT-clause-part
unfolding fields_of local_fields
part-requires-then-found-eq-OBJECT-clause-part c =
    let e = is-object (plain_tree (table_of c.args.y.now) c.args.node) c.node-found.ensures.tree (sym c.node-found.ensures.fields.production ∙ c.if-found-eq-OBJECT.true) in
    omega (arith, parts-of (plain_tree (table_of c.args.y.now) c.args.node) _ 1 e.2 refl)

pub returns-then-found-eq-OBJECT-clause-is : goal.returns-then-found-eq-OBJECT-clause-is
returns-then-found-eq-OBJECT-clause-is c =
    let e = is-object (plain_tree (table_of c.args.y.now) c.args.node) c.node-found.ensures.tree (sym c.node-found.ensures.fields.production ∙ c.if-found-eq-OBJECT.true) in
    λ specials. by-object specials c.args.y.now (plain_tree (table_of c.args.y.now) c.args.node) _ e.0 e.1 _ e.2 (first-is (plain_tree (table_of c.args.y.now) c.args.node) _ c.part-then-found-eq-OBJECT.ensures.part)

pub part-requires-then-found-eq-THUNK-clause-part : goal.part-requires-then-found-eq-THUNK-clause-part
part-requires-then-found-eq-THUNK-clause-part c =
    let e = is-thunk (plain_tree (table_of c.args.y.now) c.args.node) c.node-found.ensures.tree (sym c.node-found.ensures.fields.production ∙ c.if-found-eq-THUNK.true) in
    omega (arith, thunk-parts (plain_tree (table_of c.args.y.now) c.args.node) _ e.0 e.1)

pub returns-then-found-eq-THUNK-clause-is : goal.returns-then-found-eq-THUNK-clause-is
returns-then-found-eq-THUNK-clause-is c =
    let e = is-thunk (plain_tree (table_of c.args.y.now) c.args.node) c.node-found.ensures.tree (sym c.node-found.ensures.fields.production ∙ c.if-found-eq-THUNK.true) in
    λ specials. by-thunk specials c.args.y.now (plain_tree (table_of c.args.y.now) c.args.node) _ e.0 _ e.1 (first-is (plain_tree (table_of c.args.y.now) c.args.node) _ c.part-then-found-eq-THUNK.ensures.part)

pub part-requires-then-found-eq-TABLE_THUNK-clause-part : goal.part-requires-then-found-eq-TABLE_THUNK-clause-part
part-requires-then-found-eq-TABLE_THUNK-clause-part c =
    let e = is-table_thunk (plain_tree (table_of c.args.y.now) c.args.node) c.node-found.ensures.tree (sym c.node-found.ensures.fields.production ∙ c.if-found-eq-TABLE_THUNK.true) in
    omega (arith, thunk-parts (plain_tree (table_of c.args.y.now) c.args.node) _ e.0 e.1)

pub returns-then-found-eq-TABLE_THUNK-clause-is : goal.returns-then-found-eq-TABLE_THUNK-clause-is
returns-then-found-eq-TABLE_THUNK-clause-is c =
    let e = is-table_thunk (plain_tree (table_of c.args.y.now) c.args.node) c.node-found.ensures.tree (sym c.node-found.ensures.fields.production ∙ c.if-found-eq-TABLE_THUNK.true) in
    λ specials. by-thunk specials c.args.y.now (plain_tree (table_of c.args.y.now) c.args.node) _ e.0 _ e.1 (first-is (plain_tree (table_of c.args.y.now) c.args.node) _ c.part-then-found-eq-TABLE_THUNK.ensures.part)

pub part-requires-then-found-eq-COVARIANT_THUNK-clause-part : goal.part-requires-then-found-eq-COVARIANT_THUNK-clause-part
part-requires-then-found-eq-COVARIANT_THUNK-clause-part c =
    let e = is-covariant_thunk (plain_tree (table_of c.args.y.now) c.args.node) c.node-found.ensures.tree (sym c.node-found.ensures.fields.production ∙ c.if-found-eq-COVARIANT_THUNK.true) in
    omega (arith, thunk-parts (plain_tree (table_of c.args.y.now) c.args.node) _ e.0 e.1)

pub returns-then-found-eq-COVARIANT_THUNK-clause-is : goal.returns-then-found-eq-COVARIANT_THUNK-clause-is
returns-then-found-eq-COVARIANT_THUNK-clause-is c =
    let e = is-covariant_thunk (plain_tree (table_of c.args.y.now) c.args.node) c.node-found.ensures.tree (sym c.node-found.ensures.fields.production ∙ c.if-found-eq-COVARIANT_THUNK.true) in
    λ specials. by-thunk specials c.args.y.now (plain_tree (table_of c.args.y.now) c.args.node) _ e.0 _ e.1 (first-is (plain_tree (table_of c.args.y.now) c.args.node) _ c.part-then-found-eq-COVARIANT_THUNK.ensures.part)

pub part-requires-then-found-eq-WIDE_THUNK-clause-part : goal.part-requires-then-found-eq-WIDE_THUNK-clause-part
part-requires-then-found-eq-WIDE_THUNK-clause-part c =
    let e = is-wide_thunk (plain_tree (table_of c.args.y.now) c.args.node) c.node-found.ensures.tree (sym c.node-found.ensures.fields.production ∙ c.if-found-eq-WIDE_THUNK.true) in
    omega (arith, thunk-parts (plain_tree (table_of c.args.y.now) c.args.node) _ e.0 e.1)

pub returns-then-found-eq-WIDE_THUNK-clause-is : goal.returns-then-found-eq-WIDE_THUNK-clause-is
returns-then-found-eq-WIDE_THUNK-clause-is c =
    let e = is-wide_thunk (plain_tree (table_of c.args.y.now) c.args.node) c.node-found.ensures.tree (sym c.node-found.ensures.fields.production ∙ c.if-found-eq-WIDE_THUNK.true) in
    λ specials. by-thunk specials c.args.y.now (plain_tree (table_of c.args.y.now) c.args.node) _ e.0 _ e.1 (first-is (plain_tree (table_of c.args.y.now) c.args.node) _ c.part-then-found-eq-WIDE_THUNK.ensures.part)

pub part-requires-then-found-eq-CLONE-clause-part : goal.part-requires-then-found-eq-CLONE-clause-part
unfolding fields_of local_fields
part-requires-then-found-eq-CLONE-clause-part c =
    let e = is-clone (plain_tree (table_of c.args.y.now) c.args.node) c.node-found.ensures.tree (sym c.node-found.ensures.fields.production ∙ c.if-found-eq-CLONE.true) in
    omega (arith, parts-of (plain_tree (table_of c.args.y.now) c.args.node) _ 1 e.1 refl)

pub returns-then-found-eq-CLONE-clause-is : goal.returns-then-found-eq-CLONE-clause-is
returns-then-found-eq-CLONE-clause-is c =
    let e = is-clone (plain_tree (table_of c.args.y.now) c.args.node) c.node-found.ensures.tree (sym c.node-found.ensures.fields.production ∙ c.if-found-eq-CLONE.true) in
    λ specials. by-clone specials c.args.y.now (plain_tree (table_of c.args.y.now) c.args.node) _ e.0 _ e.1 (first-is (plain_tree (table_of c.args.y.now) c.args.node) _ c.part-then-found-eq-CLONE.ensures.part)

pub returns-clause-is : goal.returns-clause-is
returns-clause-is c k u =
    encoding-other k (plain_tree (table_of c.args.y.now) c.args.node) u (λ p. c.if-found-eq-FUNCTION.false (c.node-found.ensures.fields.production ∙ p)) (λ p. c.if-found-eq-OBJECT.false (c.node-found.ensures.fields.production ∙ p)) (λ p. c.if-found-eq-THUNK.false (c.node-found.ensures.fields.production ∙ p)) (λ p. c.if-found-eq-TABLE_THUNK.false (c.node-found.ensures.fields.production ∙ p)) (λ p. c.if-found-eq-COVARIANT_THUNK.false (c.node-found.ensures.fields.production ∙ p)) (λ p. c.if-found-eq-WIDE_THUNK.false (c.node-found.ensures.fields.production ∙ p)) (λ p. c.if-found-eq-CLONE.false (c.node-found.ensures.fields.production ∙ p)) ∙ by-no-encoding k c.args.y.now u
