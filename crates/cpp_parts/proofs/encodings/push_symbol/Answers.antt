use Rattle.cpp_parts.proofs.Basics.{◌∙◌, sym, ap, refl, arith, on_ok_weaker, fields_of, plain_tree, table_of, symbol}
use Rattle.cpp_parts.proofs.Growing.{grow-same}
use Rattle.cpp_parts.proofs.Standing.{symbol-other}
use Rattle.cpp_parts.proofs.Sorting.{is-symbol, first-is, parts-of}
use Rattle.cpp_parts.proofs.encodings.push_symbol.Goals as goal

pub part-requires-clause-part : goal.part-requires-clause-part
unfolding fields_of
part-requires-clause-part c =
    let e = is-symbol (plain_tree (table_of c.args.y.now) c.args.node) c.node-found.ensures.tree (sym c.node-found.ensures.fields.production ∙ c.if-found-eq-SYMBOL.true) in
    omega (arith, parts-of (plain_tree (table_of c.args.y.now) c.args.node) _ 1 e.1 refl)

pub push_root-requires-clause-is : goal.push_root-requires-clause-is
push_root-requires-clause-is c =
    let e = is-symbol (plain_tree (table_of c.args.y.now) c.args.node) c.node-found.ensures.tree (sym c.node-found.ensures.fields.production ∙ c.if-found-eq-SYMBOL.true) in
    (e.0, e.1 ∙ ap (λ x. symbol x e.0) (first-is (plain_tree (table_of c.args.y.now) c.args.node) _ c.part.ensures.part))

pub returns-clause-grows : goal.returns-clause-grows
returns-clause-grows c =
    on_ok_weaker c.push_plain.result (λ g. grow-same c.args.y.now c.args.most _ _ _ _ _ _ g (symbol-other (plain_tree (table_of c.args.y.now) c.args.node) _ (λ p. c.if-found-eq-SYMBOL.false (c.node-found.ensures.fields.production ∙ p))) (omega arith)) c.push_plain.ensures.grows
