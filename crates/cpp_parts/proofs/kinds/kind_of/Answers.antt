use Rattle.cpp_parts.proofs.Basics.{◌∙◌, sym, ap, refl, arith, fields_of, plain_tree, table_of, kind_of_symbol}
use Rattle.cpp_parts.proofs.Sorting.{is-symbol, first-is, parts-of}
use Rattle.cpp_parts.proofs.Kinding.{symbol-kind, symbol-other}
use Rattle.cpp_parts.proofs.kinds.kind_of.Goals as goal

pub part-requires-clause-part : goal.part-requires-clause-part
unfolding fields_of
part-requires-clause-part c =
    let e = is-symbol (plain_tree (table_of c.args.y.now) c.root_node-root.result) c.node.ensures.tree (sym c.node.ensures.fields.production ∙ c.if-node-eq-SYMBOL.true) in
    omega (arith, parts-of (plain_tree (table_of c.args.y.now) c.root_node-root.result) _ 1 e.1 refl)

pub returns-then-node-eq-SYMBOL : goal.returns-then-node-eq-SYMBOL
returns-then-node-eq-SYMBOL c =
    let e = is-symbol (plain_tree (table_of c.args.y.now) c.root_node-root.result) c.node.ensures.tree (sym c.node.ensures.fields.production ∙ c.if-node-eq-SYMBOL.true) in
    c.encoding_kind.ensures
    ∙ sym (symbol-kind (plain_tree (table_of c.args.y.now) c.root_node-root.result) _ _ e.0 e.1 (first-is (plain_tree (table_of c.args.y.now) c.root_node-root.result) _ c.part.ensures.part))
    ∙ ap (λ n. kind_of_symbol (plain_tree (table_of c.args.y.now) n)) c.root_node-root.ensures.root

pub returns : goal.returns
returns c =
    sym (symbol-other (plain_tree (table_of c.args.y.now) c.root_node-root.result) (λ p. c.if-node-eq-SYMBOL.false (c.node.ensures.fields.production ∙ p)))
    ∙ ap (λ n. kind_of_symbol (plain_tree (table_of c.args.y.now) n)) c.root_node-root.ensures.root
