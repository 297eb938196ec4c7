use Rattle.cpp_link.proofs.Basics.{sym, ◌∙◌, ap, true, Value, part, has_return_type, encoding_of, trees_in, values_in, outcome_value}
use Rattle.cpp_term.specs.Values as values
use Rattle.cpp_tree.specs.Nodes.{tree_of}
use Rattle.cpp_link.proofs.Reading.{made_object, made_function, made_procedure}
use Rattle.cpp_link.proofs.linked.Linked.encoding.Goals as goal

pub returns-in_default-clause-is : goal.returns-in_default-clause-is
unfolding outcome_value tree_of
returns-in_default-clause-is c =
    let ts = trees_in c.args.symbol.now c.args.self.now.nodes in
    let v : Value = part (values_in c.args.symbol.now c.args.self.now.nodes c.args.parts.now) 0 in
    ap (λ t. values.tree t true) (made_object ts v _ _ _ _ c.tree-name.ensures.is c.qualifiers-qualifiers.ensures c.reference-mark.ensures (c.in_default.ensures.encoding v)
    ∙ ap (λ t. encoding_of v t) c.list-list.ensures.is)

pub returns-then-returns-clause-is : goal.returns-then-returns-clause-is
unfolding outcome_value tree_of
returns-then-returns-clause-is c =
    let ts = trees_in c.args.symbol.now c.args.self.now.nodes in
    let v : Value = part (values_in c.args.symbol.now c.args.self.now.nodes c.args.parts.now) 0 in
    ap (λ t. values.tree t true) (made_function ts v _ _ _ _ _ c.in-Some.items c.under_word.result c.tree-name.ensures.is c.qualifiers-qualifiers.ensures c.reference-mark.ensures (c.in-Some.ensures.encoding v)
    (ap has_return_type (sym c.tree-name.ensures.is) ∙ sym c.if-returns.ensures) c.parameters.ensures.is c.under_word.ensures ∙ ap (λ t. encoding_of v t) c.list-list.ensures.is)

pub returns-clause-is : goal.returns-clause-is
unfolding outcome_value tree_of
returns-clause-is c =
    let ts = trees_in c.args.symbol.now c.args.self.now.nodes in
    let v : Value = part (values_in c.args.symbol.now c.args.self.now.nodes c.args.parts.now) 0 in
    ap (λ t. values.tree t true) (made_procedure ts v _ _ _ _ _ _ c.in-Some.items c.under_word-2.result c.tree-name.ensures.is c.qualifiers-qualifiers.ensures c.reference-mark.ensures (c.in-Some.ensures.encoding v)
    (ap has_return_type (sym c.tree-name.ensures.is) ∙ sym c.if-returns.ensures) c.parameters-2.ensures.is c.requires.table.no_tree c.under_word-2.ensures ∙ ap (λ t. encoding_of v t) c.list-list.ensures.is)
