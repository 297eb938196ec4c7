use Rattle.cpp_link.proofs.Basics.{sym, ◌∙◌, ap, true, false, by_gcc, appended_by, State, tree_of, trees_in, value_in, with_candidate}
use Rattle.cpp_link.proofs.Inherited.{counted_alone}
use Rattle.cpp_link.proofs.linked.Linked.base_to_count.Goals as goal

pub returns-then-is_listed-clause-is : goal.returns-then-is_listed-clause-is
unfolding with_candidate
returns-then-is_listed-clause-is c around state =
    let s = c.args.symbol.now in
    let y = c.args.self.now.nodes in
    counted_alone s (trees_in s y) around c.args.base state c.in_default.not-Pair
    ∙ ap (λ b. elim b as (λ _. State) [ true ↦ state | false ↦ appended_by by_gcc around (tree_of (value_in s y c.args.base)) state ]) (sym (c.is_listed.ensures s (trees_in s y)) ∙ c.if-is_listed.true)

pub returns-else-is_listed-clause-is : goal.returns-else-is_listed-clause-is
unfolding with_candidate
returns-else-is_listed-clause-is c around state =
    let s = c.args.symbol.now in
    let y = c.args.self.now.nodes in
    counted_alone s (trees_in s y) around c.args.base state c.in_default.not-Pair
    ∙ ap (λ b. elim b as (λ _. State) [ true ↦ state | false ↦ appended_by by_gcc around (tree_of (value_in s y c.args.base)) state ]) (sym (c.is_listed.ensures s (trees_in s y)) ∙ c.if-is_listed.false)
    ∙ ap (λ t. appended_by by_gcc around t state) (sym c.node.ensures.is)
