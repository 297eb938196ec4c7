use Rattle.cpp_link.proofs.Basics.{sym, ◌∙◌, ap, true, false, nil, tree_at, trees_in, parameters_by}
use Rattle.cpp_link.proofs.linked.Linked.parameters.Goals as goal

pub returns-in_default-clause-is : goal.returns-in_default-clause-is
unfolding parameters_by
returns-in_default-clause-is c = sym c.in_default.ensures.parameters

pub returns-then-is_lone_void-clause-is : goal.returns-then-is_lone_void-clause-is
unfolding parameters_by
returns-then-is_lone_void-clause-is c =
    let t = tree_at (trees_in c.args.symbol.now c.args.self.now.nodes) c.args.list in
    c.requires.table.no_list ∙ sym (c.in-Some.ensures.parameters ∙ ap (λ b. elim b [ true ↦ nil | false ↦ t ]) (sym c.if-is_lone_void.ensures))

pub returns-clause-is : goal.returns-clause-is
unfolding parameters_by
returns-clause-is c =
    let t = tree_at (trees_in c.args.symbol.now c.args.self.now.nodes) c.args.list in
    sym (c.in-Some.ensures.parameters ∙ ap (λ b. elim b [ true ↦ nil | false ↦ t ]) (sym c.if-is_lone_void.ensures))
