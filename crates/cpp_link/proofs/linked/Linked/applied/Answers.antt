use Rattle.cpp_link.proofs.Basics.{sym, ◌∙◌, ap, arith, part, tree_of, is_there, nodes_of_outcome, name_at_end, one_if_arguments, one_if_there, trees_in, values_in, value_of, outcome_value}
use Rattle.cpp_tree.specs.Nodes as nodes
use Rattle.cpp_link.proofs.Places.{are_arguments, nothing_behind, name_behind, arguments_behind, there_closes}
use Rattle.cpp_link.proofs.linked.Linked.applied.Goals as goal

pub returns-in-Nothing-clause-is : goal.returns-in-Nothing-clause-is
unfolding outcome_value
returns-in-Nothing-clause-is c =
    rw c.tree.ensures (rw c.tree-name.ensures.is (rw (sym c.given-behind.ensures.is) (rw c.in-Nothing.is
    (sym (nothing_behind c.args.symbol.now (trees_in c.args.symbol.now c.args.self.now.nodes) _ c.args.listed)))))

pub returns-in-Nothing-clause-makes : goal.returns-in-Nothing-clause-makes
unfolding nodes_of_outcome name_at_end one_if_arguments one_if_there is_there value_of
returns-in-Nothing-clause-makes c =
    rw c.tree.ensures (sym (ap one_if_arguments (sym c.given-behind.ensures.is)
    ∙ ap (λ p. one_if_arguments (value_of c.args.symbol.now (trees_in c.args.symbol.now c.args.self.now.nodes) p)) c.in-Nothing.is))

pub returns-in-Named-clause-is : goal.returns-in-Named-clause-is
unfolding outcome_value
returns-in-Named-clause-is c =
    rw c.tree-in-Named.ensures (rw (sym c.given-behind.ensures.is) (rw c.in-Named.is
    (sym (name_behind c.args.symbol.now (trees_in c.args.symbol.now c.args.self.now.nodes) _ c.args.listed _ _ _))))

pub returns-in_default : goal.returns-in_default
unfolding outcome_value nodes.tree_of nodes_of_outcome name_at_end
returns-in_default c =
    let ts = trees_in c.args.symbol.now c.args.self.now.nodes in
    let t = tree_of (part (values_in c.args.symbol.now c.args.self.now.nodes c.args.parts.now) 0) in
    let a = are_arguments c.args.symbol.now ts t c.given-behind.result c.in_default.not-Nothing c.in_default.not-Named in
    record {
      is = rw c.made.ensures (rw c.tree-name.ensures.is (rw c.node.ensures.is (rw (sym c.given-behind.ensures.is)
          (sym (arguments_behind c.args.symbol.now ts t c.args.listed c.given-behind.result a)))));
      there = rw c.made.ensures (c.tree-name.ensures.there c.requires.there, c.node.ensures.there);
      nodes = rw c.made.ensures (omega arith);
      named = rw c.made.ensures (there_closes c.args.symbol.now ts c.args.parts.now (ap is_there (sym c.given-behind.ensures.is) ∙ a.there));
      makes = rw c.made.ensures (sym (ap one_if_arguments (sym c.given-behind.ensures.is) ∙ a.makes));
    }
