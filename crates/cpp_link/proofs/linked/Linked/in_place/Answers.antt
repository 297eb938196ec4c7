use Rattle.cpp_link.proofs.Basics.{sym, ◌∙◌, ap, refl, part, tree_of, is_there, nodes_of_outcome, name_at_end, one_if_arguments, trees_in, values_in, outcome_value}
use Rattle.cpp_tree.specs.Nodes as nodes
use Rattle.cpp_link.proofs.Places.{are_arguments, there_closes}
use Rattle.cpp_link.proofs.linked.Linked.in_place.Goals as goal

pub returns-in_default : goal.returns-in_default
unfolding outcome_value nodes.tree_of nodes_of_outcome name_at_end
returns-in_default c =
    let ts = trees_in c.args.symbol.now c.args.self.now.nodes in
    let t = tree_of (part (values_in c.args.symbol.now c.args.self.now.nodes c.args.parts.now) 0) in
    let a = are_arguments c.args.symbol.now ts t c.given-behind.result c.in_default.not-Nothing c.in_default.not-Named in
    record {
      is = rw c.tree-in_default.ensures.is (rw c.node.ensures.is (rw (sym c.given-behind.ensures.is) (rw a.instance_of refl)));
      there = (c.tree-in_default.ensures.there c.requires.there, c.node.ensures.there);
      named = there_closes c.args.symbol.now ts c.args.parts.now (ap is_there (sym c.given-behind.ensures.is) ∙ a.there);
      makes = sym (ap one_if_arguments (sym c.given-behind.ensures.is) ∙ a.makes);
    }
