use Rattle.cpp_tree.proofs.Basics.{ap, ◌∙◌, false, Some, not, first_of, entry_at, both_free, is_structor_node, joined, itself, with_arguments}
use Rattle.cpp_tree.proofs.Compacting.{over-two-is}
use Rattle.cpp_tree.proofs.nodes.Nodes.noted_instance.Goals as goal

pub returns : goal.returns
returns c =
    let e = entry_at c.args.self.now.nodes c.args.template in
    let f = entry_at c.args.self.now.nodes c.args.arguments in
    let packs = first_of e.packs f.packs in
    let free = both_free e.free f.free in
    let depends = joined e.by_argument f.by_argument in
    over-two-is c.args.node false joined c.joined.result c.of_instance.result c.args.arguments 0 c.noted_over_two.result c.at-held.result c.at-other.result e f c.at-held.ensures c.at-other.ensures c.joined.ensures c.noted_over_two.ensures
    ∙ c.of_instance.ensures c.args.node packs free depends c.args.arguments
    ∙ ap (λ x. with_arguments c.args.node packs free depends (Some (itself c.args.arguments)) (not (is_structor_node x)))
    (c.node.ensures.is ∙ ap (λ p. (entry_at c.args.self.now.nodes p.node).node) c.resolved-place.ensures.is)
