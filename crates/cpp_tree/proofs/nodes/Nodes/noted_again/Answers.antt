use Rattle.cpp_tree.proofs.Basics.{entry_at, packs_kept, class_kept, entry_of, argument_packs, argument_class, shape_at}
use Rattle.cpp_tree.proofs.Compacting.{again-is}
use Rattle.cpp_tree.proofs.nodes.Nodes.noted_again.Goals as goal

pub returns : goal.returns
returns c =
    let given = c.given-given.result in
    again-is c.args.node (entry_of c.restated.result) c.at-held.result (entry_at c.args.self.now.nodes c.args.tree) (packs_kept c.packs_given-packs.result) (packs_kept given.packs) (argument_packs c.args.self.now.nodes (shape_at c.args.self.now.nodes c.args.argument))
    c.empty_by-is_empty.result c.has_no_elements.result c.args.argument (class_kept given.words given.first given.second) (argument_class c.args.self.now.nodes c.args.argument)
    c.restated.ensures c.at-held.ensures c.given-given.ensures.packs c.given-given.ensures.class c.packs_given-packs.ensures c.has_no_elements.ensures c.empty_by-is_empty.ensures
