use Rattle.cpp_tree.proofs.Basics.{ap, ◌∙◌, false, Free, free_kept, with_head, packs_kept, class_kept, of_parameter, argument_packs, shape_at}
use Rattle.cpp_tree.proofs.nodes.Nodes.noted_parameter.Goals as goal

pub returns : goal.returns
unfolding free_kept
returns c =
    c.of_type.ensures c.args.node (packs_kept c.given-given.result.packs) (Free.One c.args.number) false of_parameter c.given-given.result.first c.given-given.result.second
    ∙ ap (λ p. with_head c.args.node p (Free.One c.args.number) false of_parameter (class_kept c.given-given.result.words c.given-given.result.first c.given-given.result.second)) c.given-given.ensures.packs
    ∙ ap (λ h. with_head c.args.node (argument_packs c.args.self.now.nodes (shape_at c.args.self.now.nodes c.args.argument)) (Free.One c.args.number) false of_parameter h) c.given-given.ensures.class
