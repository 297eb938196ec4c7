use Rattle.cpp_tree.proofs.Basics.{ap, ◌∙◌, false, entry_at, with_head, of_head}
use Rattle.cpp_tree.proofs.Compacting.{over-is}
use Rattle.cpp_tree.proofs.nodes.Nodes.noted_qualified.Goals as goal

pub returns : goal.returns
returns c =
    let e = entry_at c.args.self.now.nodes c.args.ty in
    over-is c.args.node (λ l. of_head l.head l) c.of_head-by_argument.result c.of_type.result c.at-held.result.first c.at-held.result.second c.noted_over.result c.at-held.result e c.at-held.ensures c.of_head-by_argument.ensures c.noted_over.ensures
    ∙ c.of_type.ensures c.args.node e.packs e.free false (of_head e.by_argument.head e.by_argument) c.at-held.result.first c.at-held.result.second
    ∙ ap (λ x. with_head c.args.node e.packs e.free false (of_head e.by_argument.head e.by_argument) x.class) c.at-held.ensures
