use Rattle.cpp_tree.proofs.Basics.{ap, ◌∙◌, entry_at, with_arguments, passed}
use Rattle.cpp_tree.proofs.Compacting.{over-is}
use Rattle.cpp_tree.proofs.nodes.Nodes.noted_local.Goals as goal

pub returns : goal.returns
returns c =
    let e = entry_at c.args.self.now.nodes c.args.entity in
    over-is c.args.node passed c.passed.result c.of_name.result c.at-held.result.first c.at-held.result.second c.noted_over.result c.at-held.result e c.at-held.ensures c.passed.ensures c.noted_over.ensures
    ∙ c.of_name.ensures c.args.node e.packs e.free (passed e.by_argument) c.at-held.result.first c.at-held.result.second
    ∙ ap (λ x. with_arguments c.args.node e.packs e.free (passed e.by_argument) x.arguments x.returns) c.at-held.ensures
