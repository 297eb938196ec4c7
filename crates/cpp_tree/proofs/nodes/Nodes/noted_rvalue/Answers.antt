use Rattle.cpp_tree.proofs.Basics.{ap, ◌∙◌, false, entry_at, with_head, of_head, collapses, collapses_from}
use Rattle.cpp_tree.proofs.Compacting.{over-is}
use Rattle.cpp_tree.proofs.nodes.Nodes.noted_rvalue.Goals as goal

pub returns : goal.returns
returns c =
    let e = entry_at c.args.self.now.nodes c.args.ty in
    over-is c.args.node (λ l. of_head (collapses_from l.head) l) c.of_head-by_argument.result c.collapsed.result c.at-held.result.first c.at-held.result.second c.noted_over.result c.at-held.result e c.at-held.ensures
    (c.of_head-by_argument.ensures ∙ ap (λ h. of_head h c.at-held.result.by_argument) c.collapsed_from.ensures) c.noted_over.ensures
    ∙ c.collapsed.ensures c.args.node e.packs e.free false (of_head (collapses_from e.by_argument.head) e.by_argument) c.at-held.result.first c.at-held.result.second
    ∙ ap (λ x. with_head c.args.node e.packs e.free false (of_head (collapses_from e.by_argument.head) e.by_argument) (collapses x.class)) c.at-held.ensures
