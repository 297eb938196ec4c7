use Rattle.cpp_tree.proofs.Basics.{ap, ◌∙◌, entry_at, TypeHead, passed, or_itself, with_tags, class_kept, arguments_kept, untagged_kept, returns_kept, count_kept, run_kept, has_pack_kept}
use Rattle.cpp_tree.proofs.Compacting.{over-is}
use Rattle.cpp_tree.proofs.nodes.Nodes.noted_tagged.Goals as goal

pub returns : goal.returns
unfolding class_kept arguments_kept untagged_kept returns_kept count_kept run_kept has_pack_kept
returns c =
    let e = entry_at c.args.self.now.nodes c.args.name in
    over-is c.args.node passed c.passed.result TypeHead.Tagged c.under_tags-under.result.first c.under_tags-under.result.second c.noted_over.result c.at-held.result e c.at-held.ensures c.passed.ensures c.noted_over.ensures
    ∙ ap (λ p. with_tags c.args.node e.packs e.free (passed e.by_argument) p) c.under_tags-under.ensures
    ∙ ap (λ x. with_tags c.args.node e.packs e.free (passed e.by_argument) (or_itself c.args.name x.untagged)) c.at-held.ensures
