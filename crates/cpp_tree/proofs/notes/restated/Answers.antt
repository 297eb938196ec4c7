use Rattle.cpp_tree.proofs.Basics.{◌∙◌, free_kept, entry_of, packs_kept, class_kept}
use Rattle.cpp_tree.proofs.Compacting.{own-restated, given-restated, collapsed-restated}
use Rattle.cpp_tree.proofs.notes.restated.Goals as goal

pub returns-in-Own : goal.returns-in-Own
returns-in-Own c =
    let held = c.args.held in
    c.second_under.ensures c.args.node (packs_kept c.args.packs) (free_kept held.free held.number) c.args.is_empty held.by_argument
    ∙ own-restated c.args.node (packs_kept c.args.packs) c.args.is_empty (entry_of held) c.args.argument (class_kept c.args.given.words c.args.given.first c.args.given.second) c.in-Own.is

pub returns-in-Argument : goal.returns-in-Argument
returns-in-Argument c =
    let held = c.args.held in
    c.of_type.ensures c.args.node (packs_kept c.args.packs) (free_kept held.free held.number) c.args.is_empty held.by_argument c.args.given.first c.args.given.second
    ∙ given-restated c.args.node (packs_kept c.args.packs) c.args.is_empty (entry_of held) c.args.argument (class_kept c.args.given.words c.args.given.first c.args.given.second) c.in-Argument.is

pub returns-in-Collapsed : goal.returns-in-Collapsed
returns-in-Collapsed c =
    let held = c.args.held in
    c.collapsed.ensures c.args.node (packs_kept c.args.packs) (free_kept held.free held.number) c.args.is_empty held.by_argument c.args.given.first c.args.given.second
    ∙ collapsed-restated c.args.node (packs_kept c.args.packs) c.args.is_empty (entry_of held) c.args.argument (class_kept c.args.given.words c.args.given.first c.args.given.second) c.in-Collapsed.is
