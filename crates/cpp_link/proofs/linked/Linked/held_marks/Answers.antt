use Rattle.cpp_link.proofs.Basics.{refl, sym, ◌∙◌, ap, length, counted_of, trees_in, around_of, constructor_by}
use Rattle.cpp_link.proofs.Held.{no_marks, constructor_below, marks_held, unlisted_prefix, unlisted_below, outermost_prefix, listed_prefix}
use Rattle.cpp_link.proofs.linked.Linked.held_marks.Goals as goal

pub returns-in-Outermost-clause-is : goal.returns-in-Outermost-clause-is
returns-in-Outermost-clause-is c state =
    let ts = trees_in c.args.symbol.now c.args.self.now.nodes in
    no_marks (around_of ts c.args.kept) ts _ state refl refl ∙ sym (outermost_prefix ts c.args.kept state c.in-Outermost.is)

pub held_by-by-requires-clause-below : goal.held_by-by-requires-clause-below
held_by-by-requires-clause-below c = unlisted_below (length c.args.self.now.nodes.nodes) c.args.kept c.in-Unlisted.is c.requires.kept.1

pub returns-in-Unlisted-clause-first : goal.returns-in-Unlisted-clause-first
returns-in-Unlisted-clause-first c = unlisted_below (length c.args.self.now.nodes.nodes) c.args.kept c.in-Unlisted.is c.requires.kept.1

pub returns-in-Unlisted-clause-is : goal.returns-in-Unlisted-clause-is
unfolding counted_of
returns-in-Unlisted-clause-is c state =
    let ts = trees_in c.args.symbol.now c.args.self.now.nodes in
    marks_held _ (around_of ts c.args.kept) ts c.args.kept.name state (unlisted_prefix ts c.args.kept c.in-Unlisted.is) c.requires.table.no_tree refl c.held_by-by.ensures
    (c.constructor_by.ensures ∙ ap constructor_by c.held_by-by.ensures) refl

pub returns-in-Unlisted-clause-second : goal.returns-in-Unlisted-clause-second
returns-in-Unlisted-clause-second c = constructor_below _ _ _ c.constructor_by.ensures c.requires.table.fixed

pub returns-in-Listed-clause-is : goal.returns-in-Listed-clause-is
returns-in-Listed-clause-is c state =
    let ts = trees_in c.args.symbol.now c.args.self.now.nodes in
    no_marks (around_of ts c.args.kept) ts _ state refl refl ∙ sym (listed_prefix ts c.args.kept state c.in-Listed.is)
