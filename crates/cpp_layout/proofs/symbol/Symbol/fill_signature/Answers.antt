use Rattle.cpp_layout.proofs.Basics.{ap, sym, ◌∙◌, Context, printed_tree, reargued, tree_of}
use Rattle.cpp_layout.proofs.Functions.{function-absent, not-absent}
use Rattle.cpp_layout.proofs.Growing.{fills, starts}
use Rattle.cpp_layout.proofs.symbol.Symbol.fill_signature.Goals as goal

pub returns-in-Absent-clause-shows : goal.returns-in-Absent-clause-shows
unfolding tree_of reargued
returns-in-Absent-clause-shows g c =
    fills c.args.self.now c.args.detail _ _ _ (c.push_bare.ensures.shows _ _ (starts c.args.self.now c.args.detail _))
    (function-absent _ _ _ _ _ (sym (ap (λ (x : Context). printed_tree c.args.self.now x c.args.returned) c.of_types.ensures) ∙ sym c.place-place.ensures.tree ∙ c.in-Absent.ensures.tree))

pub fill_returning-requires-clause-there : goal.fill_returning-requires-clause-there
fill_returning-requires-clause-there g c =
    not-absent _ _ _ _ c.stored.result c.stored.ensures.own _
    (sym (ap (λ (x : Context). printed_tree c.args.self.now x c.args.returned) c.of_types.ensures) ∙ sym c.place-place.ensures.tree ∙ c.stored.ensures.tree) c.in_default.not-Absent
