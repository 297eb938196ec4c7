use Rattle.cpp_link.proofs.Basics.{sym, ◌∙◌, ap, subst, length, slice_index, counted_of, Linked, state_of, link_meaning, trees_in, values_in, around_of, AreCandidatesThere, around_stays, values_stay, candidates_more}
use Rattle.cpp_link.proofs.Making.{parts_more, state_behind}
use Rattle.cpp_link.proofs.linked.Linked.add_node_and_candidate.Goals as goal

pub after_rule-after-requires-clause-there : goal.after_rule-after-requires-clause-there
after_rule-after-requires-clause-there c = parts_more c.args.symbol.now _ _ c.args.parts.now c.in_ok-made.ensures.grows.least c.requires.there

pub after_rule-after-requires-clause-value : goal.after_rule-after-requires-clause-value
after_rule-after-requires-clause-value c =
    let s = c.args.symbol.now in
    let old = c.args.self.now.nodes in
    let new = c.add_node.new.self.nodes in
    let byte = slice_index s c.args.place in (
      c.args.place,
      c.in_ok-made.ensures.value ∙ c.requires.value
          ∙ ap (λ a. link_meaning s c.args.production byte c.args.place a (values_in s old c.args.parts.now)) (sym (around_stays s old new c.in_ok-made.ensures.grows.stays c.args.kept c.requires.kept))
          ∙ ap (λ vs. link_meaning s c.args.production byte c.args.place (around_of (trees_in s new) c.args.kept) vs) (sym (values_stay s old new c.in_ok-made.ensures.grows.stays c.args.parts.now c.requires.there)),
    )

pub append-requires-clause-there : goal.append-requires-clause-there
append-requires-clause-there c =
    subst (λ v. AreCandidatesThere (length c.add_node.new.self.nodes.nodes) v) (sym c.in_ok-made.ensures.candidates)
    (candidates_more _ _ c.args.self.now.candidates c.in_ok-made.ensures.grows.least c.requires.whole.there)

pub returns-clause-state : goal.returns-clause-state
unfolding counted_of
returns-clause-state c began same =
    let s = c.args.symbol.now in
    let mid = c.add_node.new.self in
    let last : Linked = record c.append.new.self { packs = c.after_rule-after.result.packs } in
    state_behind s c.args.self.now mid last c.args.production (slice_index s c.args.place) c.args.kept c.args.parts.now
    c.after_rule-after.result.candidate c.after_rule-after.result.packs began c.in_ok-made.ensures.grows.stays c.requires.kept c.requires.there c.requires.whole.there
    c.in_ok-made.ensures.candidates c.in_ok-made.ensures.packs c.in_ok-made.ensures.counting (λ state. c.after_rule-after.ensures.is began state same)
    (rw (c.append.ensures.nodes, c.append.ensures.counting) (c.in_ok-append.ensures.is (record (state_of s mid) { packs = c.after_rule-after.result.packs })))
