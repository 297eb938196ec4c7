use Rattle.cpp_link.proofs.Basics.{refl, sym, ◌∙◌, ap, [], slice_index, counted_base, nothing_counted, State, counted_of, state_of, trees_in, values_in, packs_of, around_of}
use Rattle.cpp_link.proofs.Inherited.{counted_after, nothing_behind}
use Rattle.cpp_link.proofs.linked.Linked.close_inheriting.Goals as goal

pub returns-clause-state : goal.returns-clause-state
unfolding counted_of
returns-clause-state c =
    let s = c.args.symbol.now in
    let old = c.args.self.now in
    let mid = c.make_rare.new.self in
    let around = around_of (trees_in s old.nodes) c.args.kept in
    let known = values_in s old.nodes c.args.parts.now in
    let began : State = record { candidates = []; packs = packs_of c.args.kept; counting = nothing_counted } in
    ap (λ v. counted_base around v (state_of s old)) (sym c.given.ensures.is) ∙ c.base_to_count-base.ensures.is around (state_of s old)
    ∙ counted_after s old.nodes mid.nodes c.args.kept c.base_to_count-base.result (state_of s old) (state_of s mid) c.in_ok-made.ensures.made.grows.stays c.requires.kept c.base_to_count-base.ensures.there
    (sym (nothing_behind (slice_index s c.args.place) around began known (state_of s old)) ∙ c.in_ok-made.ensures.state began refl)
    ∙ rw (c.append.ensures.nodes, c.append.ensures.packs, c.append.ensures.counting) (c.in_ok-append.ensures.is (state_of s mid))
