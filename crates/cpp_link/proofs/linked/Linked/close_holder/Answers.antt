use Rattle.cpp_link.proofs.Basics.{◌≡◌, refl, sym, ◌∙◌, ap, [], true, false, slice_index, nothing_counted, awaited_by, State, part, tree_of, awaited_of, state_of, trees_in, values_in, packs_of, around_of}
use Rattle.cpp_link.proofs.Awaited.{nothing_after, made_counted, awaits}
use Rattle.cpp_link.proofs.linked.Linked.close_holder.Goals as goal

pub returns-clause-state : goal.returns-clause-state
unfolding around_of
returns-clause-state c =
    let s = c.args.symbol.now in
    let old = c.args.self.now in
    let mid = c.make_rare.new.self in
    let around = around_of (trees_in s old.nodes) c.args.kept in
    let known = values_in s old.nodes c.args.parts.now in
    let began : State = record { candidates = []; packs = packs_of c.args.kept; counting = nothing_counted } in
    let made : state_of s old ≡ state_of s mid = sym (nothing_after (slice_index s c.args.place) around began known (state_of s old)) ∙ c.in_ok-made.ensures.state began refl in
    awaits s mid c.await_types.new.self around (tree_of (part known 1)) (state_of s old) made c.await_types.ensures.nodes c.await_types.ensures.candidates c.await_types.ensures.packs c.in_ok-made.ensures.made.whole.there.1
    (awaited_of c.awaited_by-awaited.result) (c.awaited_by-awaited.ensures ∙ ap (awaited_by c.args.kept.encoding) (c.node-name.ensures.is ∙ ap tree_of c.given.ensures.is)) c.await_types.ensures.counting

pub returns-clause-made : goal.returns-clause-made
returns-clause-made c =
    made_counted c.args.symbol.now c.args.self.now c.make_rare.new.self c.await_types.new.self _ _ c.in_ok-made.made c.await_types.ensures.nodes c.await_types.ensures.candidates c.in_ok-made.ensures.made
