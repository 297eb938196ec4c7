use Rattle.cpp_link.proofs.Basics.{◌≡◌, refl, sym, ◌∙◌, ap, subst, arith, ◌-◌, List, length, take, drop, Ok, length-drop, rest_all, production_at, Part, nodes_of_step, linked_wide, steps_apart, with_mark, going_marked, wide_view, state_of, trees_in, values_in, is_lambda, around_of, Advances, KeepsRoom, around_stays, kept_more, Around, between_wide, both}
use Rattle.cpp_link.proofs.NodeCount.{made_before_part}
use Rattle.cpp_link.proofs.GoingOn.{goes_right, refused_right, refused_few, step_of_rule, refused_advances, lacking_advances, taken_advances}
use Rattle.cpp_link.proofs.Rescoped.{wide_reads, marking_is, no_pack}
use Rattle.cpp_link.proofs.Rooms.{same_room, keeps_on, lacks_on}
use Rattle.cpp_link.proofs.Scopes.{wide_between_closed}
use Rattle.cpp_link.proofs.Viewing.{open_there}
use Rattle.cpp_link.proofs.linked.Linked.before_apart.Goals as goal

pub step_apart-requires-clause-table : goal.step_apart-requires-clause-table
step_apart-requires-clause-table c = c.requires.open.at.holds.table

pub step_apart-requires-clause-candidates : goal.step_apart-requires-clause-candidates
step_apart-requires-clause-candidates c = c.requires.open.at.holds.there

pub step_apart-requires-clause-apart : goal.step_apart-requires-clause-apart
step_apart-requires-clause-apart c =
    let frame = c.args.frame.now in
    let own = rest_all c.deref.result.now frame.base ∙ ap (λ ps. drop frame.base ps) c.deref.ensures.value in
    both (λ p n. steps_apart p (is_lambda frame.kept.scope) n) c.production_of-production.ensures (ap (λ ps. length ps) own ∙ length-drop frame.base c.args.parts.now.items) ∙ c.requires.apart

pub returns-in_err-step : goal.returns-in_err-step
returns-in_err-step c =
    let s = c.args.symbol.now in
    let old = c.args.self.now in
    let frame = c.args.frame.now in
    let parts = c.args.parts.now.items in
    let e = c.in_err-step.field-0.0 in
    refused_advances (wide_view s) s old old frame c.args.parts.now c.args.parts.now (same_room old old refl refl) (omega arith) c.from_residual.result e c.from_residual.ensures.1
    (refused_right (linked_wide s) between_wide (wide_reads s) s old frame parts _ c.production_of-production.result (rw c.deref.ensures.value (rest_all parts frame.base)) c.production_of-production.ensures old parts e (c.in_err-step.ensures.refused (state_of s old) refl))
    (omega arith) (λ memory. absurd (c.in_err-step.ensures.bad memory))

pub take_step-requires-clause-there : goal.take_step-requires-clause-there
take_step-requires-clause-there c = c.requires.open.at.holds.there

pub take_step-requires-clause-of : goal.take_step-requires-clause-of
take_step-requires-clause-of c =
    (production_at c.args.frame.now.rule, step_of_rule c.args.frame.now c.args.parts.now.items c.deref.result.now c.production_of-production.result c.in_ok-step.step c.deref.ensures.value c.production_of-production.ensures c.in_ok-step.ensures.of)

pub take_step-requires-clause-parts : goal.take_step-requires-clause-parts
take_step-requires-clause-parts c = open_there c.args.symbol.now c.args.self.now c.args.frame.now c.args.parts.now.items (drop c.args.frame.now.base c.args.parts.now.items) c.requires.open refl

pub returns-in_err-then : goal.returns-in_err-then
returns-in_err-then c =
    let s = c.args.symbol.now in
    let old = c.args.self.now in
    let new = c.take_step.new.self in
    let frame = c.args.frame.now in
    let parts = c.args.parts.now.items in
    let of = step_of_rule frame parts c.deref.result.now c.production_of-production.result c.in_ok-step.step c.deref.ensures.value c.production_of-production.ensures c.in_ok-step.ensures.of in
    lacking_advances (wide_view s) s old new frame c.args.parts.now c.take_step.new.parts c.take_step.ensures.keeps c.take_step.ensures.capacity c.from_residual-in_err-then.result _ c.from_residual-in_err-then.ensures.1
    c.in_err-then.ensures.memory
    (refused_few s old new frame parts c.requires.room.paid (c.in_err-then.ensures.few (production_at frame.rule) of
    (λ is none. absurd (no_pack (production_at frame.rule) _ _ c.requires.apart is))))
    c.in_err-then.ensures.full

pub marked-marks-requires-clause-kept : goal.marked-marks-requires-clause-kept
marked-marks-requires-clause-kept c =
    kept_more (length c.args.self.now.nodes.nodes) (length c.take_step.new.self.nodes.nodes) c.args.frame.now.kept c.in_ok-then.ensures.takes.grows.least c.requires.open.at.kept.surrounds.there

pub marked-marks-requires-clause-there : goal.marked-marks-requires-clause-there
marked-marks-requires-clause-there c = rw c.deref-2.ensures.value (rw (rest_all c.take_step.new.parts.items c.args.frame.now.base) c.in_ok-then.ensures.takes.there)

pub returns-in_err-append_marks : goal.returns-in_err-append_marks
returns-in_err-append_marks c =
    let s = c.args.symbol.now in
    let old = c.args.self.now in
    let mid = c.take_step.new.self in
    let new = c.append_marks.new.self in
    let frame = c.args.frame.now in
    let parts = c.args.parts.now.items in
    let of = step_of_rule frame parts c.deref.result.now c.production_of-production.result c.in_ok-step.step c.deref.ensures.value c.production_of-production.ensures c.in_ok-step.ensures.of in
    let few = c.in_ok-then.ensures.few (production_at frame.rule) of (λ is none. absurd (no_pack (production_at frame.rule) _ _ c.requires.apart is)) in
    lacking_advances (wide_view s) s old new frame c.args.parts.now c.take_step.new.parts (keeps_on old mid new c.take_step.ensures.keeps c.append_marks.ensures.keeps) c.take_step.ensures.capacity
    c.from_residual-in_err-append_marks.result _ c.from_residual-in_err-append_marks.ensures.1 c.in_err-append_marks.ensures.memory
    (refused_few s old new frame parts c.requires.room.paid (omega (arith, ap (λ y. length y.nodes) c.append_marks.ensures.nodes, few))) (lacks_on old mid new c.take_step.ensures.keeps c.in_err-append_marks.ensures.full)

pub returns : goal.returns
returns c =
    let s = c.args.symbol.now in
    let old = c.args.self.now in
    let mid = c.take_step.new.self in
    let new = c.append_marks.new.self in
    let frame = c.args.frame.now in
    let parts = c.args.parts.now.items in
    let new_parts = c.take_step.new.parts.items in
    let production = c.production_of-production.result in
    let own : List Part = take (length c.deref.result.now - frame.base) (drop frame.base c.deref.result.now) in
    let same : own ≡ drop frame.base parts = rest_all c.deref.result.now frame.base ∙ ap (λ ps. drop frame.base ps) c.deref.ensures.value in
    let of = step_of_rule frame parts c.deref.result.now production c.in_ok-step.step c.deref.ensures.value c.production_of-production.ensures c.in_ok-step.ensures.of in
    let takes = c.in_ok-then.ensures.takes in
    let with_mark_in = λ (a : Around) (ps : List Part). with_mark production a (values_in s mid.nodes ps) (state_of s mid) in
    let marked = both with_mark_in (sym (around_stays s old.nodes mid.nodes takes.grows.stays frame.kept c.requires.open.at.kept.surrounds.there))
    (sym (rest_all c.deref-2.result.now frame.base ∙ ap (λ ps. drop frame.base ps) c.deref-2.ensures.value))
    ∙ sym (c.marked-marks.ensures.is (state_of s mid)) ∙ c.in_ok-append_marks.ensures.is (state_of s mid) in
    let added : new ≡ record mid { candidates = new.candidates } = both (λ y p. record new { nodes = y; packs = p }) c.append_marks.ensures.nodes c.append_marks.ensures.packs ∙ ap (λ x. record mid { candidates = new.candidates; counting = x }) c.append_marks.ensures.counting in
    let keeps = subst (λ l. KeepsRoom old l) added (keeps_on old mid new c.take_step.ensures.keeps c.append_marks.ensures.keeps) in
    subst (λ l. Advances (wide_view s) s old l frame c.args.parts.now c.take_step.new.parts (Ok c.in_ok-then.then)) (sym added)
    (taken_advances (wide_view s) s old mid new.candidates frame c.args.parts.now c.take_step.new.parts keeps c.take_step.ensures.capacity c.in_ok-step.step c.in_ok-then.then of c.requires.room.paid takes
    (c.in_ok-then.ensures.few (production_at frame.rule) of (λ is none. absurd (no_pack (production_at frame.rule) _ _ c.requires.apart is))) c.in_ok-then.ensures.more
    (made_before_part s old frame parts own production (nodes_of_step c.in_ok-step.step) same c.production_of-production.ensures c.in_ok-step.ensures.makes)
    (goes_right (linked_wide s) between_wide (wide_reads s) s old frame parts own production same c.production_of-production.ensures mid new.candidates new_parts c.in_ok-step.step c.in_ok-then.then
    (going_marked production (around_of (trees_in s old.nodes) frame.kept)) (wide_between_closed production _ _ _ _) (c.in_ok-step.ensures.is (state_of s old) refl) takes c.in_ok-append_marks.ensures.there
    (marking_is production (around_of (trees_in s old.nodes) frame.kept) _ _ marked)))
