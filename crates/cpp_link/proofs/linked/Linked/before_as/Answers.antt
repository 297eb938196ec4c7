use Rattle.cpp_link.proofs.Basics.{◌≡◌, refl, ◌∙◌, ap, arith, ◌-◌, List, length, take, drop, rest_all, production_at, Part, between, linked, state_of, nodes_of_step, cpp_view}
use Rattle.cpp_link.proofs.NodeCount.{made_before_part}
use Rattle.cpp_link.proofs.GoingOn.{plain_reads, goes_right, refused_right, refused_few, step_of_rule, refused_advances, lacking_advances, taken_advances}
use Rattle.cpp_link.proofs.Rooms.{same_room}
use Rattle.cpp_link.proofs.Scopes.{between_closed}
use Rattle.cpp_link.proofs.Viewing.{open_there, kept_closed}
use Rattle.cpp_link.proofs.linked.Linked.before_as.Goals as goal

pub step-requires-clause-table : goal.step-requires-clause-table
step-requires-clause-table c = c.requires.open.at.holds.table

pub step-requires-clause-closed : goal.step-requires-clause-closed
step-requires-clause-closed c = kept_closed c.args.symbol.now c.args.self.now c.args.frame.now.kept _ c.requires.open.at.kept.surrounds

pub returns-in_err-step : goal.returns-in_err-step
returns-in_err-step c =
    let s = c.args.symbol.now in
    let old = c.args.self.now in
    let frame = c.args.frame.now in
    let parts = c.args.parts.now.items in
    let e = c.in_err-step.field-0.0 in
    refused_advances (cpp_view s) s old old frame c.args.parts.now c.args.parts.now (same_room old old refl refl) (omega arith) c.from_residual.result e c.from_residual.ensures.1
    (refused_right (linked s) between (plain_reads s) s old frame parts _ c.args.production (rw c.deref.ensures.value (rest_all parts frame.base)) c.requires.numbered old parts e (c.in_err-step.ensures.refused (state_of s old)))
    (omega arith) (λ memory. absurd (c.in_err-step.ensures.bad memory))

pub take_step-requires-clause-there : goal.take_step-requires-clause-there
take_step-requires-clause-there c = c.requires.open.at.holds.there

pub take_step-requires-clause-of : goal.take_step-requires-clause-of
take_step-requires-clause-of c =
    (production_at c.args.frame.now.rule, step_of_rule c.args.frame.now c.args.parts.now.items c.deref.result.now c.args.production c.in_ok-step.step c.deref.ensures.value c.requires.numbered c.in_ok-step.ensures.of)

pub take_step-requires-clause-parts : goal.take_step-requires-clause-parts
take_step-requires-clause-parts c = open_there c.args.symbol.now c.args.self.now c.args.frame.now c.args.parts.now.items (drop c.args.frame.now.base c.args.parts.now.items) c.requires.open refl

pub returns-in_err-then : goal.returns-in_err-then
returns-in_err-then c =
    let s = c.args.symbol.now in
    let old = c.args.self.now in
    let new = c.take_step.new.self in
    let frame = c.args.frame.now in
    let parts = c.args.parts.now.items in
    let of = step_of_rule frame parts c.deref.result.now c.args.production c.in_ok-step.step c.deref.ensures.value c.requires.numbered c.in_ok-step.ensures.of in
    lacking_advances (cpp_view s) s old new frame c.args.parts.now c.take_step.new.parts c.take_step.ensures.keeps c.take_step.ensures.capacity c.from_residual-in_err-then.result _ c.from_residual-in_err-then.ensures.1
    c.in_err-then.ensures.memory
    (refused_few s old new frame parts c.requires.room.paid (c.in_err-then.ensures.few (production_at frame.rule) of
    (λ is none. c.in_ok-step.ensures.pack (c.requires.numbered ∙ is) (rest_all c.deref.result.now frame.base ∙ ap (λ ps. drop frame.base ps) c.deref.ensures.value ∙ none))))
    c.in_err-then.ensures.full

pub returns : goal.returns
returns c =
    let s = c.args.symbol.now in
    let old = c.args.self.now in
    let new = c.take_step.new.self in
    let frame = c.args.frame.now in
    let parts = c.args.parts.now.items in
    let own : List Part = take (length c.deref.result.now - frame.base) (drop frame.base c.deref.result.now) in
    let same : own ≡ drop frame.base parts = rest_all c.deref.result.now frame.base ∙ ap (λ ps. drop frame.base ps) c.deref.ensures.value in
    let of = step_of_rule frame parts c.deref.result.now c.args.production c.in_ok-step.step c.deref.ensures.value c.requires.numbered c.in_ok-step.ensures.of in
    taken_advances (cpp_view s) s old new new.candidates frame c.args.parts.now c.take_step.new.parts c.take_step.ensures.keeps c.take_step.ensures.capacity c.in_ok-step.step c.in_ok-then.then of c.requires.room.paid c.in_ok-then.ensures.takes
    (c.in_ok-then.ensures.few (production_at frame.rule) of (λ is none. c.in_ok-step.ensures.pack (c.requires.numbered ∙ is) (same ∙ none))) c.in_ok-then.ensures.more
    (made_before_part s old frame parts own c.args.production (nodes_of_step c.in_ok-step.step) same c.requires.numbered c.in_ok-step.ensures.makes)
    (goes_right (linked s) between (plain_reads s) s old frame parts own c.args.production same c.requires.numbered new new.candidates c.take_step.new.parts.items c.in_ok-step.step c.in_ok-then.then (λ g. g)
    (between_closed c.args.production _ _ _ _) (c.in_ok-step.ensures.is (state_of s old)) c.in_ok-then.ensures.takes c.in_ok-then.ensures.takes.candidates refl)
