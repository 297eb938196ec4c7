use Rattle.sym_link.proofs.Basics.{refl, ◌∙◌, ap, Ok, arith, Bool, true, false, Memory as memory, never_both, never_ok, never_err, never_true, TokenTakesMemory, all_lists}
use Rattle.sym_link.proofs.Driving.{driving_on, step_moved, step_done, step_refused, refused_answer, none_kept}
use Rattle.sym_link.proofs.Room.{room_same, only_refused}
use Rattle.sym_link.proofs.driver.Driver.step.Goals as goal

pub returns-in-Some-behind-clause-driving : goal.returns-in-Some-behind-clause-driving
returns-in-Some-behind-clause-driving g c tree is driving =
    let on = driving_on (g.L.Linking.view c.args.symbol.now) c.args.symbol.now c.args.rows.now tree c.args.language.now c.args.self.now.steps c.args.self.now.refused c.args.self.now.next
    c.args.self.now.frames.items c.args.self.now.parts.items c.in_default.not-Some driving in
    step_moved (g.L.Linking.view c.args.symbol.now) c.args.symbol.now c.args.rows.now tree c.advance-moved.new.language c.args.self.now.steps c.args.self.now.refused c.args.self.now.next c.in-Some-behind.next
    c.args.self.now.frames.items c.advance-moved.new.frames.items c.advance-moved.new.parts.items c.advance-moved.result c.in-Ok.behind c.in-Ok.is c.in-Some-behind.is
    c.in_default.not-Some on.1 on.3 (c.advance-moved.ensures.moves tree c.args.self.now.steps is on.0) c.advance-moved.ensures.counts

pub returns-in-None-clause-answers : goal.returns-in-None-clause-answers
returns-in-None-clause-answers g c tree is driving =
    let on = driving_on (g.L.Linking.view c.args.symbol.now) c.args.symbol.now c.args.rows.now tree c.args.language.now c.args.self.now.steps c.args.self.now.refused c.args.self.now.next
    c.args.self.now.frames.items c.args.self.now.parts.items c.in_default.not-Some driving in
    let over = step_done (g.L.Linking.view c.args.symbol.now) c.args.symbol.now c.args.rows.now tree c.args.self.now.steps c.advance-moved.new.language c.advance-moved.new.frames.items c.advance-moved.new.parts.items
    c.advance-moved.result c.in-Ok.behind c.in-Ok.is c.in-None.is (c.advance-moved.ensures.moves tree c.args.self.now.steps is on.0) in
    (over.0, refl, none_kept c.args.self.now.refused c.in_default.not-Some, over.1)

pub returns-in-Err-clause-driving : goal.returns-in-Err-clause-driving
returns-in-Err-clause-driving g c tree is driving =
    let on = driving_on (g.L.Linking.view c.args.symbol.now) c.args.symbol.now c.args.rows.now tree c.args.language.now c.args.self.now.steps c.args.self.now.refused c.args.self.now.next
    c.args.self.now.frames.items c.args.self.now.parts.items c.in_default.not-Some driving in
    rw (c.refuse.ensures.steps, c.refuse.ensures.refused)
    (step_refused (g.L.Linking.view c.args.symbol.now) c.args.symbol.now c.args.rows.now tree c.advance-moved.new.language c.args.self.now.steps c.args.self.now.next c.args.self.now.frames.items
    c.advance-moved.new.frames.items c.advance-moved.new.parts.items c.advance-moved.result c.in-Err.refusal c.in-Err.is on.1 (c.advance-moved.ensures.moves tree c.args.self.now.steps is on.0) c.advance-moved.ensures.counts)

pub returns-in-Err-clause-answers : goal.returns-in-Err-clause-answers
returns-in-Err-clause-answers g c tree is driving =
    let on = driving_on (g.L.Linking.view c.args.symbol.now) c.args.symbol.now c.args.rows.now tree c.args.language.now c.args.self.now.steps c.args.self.now.refused c.args.self.now.next
    c.args.self.now.frames.items c.args.self.now.parts.items c.in_default.not-Some driving in
    refused_answer (g.L.Linking.view c.args.symbol.now) c.args.symbol.now c.args.rows.now tree c.advance-moved.new.language c.args.self.now.steps c.refuse.new.self.steps c.args.self.now.refused c.refuse.new.self.refused c.refuse.new.self.parts.items c.in-Err.refusal
    c.in_default.not-Some c.refuse.ensures.steps c.refuse.ensures.refused
    (step_refused (g.L.Linking.view c.args.symbol.now) c.args.symbol.now c.args.rows.now tree c.advance-moved.new.language c.args.self.now.steps c.args.self.now.next c.args.self.now.frames.items
    c.advance-moved.new.frames.items c.advance-moved.new.parts.items c.advance-moved.result c.in-Err.refusal c.in-Err.is on.1 (c.advance-moved.ensures.moves tree c.args.self.now.steps is on.0) c.advance-moved.ensures.counts).0

pub returns-in-Some-clause-keeps : goal.returns-in-Some-clause-keeps
returns-in-Some-clause-keeps g c =
    let view = g.L.Linking.view c.args.symbol.now in
    let before = all_lists view c.args.language.now c.args.self.now.frames c.args.self.now.parts in
    room_same before

pub returns-in-Err-clause-full : goal.returns-in-Err-clause-full
returns-in-Err-clause-full g c none =
    let view = g.L.Linking.view c.args.symbol.now in
    let before = all_lists view c.args.language.now c.args.self.now.frames c.args.self.now.parts in
    let after_move = all_lists view c.advance-moved.new.language c.advance-moved.new.frames c.advance-moved.new.parts in
    rw (c.refuse.ensures.frames, c.refuse.ensures.parts)
    (only_refused (TokenTakesMemory view c.args.symbol.now) (TokenTakesMemory view c.args.symbol.now) before before after_move c.in-Err.refusal (λ more. more) (room_same before)
    (λ is. c.advance-moved.ensures.full (c.in-Err.is ∙ is)))

pub returns-in-Some-clause-driving : goal.returns-in-Some-clause-driving
returns-in-Some-clause-driving g c tree is driving = driving

pub returns-in-Some-clause-nodes : goal.returns-in-Some-clause-nodes
returns-in-Some-clause-nodes g c = omega arith

pub returns-in-Some-clause-language : goal.returns-in-Some-clause-language
returns-in-Some-clause-language g c is = absurd (never_ok Bool c.in-Some.refusal true is)

pub returns-in-Some-clause-frames : goal.returns-in-Some-clause-frames
returns-in-Some-clause-frames g c is = absurd (never_ok Bool c.in-Some.refusal true is)

pub returns-in-Some-clause-parts : goal.returns-in-Some-clause-parts
returns-in-Some-clause-parts g c is = absurd (never_ok Bool c.in-Some.refusal true is)

pub returns-in-Some-clause-next : goal.returns-in-Some-clause-next
returns-in-Some-clause-next g c is = absurd (never_ok Bool c.in-Some.refusal true is)

pub returns-in-Some-clause-closed : goal.returns-in-Some-clause-closed
returns-in-Some-clause-closed g c is = absurd (never_ok Bool c.in-Some.refusal true is)

pub returns-in-Some-clause-begun : goal.returns-in-Some-clause-begun
returns-in-Some-clause-begun g c is = absurd (never_ok Bool c.in-Some.refusal true is)

pub returns-in-Some-clause-over : goal.returns-in-Some-clause-over
returns-in-Some-clause-over g c none = absurd (never_both c.args.self.now.refused c.in-Some.refusal c.in-Some.is none)

pub returns-in-Some-clause-again : goal.returns-in-Some-clause-again
returns-in-Some-clause-again g c = rw c.in-Some.is (refl, refl)

pub returns-in-Some-clause-full : goal.returns-in-Some-clause-full
returns-in-Some-clause-full g c none = absurd (never_both c.args.self.now.refused c.in-Some.refusal c.in-Some.is none)

pub returns-in-Some-behind-clause-language : goal.returns-in-Some-behind-clause-language
returns-in-Some-behind-clause-language g c is = absurd (never_true is)

pub returns-in-Some-behind-clause-frames : goal.returns-in-Some-behind-clause-frames
returns-in-Some-behind-clause-frames g c is = absurd (never_true is)

pub returns-in-Some-behind-clause-parts : goal.returns-in-Some-behind-clause-parts
returns-in-Some-behind-clause-parts g c is = absurd (never_true is)

pub returns-in-Some-behind-clause-next : goal.returns-in-Some-behind-clause-next
returns-in-Some-behind-clause-next g c is = absurd (never_true is)

pub returns-in-Some-behind-clause-closed : goal.returns-in-Some-behind-clause-closed
returns-in-Some-behind-clause-closed g c is = absurd (never_true is)

pub returns-in-Some-behind-clause-begun : goal.returns-in-Some-behind-clause-begun
returns-in-Some-behind-clause-begun g c is = absurd (never_true is)

pub returns-in-Some-behind-clause-again : goal.returns-in-Some-behind-clause-again
returns-in-Some-behind-clause-again g c = rw (none_kept c.args.self.now.refused c.in_default.not-Some) tt

pub returns-in-Some-behind-clause-keeps : goal.returns-in-Some-behind-clause-keeps
returns-in-Some-behind-clause-keeps g c = c.advance-moved.ensures.keeps

pub returns-in-Some-behind-clause-full : goal.returns-in-Some-behind-clause-full
returns-in-Some-behind-clause-full g c none is = absurd (never_err Bool false memory is)

pub returns-in-None-clause-language : goal.returns-in-None-clause-language
returns-in-None-clause-language g c is =
    let same = c.advance-moved.ensures.none (c.in-Ok.is ∙ ap (λ o. Ok o) c.in-None.is) in
    same.2

pub returns-in-None-clause-frames : goal.returns-in-None-clause-frames
returns-in-None-clause-frames g c is =
    let same = c.advance-moved.ensures.none (c.in-Ok.is ∙ ap (λ o. Ok o) c.in-None.is) in
    same.3

pub returns-in-None-clause-parts : goal.returns-in-None-clause-parts
returns-in-None-clause-parts g c is =
    let same = c.advance-moved.ensures.none (c.in-Ok.is ∙ ap (λ o. Ok o) c.in-None.is) in
    same.4

pub returns-in-None-clause-closed : goal.returns-in-None-clause-closed
returns-in-None-clause-closed g c is =
    let same = c.advance-moved.ensures.none (c.in-Ok.is ∙ ap (λ o. Ok o) c.in-None.is) in
    same.3 ∙ same.0

pub returns-in-None-clause-begun : goal.returns-in-None-clause-begun
returns-in-None-clause-begun g c is =
    let same = c.advance-moved.ensures.none (c.in-Ok.is ∙ ap (λ o. Ok o) c.in-None.is) in
    same.1

pub returns-in-None-clause-again : goal.returns-in-None-clause-again
returns-in-None-clause-again g c = rw (none_kept c.args.self.now.refused c.in_default.not-Some) tt

pub returns-in-None-clause-keeps : goal.returns-in-None-clause-keeps
returns-in-None-clause-keeps g c = c.advance-moved.ensures.keeps

pub returns-in-None-clause-full : goal.returns-in-None-clause-full
returns-in-None-clause-full g c none is = absurd (never_err Bool true memory is)

pub returns-in-Err-clause-language : goal.returns-in-Err-clause-language
returns-in-Err-clause-language g c is = absurd (never_ok Bool c.in-Err.refusal true is)

pub returns-in-Err-clause-frames : goal.returns-in-Err-clause-frames
returns-in-Err-clause-frames g c is = absurd (never_ok Bool c.in-Err.refusal true is)

pub returns-in-Err-clause-parts : goal.returns-in-Err-clause-parts
returns-in-Err-clause-parts g c is = absurd (never_ok Bool c.in-Err.refusal true is)

pub returns-in-Err-clause-next : goal.returns-in-Err-clause-next
returns-in-Err-clause-next g c is = absurd (never_ok Bool c.in-Err.refusal true is)

pub returns-in-Err-clause-closed : goal.returns-in-Err-clause-closed
returns-in-Err-clause-closed g c is = absurd (never_ok Bool c.in-Err.refusal true is)

pub returns-in-Err-clause-begun : goal.returns-in-Err-clause-begun
returns-in-Err-clause-begun g c is = absurd (never_ok Bool c.in-Err.refusal true is)

pub returns-in-Err-clause-again : goal.returns-in-Err-clause-again
returns-in-Err-clause-again g c = rw (none_kept c.args.self.now.refused c.in_default.not-Some) tt
