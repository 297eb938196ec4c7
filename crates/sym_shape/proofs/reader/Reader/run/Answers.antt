use Rattle.sym_shape.proofs.Basics.{◌∙◌, refl, sym, ap, subst, arith, Err, Memory as memory, BeginsWellShaped, IsRun, Fed, IsReason}
use Rattle.sym_shape.proofs.Feeding.{unrefused, fed_begins, run_reason, fed_run_stops}
use Rattle.sym_shape.proofs.Keeping.{never_both, never_err, never_done}
use Rattle.sym_shape.proofs.reader.Reader.run.Goals as goal

pub returns-then-self-clause-wants : goal.returns-then-self-clause-wants
returns-then-self-clause-wants g c =
    let inside = c.self.inside in
    subst (λ (v : Fed). BeginsWellShaped g.G.Grammar.table v.bytes) c.self.view_is (fed_begins g.G.Grammar.listed g.G.Grammar.table inside.bytes.items inside.ended inside.ready inside.refused inside.parse (unrefused inside.refused c.in_default.not-Some) c.if-self.true c.self.invariant)

pub invariant_of-self-in-Err : goal.invariant_of-self-in-Err
invariant_of-self-in-Err g c =
    let inside = c.self.inside in
    let stop = subst (λ u. IsRun g.G.Grammar.listed g.G.Grammar.table inside.ended u inside.parse c.run-outcome.new.self (Err c.in-Err.refusal)) c.deref.ensures.value c.in-Err.ensures.runs in
    fed_run_stops g.G.Grammar.listed g.G.Grammar.table inside.bytes.items inside.ended inside.parse c.run-outcome.new.self c.in-Err.refusal c.self.invariant.fits stop

pub returns-in-Err-clause-reason : goal.returns-in-Err-clause-reason
returns-in-Err-clause-reason g c =
    let inside = c.self.inside in
    let stop = subst (λ u. IsRun g.G.Grammar.listed g.G.Grammar.table inside.ended u inside.parse c.run-outcome.new.self (Err c.in-Err.refusal)) c.deref.ensures.value c.in-Err.ensures.runs in
    subst (λ (v : Fed). IsReason g.G.Grammar.table v.ended v.bytes c.in-Err.refusal) c.self.view_is (run_reason g.G.Grammar.listed g.G.Grammar.table inside.ended inside.bytes.items inside.parse c.run-outcome.new.self c.in-Err.refusal stop).0

pub returns-in-Some-clause-bytes : goal.returns-in-Some-clause-bytes
returns-in-Some-clause-bytes g c = refl

pub returns-in-Some-clause-ended : goal.returns-in-Some-clause-ended
returns-in-Some-clause-ended g c = refl

pub returns-in-Some-clause-byte_room : goal.returns-in-Some-clause-byte_room
returns-in-Some-clause-byte_room g c = refl

pub returns-in-Some-clause-room : goal.returns-in-Some-clause-room
returns-in-Some-clause-room g c = (omega arith, omega arith)

pub returns-in-Some-clause-bounded : goal.returns-in-Some-clause-bounded
returns-in-Some-clause-bounded g c = (omega arith, omega arith)

pub returns-in-Some-clause-again : goal.returns-in-Some-clause-again
returns-in-Some-clause-again g c = rw (sym (ap (λ (v : Fed). v.refused) c.self.view_is) ∙ c.in-Some.is) (refl, refl)

pub returns-in-Some-clause-done : goal.returns-in-Some-clause-done
returns-in-Some-clause-done g c is = refl

pub returns-in-Some-clause-steps : goal.returns-in-Some-clause-steps
returns-in-Some-clause-steps g c = omega arith

pub returns-in-Some-clause-rows : goal.returns-in-Some-clause-rows
returns-in-Some-clause-rows g c = omega arith

pub returns-in-Some-clause-wants : goal.returns-in-Some-clause-wants
returns-in-Some-clause-wants g c = tt

pub returns-in-Some-clause-open : goal.returns-in-Some-clause-open
returns-in-Some-clause-open g c = tt

pub returns-in-Some-clause-refused : goal.returns-in-Some-clause-refused
returns-in-Some-clause-refused g c = (sym (ap (λ (v : Fed). v.refused) c.self.view_is) ∙ c.in-Some.is)

pub returns-in-Some-clause-full : goal.returns-in-Some-clause-full
returns-in-Some-clause-full g c none = absurd (never_both c.args.self.now.refused c.in-Some.refusal (sym (ap (λ (v : Fed). v.refused) c.self.view_is) ∙ c.in-Some.is) none)

pub returns-then-self-clause-bytes : goal.returns-then-self-clause-bytes
returns-then-self-clause-bytes g c = refl

pub returns-then-self-clause-ended : goal.returns-then-self-clause-ended
returns-then-self-clause-ended g c = refl

pub returns-then-self-clause-byte_room : goal.returns-then-self-clause-byte_room
returns-then-self-clause-byte_room g c = refl

pub returns-then-self-clause-room : goal.returns-then-self-clause-room
returns-then-self-clause-room g c = (omega arith, omega arith)

pub returns-then-self-clause-bounded : goal.returns-then-self-clause-bounded
returns-then-self-clause-bounded g c = (omega arith, omega arith)

pub returns-then-self-clause-again : goal.returns-then-self-clause-again
returns-then-self-clause-again g c = rw (sym (ap (λ (v : Fed). v.refused) c.self.view_is) ∙ unrefused c.self.inside.refused c.in_default.not-Some) tt

pub returns-then-self-clause-done : goal.returns-then-self-clause-done
returns-then-self-clause-done g c is = refl

pub returns-then-self-clause-steps : goal.returns-then-self-clause-steps
returns-then-self-clause-steps g c = omega arith

pub returns-then-self-clause-rows : goal.returns-then-self-clause-rows
returns-then-self-clause-rows g c = omega arith

pub returns-then-self-clause-open : goal.returns-then-self-clause-open
returns-then-self-clause-open g c = (sym (ap (λ (v : Fed). v.refused) c.self.view_is) ∙ unrefused c.self.inside.refused c.in_default.not-Some)

pub returns-then-self-clause-refused : goal.returns-then-self-clause-refused
returns-then-self-clause-refused g c = tt

pub returns-then-self-clause-reason : goal.returns-then-self-clause-reason
returns-then-self-clause-reason g c = tt

pub returns-then-self-clause-full : goal.returns-then-self-clause-full
returns-then-self-clause-full g c none is = absurd (never_err (Unit {0}) tt memory is)

pub returns-in-Ok-clause-bytes : goal.returns-in-Ok-clause-bytes
returns-in-Ok-clause-bytes g c = ap (λ (v : Fed). v.bytes) c.self.view_is

pub returns-in-Ok-clause-ended : goal.returns-in-Ok-clause-ended
returns-in-Ok-clause-ended g c = ap (λ (v : Fed). v.ended) c.self.view_is

pub returns-in-Ok-clause-byte_room : goal.returns-in-Ok-clause-byte_room
returns-in-Ok-clause-byte_room g c = ap (λ (v : Fed). v.byte_room) c.self.view_is

pub returns-in-Ok-clause-ready : goal.returns-in-Ok-clause-ready
returns-in-Ok-clause-ready g c = ap (λ (v : Fed). v.ended) c.self.view_is

pub returns-in-Ok-clause-again : goal.returns-in-Ok-clause-again
returns-in-Ok-clause-again g c = rw (sym (ap (λ (v : Fed). v.refused) c.self.view_is) ∙ unrefused c.self.inside.refused c.in_default.not-Some) tt

pub returns-in-Ok-clause-done : goal.returns-in-Ok-clause-done
returns-in-Ok-clause-done g c ready = absurd (never_done c.self.inside.ready (ap (λ (v : Fed). v.ready) c.self.view_is ∙ ready) c.if-self.false)

pub returns-in-Ok-clause-open : goal.returns-in-Ok-clause-open
returns-in-Ok-clause-open g c = unrefused c.self.inside.refused c.in_default.not-Some

pub returns-in-Ok-clause-refused : goal.returns-in-Ok-clause-refused
returns-in-Ok-clause-refused g c = tt

pub returns-in-Ok-clause-reason : goal.returns-in-Ok-clause-reason
returns-in-Ok-clause-reason g c = tt

pub returns-in-Ok-clause-full : goal.returns-in-Ok-clause-full
returns-in-Ok-clause-full g c none is = absurd (never_err (Unit {0}) tt memory is)

pub returns-in-Err-clause-bytes : goal.returns-in-Err-clause-bytes
returns-in-Err-clause-bytes g c = ap (λ (v : Fed). v.bytes) c.self.view_is

pub returns-in-Err-clause-ended : goal.returns-in-Err-clause-ended
returns-in-Err-clause-ended g c = ap (λ (v : Fed). v.ended) c.self.view_is

pub returns-in-Err-clause-byte_room : goal.returns-in-Err-clause-byte_room
returns-in-Err-clause-byte_room g c = ap (λ (v : Fed). v.byte_room) c.self.view_is

pub returns-in-Err-clause-ready : goal.returns-in-Err-clause-ready
returns-in-Err-clause-ready g c = ap (λ (v : Fed). v.ended) c.self.view_is

pub returns-in-Err-clause-again : goal.returns-in-Err-clause-again
returns-in-Err-clause-again g c = rw (sym (ap (λ (v : Fed). v.refused) c.self.view_is) ∙ unrefused c.self.inside.refused c.in_default.not-Some) tt

pub returns-in-Err-clause-done : goal.returns-in-Err-clause-done
returns-in-Err-clause-done g c ready = absurd (never_done c.self.inside.ready (ap (λ (v : Fed). v.ready) c.self.view_is ∙ ready) c.if-self.false)

pub returns-in-Err-clause-wants : goal.returns-in-Err-clause-wants
returns-in-Err-clause-wants g c = tt

pub returns-in-Err-clause-open : goal.returns-in-Err-clause-open
returns-in-Err-clause-open g c = tt

pub returns-in-Err-clause-refused : goal.returns-in-Err-clause-refused
returns-in-Err-clause-refused g c = refl
