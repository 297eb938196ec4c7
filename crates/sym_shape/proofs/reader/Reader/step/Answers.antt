use Rattle.sym_shape.proofs.Basics.{◌≡◌, ◌&&◌, ◌∙◌, refl, sym, ap, subst, arith, Bool, true, false, Err, Memory as memory, BeginsWellShaped, IsAdvance, Fed, IsReason}
use Rattle.sym_shape.proofs.Feeding.{unrefused, fed_begins, step_reason, fed_stops}
use Rattle.sym_shape.proofs.Keeping.{never_both, never_ok, never_err, never_false, never_true, never_done}
use Rattle.sym_shape.proofs.reader.Reader.step.Goals as goal

and_false : (b : Bool) → false ≡ b && false
and_false true = refl
and_false false = refl

pub returns-then-self-clause-wants : goal.returns-then-self-clause-wants
returns-then-self-clause-wants g c =
    let inside = c.self.inside in
    λ _. subst (λ (v : Fed). BeginsWellShaped g.G.Grammar.table v.bytes) c.self.view_is (fed_begins g.G.Grammar.listed g.G.Grammar.table inside.bytes.items inside.ended inside.ready inside.refused inside.parse (unrefused inside.refused c.in_default.not-Some) c.if-self.true c.self.invariant)

pub invariant_of-self-in-Err : goal.invariant_of-self-in-Err
invariant_of-self-in-Err g c =
    let inside = c.self.inside in
    let stop = subst (λ u. IsAdvance g.G.Grammar.listed g.G.Grammar.table inside.ended u inside.parse c.advance.new.self (Err c.in-Err.refusal)) c.deref.ensures.value c.in-Err.ensures.moves in
    fed_stops g.G.Grammar.listed g.G.Grammar.table inside.bytes.items inside.ended inside.ready inside.refused inside.parse c.advance.new.self c.in-Err.refusal (unrefused inside.refused c.in_default.not-Some) c.self.invariant stop

pub returns-in-Err-clause-reason : goal.returns-in-Err-clause-reason
returns-in-Err-clause-reason g c =
    let inside = c.self.inside in
    let stop = subst (λ u. IsAdvance g.G.Grammar.listed g.G.Grammar.table inside.ended u inside.parse c.advance.new.self (Err c.in-Err.refusal)) c.deref.ensures.value c.in-Err.ensures.moves in
    subst (λ (v : Fed). IsReason g.G.Grammar.table v.ended v.bytes c.in-Err.refusal) c.self.view_is (step_reason g.G.Grammar.listed g.G.Grammar.table inside.ended inside.bytes.items inside.parse c.advance.new.self c.in-Err.refusal stop).0

pub returns-in-Some-clause-bytes : goal.returns-in-Some-clause-bytes
returns-in-Some-clause-bytes g c = refl

pub returns-in-Some-clause-ended : goal.returns-in-Some-clause-ended
returns-in-Some-clause-ended g c = refl

pub returns-in-Some-clause-byte_room : goal.returns-in-Some-clause-byte_room
returns-in-Some-clause-byte_room g c = refl

pub returns-in-Some-clause-room : goal.returns-in-Some-clause-room
returns-in-Some-clause-room g c = (omega arith, omega arith)

pub returns-in-Some-clause-bounded : goal.returns-in-Some-clause-bounded
returns-in-Some-clause-bounded g c = (omega arith, omega arith)

pub returns-in-Some-clause-again : goal.returns-in-Some-clause-again
returns-in-Some-clause-again g c = rw (sym (ap (λ (v : Fed). v.refused) c.self.view_is) ∙ c.in-Some.is) (refl, refl)

pub returns-in-Some-clause-done : goal.returns-in-Some-clause-done
returns-in-Some-clause-done g c is = refl

pub returns-in-Some-clause-moved : goal.returns-in-Some-clause-moved
returns-in-Some-clause-moved g c is = absurd (never_ok Bool c.in-Some.refusal false is)

pub returns-in-Some-clause-one_row : goal.returns-in-Some-clause-one_row
returns-in-Some-clause-one_row g c = omega arith

pub returns-in-Some-clause-wants : goal.returns-in-Some-clause-wants
returns-in-Some-clause-wants g c is = absurd (never_ok Bool c.in-Some.refusal true is)

pub returns-in-Some-clause-steps : goal.returns-in-Some-clause-steps
returns-in-Some-clause-steps g c is = absurd (never_ok Bool c.in-Some.refusal true is)

pub returns-in-Some-clause-rows : goal.returns-in-Some-clause-rows
returns-in-Some-clause-rows g c is = absurd (never_ok Bool c.in-Some.refusal true is)

pub returns-in-Some-clause-open : goal.returns-in-Some-clause-open
returns-in-Some-clause-open g c = tt

pub returns-in-Some-clause-refused : goal.returns-in-Some-clause-refused
returns-in-Some-clause-refused g c = (sym (ap (λ (v : Fed). v.refused) c.self.view_is) ∙ c.in-Some.is)

pub returns-in-Some-clause-counted : goal.returns-in-Some-clause-counted
returns-in-Some-clause-counted g c none = absurd (never_both c.args.self.now.refused c.in-Some.refusal (sym (ap (λ (v : Fed). v.refused) c.self.view_is) ∙ c.in-Some.is) none)

pub returns-in-Some-clause-full : goal.returns-in-Some-clause-full
returns-in-Some-clause-full g c none = absurd (never_both c.args.self.now.refused c.in-Some.refusal (sym (ap (λ (v : Fed). v.refused) c.self.view_is) ∙ c.in-Some.is) none)

pub returns-then-self-clause-bytes : goal.returns-then-self-clause-bytes
returns-then-self-clause-bytes g c = refl

pub returns-then-self-clause-ended : goal.returns-then-self-clause-ended
returns-then-self-clause-ended g c = refl

pub returns-then-self-clause-byte_room : goal.returns-then-self-clause-byte_room
returns-then-self-clause-byte_room g c = refl

pub returns-then-self-clause-room : goal.returns-then-self-clause-room
returns-then-self-clause-room g c = (omega arith, omega arith)

pub returns-then-self-clause-bounded : goal.returns-then-self-clause-bounded
returns-then-self-clause-bounded g c = (omega arith, omega arith)

pub returns-then-self-clause-again : goal.returns-then-self-clause-again
returns-then-self-clause-again g c = rw (sym (ap (λ (v : Fed). v.refused) c.self.view_is) ∙ unrefused c.self.inside.refused c.in_default.not-Some) tt

pub returns-then-self-clause-done : goal.returns-then-self-clause-done
returns-then-self-clause-done g c is = refl

pub returns-then-self-clause-moved : goal.returns-then-self-clause-moved
returns-then-self-clause-moved g c is = absurd (never_false is)

pub returns-then-self-clause-one_row : goal.returns-then-self-clause-one_row
returns-then-self-clause-one_row g c = omega arith

pub returns-then-self-clause-steps : goal.returns-then-self-clause-steps
returns-then-self-clause-steps g c is = refl

pub returns-then-self-clause-rows : goal.returns-then-self-clause-rows
returns-then-self-clause-rows g c is = refl

pub returns-then-self-clause-open : goal.returns-then-self-clause-open
returns-then-self-clause-open g c = (sym (ap (λ (v : Fed). v.refused) c.self.view_is) ∙ unrefused c.self.inside.refused c.in_default.not-Some)

pub returns-then-self-clause-refused : goal.returns-then-self-clause-refused
returns-then-self-clause-refused g c = tt

pub returns-then-self-clause-reason : goal.returns-then-self-clause-reason
returns-then-self-clause-reason g c = tt

pub returns-then-self-clause-counted : goal.returns-then-self-clause-counted
returns-then-self-clause-counted g c none = tt

pub returns-then-self-clause-full : goal.returns-then-self-clause-full
returns-then-self-clause-full g c none is = absurd (never_err Bool true memory is)

pub returns-in-Ok-true-clause-bytes : goal.returns-in-Ok-true-clause-bytes
returns-in-Ok-true-clause-bytes g c = ap (λ (v : Fed). v.bytes) c.self.view_is

pub returns-in-Ok-true-clause-ended : goal.returns-in-Ok-true-clause-ended
returns-in-Ok-true-clause-ended g c = ap (λ (v : Fed). v.ended) c.self.view_is

pub returns-in-Ok-true-clause-byte_room : goal.returns-in-Ok-true-clause-byte_room
returns-in-Ok-true-clause-byte_room g c = ap (λ (v : Fed). v.byte_room) c.self.view_is

pub returns-in-Ok-true-clause-again : goal.returns-in-Ok-true-clause-again
returns-in-Ok-true-clause-again g c = rw (sym (ap (λ (v : Fed). v.refused) c.self.view_is) ∙ unrefused c.self.inside.refused c.in_default.not-Some) tt

pub returns-in-Ok-true-clause-moved : goal.returns-in-Ok-true-clause-moved
returns-in-Ok-true-clause-moved g c is = absurd (never_false is)

pub returns-in-Ok-true-clause-open : goal.returns-in-Ok-true-clause-open
returns-in-Ok-true-clause-open g c = unrefused c.self.inside.refused c.in_default.not-Some

pub returns-in-Ok-true-clause-refused : goal.returns-in-Ok-true-clause-refused
returns-in-Ok-true-clause-refused g c = tt

pub returns-in-Ok-true-clause-reason : goal.returns-in-Ok-true-clause-reason
returns-in-Ok-true-clause-reason g c = tt

pub returns-in-Ok-true-clause-counted : goal.returns-in-Ok-true-clause-counted
returns-in-Ok-true-clause-counted g c none = tt

pub returns-in-Ok-true-clause-full : goal.returns-in-Ok-true-clause-full
returns-in-Ok-true-clause-full g c none is = absurd (never_err Bool true memory is)

pub returns-in-Ok-false-clause-bytes : goal.returns-in-Ok-false-clause-bytes
returns-in-Ok-false-clause-bytes g c = ap (λ (v : Fed). v.bytes) c.self.view_is

pub returns-in-Ok-false-clause-ended : goal.returns-in-Ok-false-clause-ended
returns-in-Ok-false-clause-ended g c = ap (λ (v : Fed). v.ended) c.self.view_is

pub returns-in-Ok-false-clause-byte_room : goal.returns-in-Ok-false-clause-byte_room
returns-in-Ok-false-clause-byte_room g c = ap (λ (v : Fed). v.byte_room) c.self.view_is

pub returns-in-Ok-false-clause-ready : goal.returns-in-Ok-false-clause-ready
returns-in-Ok-false-clause-ready g c = c.if-self.false ∙ and_false c.args.self.now.ended

pub returns-in-Ok-false-clause-again : goal.returns-in-Ok-false-clause-again
returns-in-Ok-false-clause-again g c = rw (sym (ap (λ (v : Fed). v.refused) c.self.view_is) ∙ unrefused c.self.inside.refused c.in_default.not-Some) tt

pub returns-in-Ok-false-clause-done : goal.returns-in-Ok-false-clause-done
returns-in-Ok-false-clause-done g c ready = absurd (never_done c.self.inside.ready (ap (λ (v : Fed). v.ready) c.self.view_is ∙ ready) c.if-self.false)

pub returns-in-Ok-false-clause-wants : goal.returns-in-Ok-false-clause-wants
returns-in-Ok-false-clause-wants g c is = absurd (never_true is)

pub returns-in-Ok-false-clause-steps : goal.returns-in-Ok-false-clause-steps
returns-in-Ok-false-clause-steps g c is = absurd (never_true is)

pub returns-in-Ok-false-clause-rows : goal.returns-in-Ok-false-clause-rows
returns-in-Ok-false-clause-rows g c is = absurd (never_true is)

pub returns-in-Ok-false-clause-open : goal.returns-in-Ok-false-clause-open
returns-in-Ok-false-clause-open g c = unrefused c.self.inside.refused c.in_default.not-Some

pub returns-in-Ok-false-clause-refused : goal.returns-in-Ok-false-clause-refused
returns-in-Ok-false-clause-refused g c = tt

pub returns-in-Ok-false-clause-reason : goal.returns-in-Ok-false-clause-reason
returns-in-Ok-false-clause-reason g c = tt

pub returns-in-Ok-false-clause-counted : goal.returns-in-Ok-false-clause-counted
returns-in-Ok-false-clause-counted g c none = tt

pub returns-in-Ok-false-clause-full : goal.returns-in-Ok-false-clause-full
returns-in-Ok-false-clause-full g c none is = absurd (never_err Bool false memory is)

pub returns-in-Err-clause-bytes : goal.returns-in-Err-clause-bytes
returns-in-Err-clause-bytes g c = ap (λ (v : Fed). v.bytes) c.self.view_is

pub returns-in-Err-clause-ended : goal.returns-in-Err-clause-ended
returns-in-Err-clause-ended g c = ap (λ (v : Fed). v.ended) c.self.view_is

pub returns-in-Err-clause-byte_room : goal.returns-in-Err-clause-byte_room
returns-in-Err-clause-byte_room g c = ap (λ (v : Fed). v.byte_room) c.self.view_is

pub returns-in-Err-clause-again : goal.returns-in-Err-clause-again
returns-in-Err-clause-again g c = rw (sym (ap (λ (v : Fed). v.refused) c.self.view_is) ∙ unrefused c.self.inside.refused c.in_default.not-Some) tt

pub returns-in-Err-clause-done : goal.returns-in-Err-clause-done
returns-in-Err-clause-done g c ready = absurd (never_done c.self.inside.ready (ap (λ (v : Fed). v.ready) c.self.view_is ∙ ready) c.if-self.false)

pub returns-in-Err-clause-moved : goal.returns-in-Err-clause-moved
returns-in-Err-clause-moved g c is = absurd (never_ok Bool c.in-Err.refusal false is)

pub returns-in-Err-clause-wants : goal.returns-in-Err-clause-wants
returns-in-Err-clause-wants g c is = absurd (never_ok Bool c.in-Err.refusal true is)

pub returns-in-Err-clause-steps : goal.returns-in-Err-clause-steps
returns-in-Err-clause-steps g c is = absurd (never_ok Bool c.in-Err.refusal true is)

pub returns-in-Err-clause-rows : goal.returns-in-Err-clause-rows
returns-in-Err-clause-rows g c is = absurd (never_ok Bool c.in-Err.refusal true is)

pub returns-in-Err-clause-open : goal.returns-in-Err-clause-open
returns-in-Err-clause-open g c = tt

pub returns-in-Err-clause-refused : goal.returns-in-Err-clause-refused
returns-in-Err-clause-refused g c = refl
