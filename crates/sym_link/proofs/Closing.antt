-- The result of a step of the machine where the innermost rule has no row left.
use Rattle.sym_link.proofs.Basics.{◌≡◌, refl, sym, ◌∙◌, ap, arith, ℕ, List, [], ◌∷◌, ◌++◌, Ok, Forest, branch, empty, token, fixed, nothing, grown, row_count_all, Reading, ◌>>=◌}
use Rattle.sym_link.specs.Machine.{Frame, machine, outcome_of, outcome, passed, ended, advanced, step_of, HasRowNext}
use Rattle.sym_link.proofs.Steps.{bind_assoc, step_outcome}
use Rattle.sym_link.proofs.Results.{IsPassed, bind_where, passed_rows}

-- if no row is left and no part without a row comes next, the rule closes
advanced_none : {V S C : Type 0} (reading : Reading V S C) (top : Frame V S C) (frames : List (Frame V S C)) (known : List V) (from : ℕ) (left : Forest) (state : S)
    → HasRowNext left → row_count_all left ≡ 0
    → advanced reading top frames known from left state ≡ (reading.close top.rule known state >>= λ whole. Ok (machine frames (top.outer ++ whole.value ∷ []) whole.state))
advanced_none reading top frames known from nothing state next none = refl
advanced_none reading top frames known from (grown empty rest) state next none = absurd next
advanced_none reading top frames known from (grown (fixed byte) rest) state next none = absurd next
advanced_none reading top frames known from (grown (token t) rest) state next none = absurd (omega (arith, none))
advanced_none reading top frames known from (grown (branch rule taken parts) rest) state next none = absurd (omega (arith, none))

-- the step after the last row of a rule
pub ended_step : {V S C : Type 0} (reading : Reading V S C) (top : Frame V S C) (frames : List (Frame V S C)) (known : List V) (state : S)
    → row_count_all top.left ≡ 0
    → step_of reading (top ∷ frames) known state
    ≡ (ended reading top.rule known top.from top.left state >>= λ whole. Ok (machine frames (top.outer ++ whole.value ∷ []) whole.state))
ended_step reading top frames known state none =
    bind_where (passed reading top.rule known top.from top.left state) (λ p. advanced reading top frames p.known p.from p.left p.state)
    (λ p. reading.close top.rule p.known p.state >>= λ whole. Ok (machine frames (top.outer ++ whole.value ∷ []) whole.state))
    (IsPassed top.left) (passed_rows reading top.rule known top.from top.left state)
    (λ p is. advanced_none reading top frames p.known p.from p.left p.state is.next (omega (arith, none, is.counts)))
    ∙ sym (bind_assoc (passed reading top.rule known top.from top.left state) (λ p. reading.close top.rule p.known p.state)
    (λ whole. Ok (machine frames (top.outer ++ whole.value ∷ []) whole.state)))

-- the result for the open rules when the innermost one closes
pub ended_outcome : {V S C : Type 0} (reading : Reading V S C) (top : Frame V S C) (frames : List (Frame V S C)) (known : List V) (state : S)
    → row_count_all top.left ≡ 0
    → (ended reading top.rule known top.from top.left state >>= λ whole. outcome_of reading frames (top.outer ++ whole.value ∷ []) whole.state)
    ≡ outcome_of reading (top ∷ frames) known state
ended_outcome reading top frames known state none =
    sym (bind_assoc (ended reading top.rule known top.from top.left state) (λ whole. Ok (machine frames (top.outer ++ whole.value ∷ []) whole.state)) (outcome reading))
    ∙ ap (λ r. r >>= outcome reading) (sym (ended_step reading top frames known state none))
    ∙ step_outcome reading (top ∷ frames) known state
