-- The parts of a rule that have no row change nothing in the reading of Rust symbols.
use Rattle.rust_v0.proofs.Basics.{◌≡◌, refl, arith, append-nil, ℕ, ◌+◌, List, Ok, Forest, branch, empty, token, fixed, nothing, grown, row_count_all, Open, next_of, Value, State, production_of, v0, meaning_of, at_rule, bound_behind, is_minus}
use Rattle.sym_link.specs.Machine.{ended}

pub v0_ended : (s : List ℕ) (rule : Open State ℕ) (known : List Value) (from : ℕ) (left : Forest) (state : State) → row_count_all left ≡ 0
    → ended (v0 s) rule known from left state ≡ meaning_of (production_of rule.rule.number) (at_rule s rule state) known
v0_ended s rule known from nothing state none = refl
v0_ended s rule known from (grown empty rest) state none = rw append-nil (v0_ended s rule known from rest _ (omega (arith, none)))
v0_ended s rule known from (grown (fixed byte) rest) state none = rw append-nil (v0_ended s rule known (from + 1) rest _ (omega (arith, none)))
v0_ended s rule known from (grown (token t) rest) state none = absurd (omega (arith, none))
v0_ended s rule known from (grown (branch r taken parts) rest) state none = absurd (omega (arith, none))

pub v0_next : (s : List ℕ) (rule : Open State ℕ) (known : List Value) (from : ℕ) (left : Forest) (state : State)
    → next_of (v0 s) rule known from left state ≡ Ok (record {
      context = bound_behind (production_of rule.rule.number) rule.context known;
      values = known;
      state = record { ended = state.ended; inside = production_of rule.rule.number; minus = is_minus known };
    })
v0_next s rule known from nothing state = refl
v0_next s rule known from (grown empty rest) state = rw append-nil (v0_next s rule known from rest _)
v0_next s rule known from (grown (fixed byte) rest) state = rw append-nil (v0_next s rule known (from + 1) rest _)
v0_next s rule known from (grown (token t) rest) state = refl
v0_next s rule known from (grown (branch r taken parts) rest) state = refl
