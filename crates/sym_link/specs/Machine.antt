-- A machine that unfolds a tree without recursion. It holds the rules that are open, the innermost first.
use Rattle.std.specs.Prelude.{ℕ, ◌+◌, List, [], ◌∷◌, ◌++◌, length, Result, Ok}
use Rattle.sym_core.specs.declared.refusal.Refusal.{Refusal}
use Rattle.sym_shape.specs.declared.rule.Row.{Row}
use Rattle.sym_shape.specs.Tree.{Tree, Forest, branch, empty, token, fixed, nothing, grown, spell, row_count_all, rows_of_all}
use Rattle.sym_link.specs.Reading.{Found, Open, Reading, ◌>>=◌}
use Rattle.sym_link.specs.Unfold.{found, standing, unfold_forest}

-- An open rule: its remaining parts, the place at which they begin, and the values so far of the rule around it.
pub record Frame (V S C : Type 0) : Type 0 where
  pub rule : Open S C
  pub from : ℕ
  pub left : Forest
  pub outer : List V

-- the open rules, and the values of the innermost one's parts so far
pub record Machine (V S C : Type 0) : Type 0 where
  pub frames : List (Frame V S C)
  pub known : List V
  pub state : S

abbrev pub frame : {V S C : Type 0} → Open S C → (from : ℕ) → (left : Forest) → (outer : List V) → Frame V S C
frame rule from left outer = record { rule = rule; from = from; left = left; outer = outer }

abbrev pub machine : {V S C : Type 0} → List (Frame V S C) → (known : List V) → S → Machine V S C
machine frames known state = record { frames = frames; known = known; state = state }

-- the result for the open rules
abbrev pub outcome_of : {V S C : Type 0} → Reading V S C → List (Frame V S C) → (known : List V) → S → Result (Found (List V) S) Refusal
outcome_of reading [] known state = Ok (found known state)
outcome_of reading (top ∷ frames) known state =
    unfold_forest reading top.rule known top.from top.left state
    >>= λ inner. reading.close top.rule inner.value inner.state
    >>= λ whole. outcome_of reading frames (top.outer ++ whole.value ∷ []) whole.state

abbrev pub outcome : {V S C : Type 0} → Reading V S C → Machine V S C → Result (Found (List V) S) Refusal
outcome reading m = outcome_of reading m.frames m.known m.state

-- A tree begins after these values: its rule opens, or its value is known at once.
abbrev pub entered : {V S C : Type 0} → Reading V S C → C → (place : ℕ) → Tree → List (Frame V S C) → (known : List V) → S → Result (Machine V S C) Refusal
entered reading context place (branch rule taken parts) frames known state =
    reading.begin (standing rule taken place context state) parts
    >>= λ begun. Ok (machine (frame (standing rule taken place context state) (place + length taken) parts known ∷ frames) [] begun)
entered reading context place empty frames known state = Ok (machine frames (known ++ reading.rowless) state)
entered reading context place (fixed byte) frames known state = Ok (machine frames (known ++ reading.rowless) state)
entered reading context place (token t) frames known state =
    reading.token place t state >>= λ one. Ok (machine frames (known ++ one.value ∷ []) one.state)

-- a rule past its next parts that have no row: the remaining parts, their place, and the known values and the state at
-- that place
pub record Passed (V S : Type 0) : Type 0 where
  pub known : List V
  pub from : ℕ
  pub left : Forest
  pub state : S

-- the rule past its next parts that have no row
abbrev pub passed : {V S C : Type 0} → Reading V S C → Open S C → (known : List V) → (from : ℕ) → Forest → S → Result (Passed V S) Refusal
passed reading rule known from (grown empty rest) state =
    reading.between rule known state >>= λ next. passed reading rule (next.values ++ reading.rowless) from rest next.state
passed reading rule known from (grown (fixed byte) rest) state =
    reading.between rule known state >>= λ next. passed reading rule (next.values ++ reading.rowless) (from + 1) rest next.state
passed reading rule known from left state = Ok (record { known = known; from = from; left = left; state = state })

-- the meaning of a rule whose remaining parts have no row
abbrev pub ended : {V S C : Type 0} → Reading V S C → Open S C → (known : List V) → (from : ℕ) → (left : Forest) → S → Result (Found V S) Refusal
ended reading rule known from left state = passed reading rule known from left state >>= λ p. reading.close rule p.known p.state

-- The next part of the innermost rule begins, or the rule closes.
abbrev pub advanced : {V S C : Type 0} → Reading V S C → Frame V S C → List (Frame V S C) → (known : List V) → (from : ℕ) → Forest → S → Result (Machine V S C) Refusal
advanced reading top frames known from nothing state =
    reading.close top.rule known state >>= λ whole. Ok (machine frames (top.outer ++ whole.value ∷ []) whole.state)
advanced reading top frames known from (grown first rest) state =
    reading.between top.rule known state
    >>= λ next. entered reading next.context from first (frame top.rule (from + length (spell first)) rest top.outer ∷ frames) next.values next.state

-- A step takes a row or closes a rule. With no open rule nothing is left to do.
abbrev pub step_of : {V S C : Type 0} → Reading V S C → List (Frame V S C) → (known : List V) → S → Result (Machine V S C) Refusal
step_of reading [] known state = Ok (machine [] known state)
step_of reading (top ∷ frames) known state =
    passed reading top.rule known top.from top.left state
    >>= λ p. advanced reading top frames p.known p.from p.left p.state

-- the rows that are left, the next having this number
abbrev pub pending : {V S C : Type 0} → List (Frame V S C) → (number : ℕ) → List Row
pending [] number = []
pending (top ∷ frames) number = rows_of_all top.left top.from number ++ pending frames (number + row_count_all top.left)

-- no part without a row comes next
abbrev pub HasRowNext : Forest → Type 0
HasRowNext (grown empty rest) = ⊥
HasRowNext (grown (fixed byte) rest) = ⊥
HasRowNext left = Unit {0}
