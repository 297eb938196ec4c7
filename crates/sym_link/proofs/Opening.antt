-- A step of the machine that begins a rule or takes a token, and its result.
use Rattle.sym_link.proofs.Basics.{◌≡◌, refl, sym, ◌∙◌, ap, arith, ℕ, ◌+◌, List, [], ◌∷◌, ◌++◌, length, length-append, Ok, IfOk, Rule, Token, Forest, branch, empty, token, fixed, nothing, grown, spell, Found, Open, Reading, ◌>>=◌, found, standing, unfold_tree, skipped, passed_by, skipped_from, values_in, next_of, Begun, begun, taken_in}
use Rattle.sym_link.specs.Machine.{Frame, Machine, frame, machine, outcome_of, outcome, entered, Passed, passed, advanced, step_of}
use Rattle.sym_link.proofs.Steps.{bind_assoc, bind_same, entered_outcome, step_outcome}
use Rattle.sym_link.proofs.Results.{bind_where, bind_ok, ok_any, ok_bind, ok_weaker}

-- the parts after those that have no row, and their place
record IsSkipped {V S : Type 0} (from : ℕ) (left : Forest) (p : Passed V S) : Type 0 where
  left_is : p.left ≡ skipped left
  from_is : p.from ≡ skipped_from from left

passed_skips : {V S C : Type 0} (reading : Reading V S C) (rule : Open S C) (known : List V) (from : ℕ) (left : Forest) (state : S)
    → IfOk (passed reading rule known from left state) (IsSkipped from left)
passed_skips reading rule known from (grown empty rest) state =
    ok_any (reading.between rule known state) (λ next. passed reading rule (next.values ++ reading.rowless) from rest next.state) (IsSkipped from (grown empty rest))
    (λ next. ok_weaker (passed reading rule (next.values ++ reading.rowless) from rest next.state) (IsSkipped from rest) (IsSkipped from (grown empty rest))
    (λ p is. record { left_is = is.left_is; from_is = is.from_is }) (passed_skips reading rule (next.values ++ reading.rowless) from rest next.state))
passed_skips reading rule known from (grown (fixed byte) rest) state =
    ok_any (reading.between rule known state) (λ next. passed reading rule (next.values ++ reading.rowless) (from + 1) rest next.state) (IsSkipped from (grown (fixed byte) rest))
    (λ next. ok_weaker (passed reading rule (next.values ++ reading.rowless) (from + 1) rest next.state) (IsSkipped (from + 1) rest) (IsSkipped from (grown (fixed byte) rest))
    (λ p is. record { left_is = is.left_is; from_is = is.from_is }) (passed_skips reading rule (next.values ++ reading.rowless) (from + 1) rest next.state))
passed_skips reading rule known from (grown (branch r taken parts) rest) state = record { left_is = refl; from_is = refl }
passed_skips reading rule known from (grown (token t) rest) state = record { left_is = refl; from_is = refl }
passed_skips reading rule known from nothing state = record { left_is = refl; from_is = refl }

-- ## A rule begins

-- the machine after the step in which a rule begins
abbrev pub machine_in : {V S C : Type 0} → Frame V S C → List (Frame V S C) → (from behind : ℕ) → (inner rest : Forest) → Begun V S C → Machine V S C
machine_in top frames from behind inner rest b = machine (frame b.rule from inner b.values ∷ frame top.rule behind rest top.outer ∷ frames) [] b.state

advanced_rule : {V S C : Type 0} (reading : Reading V S C) (top : Frame V S C) (frames : List (Frame V S C)) (known : List V) (state : S)
    (rule : Rule) (taken : List ℕ) (inner rest : Forest) (from place : ℕ) (left : Forest) → left ≡ grown (branch rule taken inner) rest → from ≡ place
    → advanced reading top frames known from left state
    ≡ ((reading.between top.rule known state >>= begun reading rule taken place inner)
    >>= λ b. Ok (machine_in top frames (place + length taken) (place + length (spell (branch rule taken inner))) inner rest b))
advanced_rule reading top frames known state rule taken inner rest from place left left_is from_is =
    let after = machine_in top frames (place + length taken) (place + length (spell (branch rule taken inner))) inner rest in
    let behind = frame top.rule (place + length (spell (branch rule taken inner))) rest top.outer in
    rw (left_is, from_is)
    (bind_same (reading.between top.rule known state)
    (λ next. entered reading next.context place (branch rule taken inner) (behind ∷ frames) next.values next.state)
    (λ next. begun reading rule taken place inner next >>= λ b. Ok (after b))
    (λ next. sym (bind_assoc (reading.begin (standing rule taken place next.context next.state) inner)
    (λ st. Ok (record { rule = standing rule taken place next.context next.state; values = next.values; state = st })) (λ b. Ok (after b))))
    ∙ sym (bind_assoc (reading.between top.rule known state) (begun reading rule taken place inner) (λ b. Ok (after b))))

-- the step in which a rule begins
entering_step : {V S C : Type 0} (reading : Reading V S C) (top : Frame V S C) (frames : List (Frame V S C)) (known : List V) (state : S)
    (rule : Rule) (taken : List ℕ) (inner rest : Forest) → skipped top.left ≡ grown (branch rule taken inner) rest
    → step_of reading (top ∷ frames) known state
    ≡ ((next_of reading top.rule known top.from top.left state >>= begun reading rule taken (skipped_from top.from top.left) inner)
    >>= λ b. Ok (machine_in top frames (skipped_from top.from top.left + length taken) (skipped_from top.from top.left + length (spell (branch rule taken inner))) inner rest b))
entering_step reading top frames known state rule taken inner rest left_is =
    let place = skipped_from top.from top.left in
    let after = machine_in top frames (place + length taken) (place + length (spell (branch rule taken inner))) inner rest in
    let start = passed reading top.rule known top.from top.left state in
    bind_where start (λ p. advanced reading top frames p.known p.from p.left p.state)
    (λ p. (reading.between top.rule p.known p.state >>= begun reading rule taken place inner) >>= λ b. Ok (after b))
    (IsSkipped top.from top.left) (passed_skips reading top.rule known top.from top.left state)
    (λ p is. advanced_rule reading top frames p.known p.state rule taken inner rest p.from place p.left (is.left_is ∙ left_is) is.from_is)
    ∙ sym (bind_assoc start (λ p. reading.between top.rule p.known p.state >>= begun reading rule taken place inner) (λ b. Ok (after b)))
    ∙ ap (λ r. r >>= λ b. Ok (after b)) (sym (bind_assoc start (λ p. reading.between top.rule p.known p.state) (begun reading rule taken place inner)))

-- the result for the open rules when another rule begins
pub entering_outcome : {V S C : Type 0} (reading : Reading V S C) (top : Frame V S C) (frames : List (Frame V S C)) (known : List V) (state : S)
    (rule : Rule) (taken : List ℕ) (inner rest : Forest) → skipped top.left ≡ grown (branch rule taken inner) rest
    → ((next_of reading top.rule known top.from top.left state >>= begun reading rule taken (skipped_from top.from top.left) inner)
    >>= λ b. outcome reading (machine_in top frames (skipped_from top.from top.left + length taken) (skipped_from top.from top.left + length (spell (branch rule taken inner))) inner rest b))
    ≡ outcome_of reading (top ∷ frames) known state
entering_outcome reading top frames known state rule taken inner rest left_is =
    let place = skipped_from top.from top.left in
    let after = machine_in top frames (place + length taken) (place + length (spell (branch rule taken inner))) inner rest in
    sym (bind_assoc (next_of reading top.rule known top.from top.left state >>= begun reading rule taken place inner) (λ b. Ok (after b)) (outcome reading))
    ∙ ap (λ r. r >>= outcome reading) (sym (entering_step reading top frames known state rule taken inner rest left_is))
    ∙ step_outcome reading (top ∷ frames) known state

-- the result for the whole when its rule begins
pub root_outcome : {V S C : Type 0} (reading : Reading V S C) (context : C) (state : S) (rule : Rule) (taken : List ℕ) (inner : Forest)
    → (begun reading rule taken 0 inner (record { context = context; values = []; state = state })
    >>= λ b. outcome_of reading (frame b.rule (0 + length taken) inner b.values ∷ []) [] b.state)
    ≡ unfold_tree reading context 0 (branch rule taken inner) state
root_outcome reading context state rule taken inner =
    bind_assoc (reading.begin (standing rule taken 0 context state) inner)
    (λ st. Ok (record { rule = standing rule taken 0 context state; values = []; state = st }))
    (λ b. outcome_of reading (frame b.rule (0 + length taken) inner b.values ∷ []) [] b.state)
    ∙ sym (bind_assoc (reading.begin (standing rule taken 0 context state) inner)
    (λ st. Ok (machine (frame (standing rule taken 0 context state) (0 + length taken) inner [] ∷ []) [] st)) (outcome reading))
    ∙ entered_outcome reading context 0 (branch rule taken inner) [] [] state
    ∙ bind_ok (unfold_tree reading context 0 (branch rule taken inner) state)

-- ## A token is taken

abbrev pub machine_at : {V S C : Type 0} → Frame V S C → List (Frame V S C) → (behind : ℕ) → (rest : Forest) → Found (List V) S → Machine V S C
machine_at top frames behind rest f = machine (frame top.rule behind rest top.outer ∷ frames) f.value f.state

advanced_token : {V S C : Type 0} (reading : Reading V S C) (top : Frame V S C) (frames : List (Frame V S C)) (known : List V) (state : S)
    (t : Token) (rest : Forest) (from place : ℕ) (left : Forest) → left ≡ grown (token t) rest → from ≡ place
    → advanced reading top frames known from left state
    ≡ ((reading.between top.rule known state >>= taken_in reading t place) >>= λ f. Ok (machine_at top frames (place + length (spell (token t))) rest f))
advanced_token reading top frames known state t rest from place left left_is from_is =
    let after = machine_at top frames (place + length (spell (token t))) rest in
    let behind = frame top.rule (place + length (spell (token t))) rest top.outer in
    rw (left_is, from_is)
    (bind_same (reading.between top.rule known state)
    (λ next. entered reading next.context place (token t) (behind ∷ frames) next.values next.state)
    (λ next. taken_in reading t place next >>= λ f. Ok (after f))
    (λ next. sym (bind_assoc (reading.token place t next.state) (λ one. Ok (found (next.values ++ one.value ∷ []) one.state)) (λ f. Ok (after f))))
    ∙ sym (bind_assoc (reading.between top.rule known state) (taken_in reading t place) (λ f. Ok (after f))))

token_step : {V S C : Type 0} (reading : Reading V S C) (top : Frame V S C) (frames : List (Frame V S C)) (known : List V) (state : S)
    (t : Token) (rest : Forest) → skipped top.left ≡ grown (token t) rest
    → step_of reading (top ∷ frames) known state
    ≡ ((next_of reading top.rule known top.from top.left state >>= taken_in reading t (skipped_from top.from top.left))
    >>= λ f. Ok (machine_at top frames (skipped_from top.from top.left + length (spell (token t))) rest f))
token_step reading top frames known state t rest left_is =
    let place = skipped_from top.from top.left in
    let after = machine_at top frames (place + length (spell (token t))) rest in
    let start = passed reading top.rule known top.from top.left state in
    bind_where start (λ p. advanced reading top frames p.known p.from p.left p.state)
    (λ p. (reading.between top.rule p.known p.state >>= taken_in reading t place) >>= λ f. Ok (after f))
    (IsSkipped top.from top.left) (passed_skips reading top.rule known top.from top.left state)
    (λ p is. advanced_token reading top frames p.known p.state t rest p.from place p.left (is.left_is ∙ left_is) is.from_is)
    ∙ sym (bind_assoc start (λ p. reading.between top.rule p.known p.state >>= taken_in reading t place) (λ f. Ok (after f)))
    ∙ ap (λ r. r >>= λ f. Ok (after f)) (sym (bind_assoc start (λ p. reading.between top.rule p.known p.state) (taken_in reading t place)))

-- the result for the open rules when a token is taken
pub token_outcome : {V S C : Type 0} (reading : Reading V S C) (top : Frame V S C) (frames : List (Frame V S C)) (known : List V) (state : S)
    (t : Token) (rest : Forest) → skipped top.left ≡ grown (token t) rest
    → ((next_of reading top.rule known top.from top.left state >>= taken_in reading t (skipped_from top.from top.left))
    >>= λ f. outcome reading (machine_at top frames (skipped_from top.from top.left + length (spell (token t))) rest f))
    ≡ outcome_of reading (top ∷ frames) known state
token_outcome reading top frames known state t rest left_is =
    let place = skipped_from top.from top.left in
    let after = machine_at top frames (place + length (spell (token t))) rest in
    sym (bind_assoc (next_of reading top.rule known top.from top.left state >>= taken_in reading t place) (λ f. Ok (after f)) (outcome reading))
    ∙ ap (λ r. r >>= outcome reading) (sym (token_step reading top frames known state t rest left_is))
    ∙ step_outcome reading (top ∷ frames) known state

-- ## How many values are known

-- `between` keeps the number of values
abbrev pub KeepsCount : {V S C : Type 0} → Reading V S C → Type 0
KeepsCount {V = V} {S = S} {C = C} reading =
    (rule : Open S C) (known : List V) (state : S) → IfOk (reading.between rule known state) (λ next. length next.values ≡ length known)

passed_count : {V S C : Type 0} (reading : Reading V S C) → KeepsCount reading → (rule : Open S C) (known : List V) (from : ℕ) (left : Forest) (state : S)
    → IfOk (passed reading rule known from left state) (λ p. length p.known ≡ length known + values_in (length reading.rowless) (passed_by left))
passed_count {V = V} {S = S} reading keeps rule known from (grown empty rest) state =
    ok_bind (reading.between rule known state) (λ next. passed reading rule (next.values ++ reading.rowless) from rest next.state)
    (λ next. length next.values ≡ length known) (λ p. length p.known ≡ length known + values_in (length reading.rowless) (passed_by (grown empty rest)))
    (keeps rule known state)
    (λ next kept. ok_weaker (passed reading rule (next.values ++ reading.rowless) from rest next.state)
    (λ p. length p.known ≡ length (next.values ++ reading.rowless) + values_in (length reading.rowless) (passed_by rest))
    (λ p. length p.known ≡ length known + values_in (length reading.rowless) (passed_by (grown empty rest)))
    (λ p is. omega (arith, is, kept, length-append next.values reading.rowless)) (passed_count reading keeps rule (next.values ++ reading.rowless) from rest next.state))
passed_count reading keeps rule known from (grown (fixed byte) rest) state =
    ok_bind (reading.between rule known state) (λ next. passed reading rule (next.values ++ reading.rowless) (from + 1) rest next.state)
    (λ next. length next.values ≡ length known) (λ p. length p.known ≡ length known + values_in (length reading.rowless) (passed_by (grown (fixed byte) rest)))
    (keeps rule known state)
    (λ next kept. ok_weaker (passed reading rule (next.values ++ reading.rowless) (from + 1) rest next.state)
    (λ p. length p.known ≡ length (next.values ++ reading.rowless) + values_in (length reading.rowless) (passed_by rest))
    (λ p. length p.known ≡ length known + values_in (length reading.rowless) (passed_by (grown (fixed byte) rest)))
    (λ p is. omega (arith, is, kept, length-append next.values reading.rowless)) (passed_count reading keeps rule (next.values ++ reading.rowless) (from + 1) rest next.state))
passed_count reading keeps rule known from (grown (branch r taken parts) rest) state = omega arith
passed_count reading keeps rule known from (grown (token t) rest) state = omega arith
passed_count reading keeps rule known from nothing state = omega arith

pub next_count : {V S C : Type 0} (reading : Reading V S C) → KeepsCount reading → (rule : Open S C) (known : List V) (from : ℕ) (left : Forest) (state : S)
    → IfOk (next_of reading rule known from left state) (λ next. length next.values ≡ length known + values_in (length reading.rowless) (passed_by left))
next_count reading keeps rule known from left state =
    ok_bind (passed reading rule known from left state) (λ p. reading.between rule p.known p.state)
    (λ p. length p.known ≡ length known + values_in (length reading.rowless) (passed_by left))
    (λ next. length next.values ≡ length known + values_in (length reading.rowless) (passed_by left))
    (passed_count reading keeps rule known from left state)
    (λ p is. ok_weaker (reading.between rule p.known p.state) (λ next. length next.values ≡ length p.known)
    (λ next. length next.values ≡ length known + values_in (length reading.rowless) (passed_by left))
    (λ next kept. kept ∙ is) (keeps rule p.known p.state))

-- the rule that begins, and how many values are known around it
abbrev pub BeginsBehind : {V S C : Type 0} → Reading V S C → (known : List V) → (left : Forest) → Rule → (taken : List ℕ) → (place : ℕ) → Begun V S C → Type 0
BeginsBehind {S = S} {C = C} reading known left rule taken place b =
    (length b.values ≡ length known + values_in (length reading.rowless) (passed_by left))
    × ((context : C) × (before : S) × (b.rule ≡ standing rule taken place context before))

pub begun_count : {V S C : Type 0} (reading : Reading V S C) → KeepsCount reading → (rule : Open S C) (known : List V) (from : ℕ) (left : Forest) (state : S)
    (inner_rule : Rule) (taken : List ℕ) (place : ℕ) (inner : Forest)
    → IfOk (next_of reading rule known from left state >>= begun reading inner_rule taken place inner) (BeginsBehind reading known left inner_rule taken place)
begun_count reading keeps rule known from left state inner_rule taken place inner =
    ok_bind (next_of reading rule known from left state) (begun reading inner_rule taken place inner)
    (λ next. length next.values ≡ length known + values_in (length reading.rowless) (passed_by left))
    (BeginsBehind reading known left inner_rule taken place)
    (next_count reading keeps rule known from left state)
    (λ next is. ok_any (reading.begin (standing inner_rule taken place next.context next.state) inner)
    (λ st. Ok (record { rule = standing inner_rule taken place next.context next.state; values = next.values; state = st }))
    (BeginsBehind reading known left inner_rule taken place)
    (λ st. (is, (next.context, next.state, refl))))

pub taken_count : {V S C : Type 0} (reading : Reading V S C) → KeepsCount reading → (rule : Open S C) (known : List V) (from : ℕ) (left : Forest) (state : S)
    (t : Token) (place : ℕ)
    → IfOk (next_of reading rule known from left state >>= taken_in reading t place)
    (λ f. length f.value ≡ length known + values_in (length reading.rowless) (passed_by left) + 1)
taken_count reading keeps rule known from left state t place =
    ok_bind (next_of reading rule known from left state) (taken_in reading t place)
    (λ next. length next.values ≡ length known + values_in (length reading.rowless) (passed_by left))
    (λ f. length f.value ≡ length known + values_in (length reading.rowless) (passed_by left) + 1)
    (next_count reading keeps rule known from left state)
    (λ next is. ok_any (reading.token place t next.state) (λ one. Ok (found (next.values ++ one.value ∷ []) one.state))
    (λ f. length f.value ≡ length known + values_in (length reading.rowless) (passed_by left) + 1)
    (λ one. omega (arith, is, length-append next.values (one.value ∷ []))))
