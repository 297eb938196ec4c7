-- The linker continues to the next part of a rule as the reading says.
use Rattle.cpp_link.proofs.Basics.{subst, ◌≡◌, refl, sym, ◌∙◌, ap, arith, ℕ, suc, ◌+◌, ◌-◌, ◌<◌, ◌≤◌, inl, List, [], ◌∷◌, ◌++◌, length, take, drop, Result, Ok, Err, length-drop, take-append-drop, err_from_is_err_and, Vec, vec_capacity, IsErrAnd, Global, Refusal, Memory, rest_all, Frame, Open, Next, Reading, Fails, View, Adds, AddsFew, owed_behind, owed_next, IsAt, GoesOn, Production, production_at, State, Value, Around, Continuation, between, done, cpp, both, Linked, Surroundings, Candidates, Part, Step, state_of, owes, trees_in, values_in, around_of, candidates_of, IsClosed, AreCandidatesThere, linked, goes_on, closes_of, closes, quiet_owed, closes_pushed, makes_before, Advances, KeepsRoom, LacksRoom, IsStepOf, Takes, CountsStep, nodes_of_step, quiet_parts, IsPaid, Surrounds, cpp_view}
use Rattle.cpp_link.proofs.Stepping.{step_owed}
use Rattle.cpp_link.proofs.Places.{values_length}
use Rattle.cpp_link.proofs.RowNodes.{quiet_part}
use Rattle.cpp_link.proofs.Rooms.{roomy_ok, roomy_refused}
use Rattle.cpp_link.proofs.Viewing.{parts_are, parts_all, held_state}

-- What is done before the next part of the frame's rule by this reading of the language, if these are the parts from the rule's
-- base on.
module _ (reading : Reading Value State Around) (before : Production → Around → ℕ → List Value → State → Continuation)
    (reads : (rule : Open State Around) (known : List Value) (state : State) → reading.between rule known state ≡ before (production_at rule.rule.number) rule.context rule.place known state)
    (s : List ℕ) (old : Linked) (frame : Frame Surroundings) (parts own : List Part) (production : Production) (same : own ≡ drop frame.base parts) (numbered : production ≡ production_at frame.rule) where
  abbrev view : View Linked Part Surroundings Value State Around
  view = record (cpp_view s) { reading = reading }

  abbrev around : Around
  around = around_of (trees_in s old.nodes) frame.kept

  read_is : (rule : Open State Around) (known : List Value) (state : State) → IsAt view s old frame (drop frame.base parts) rule known state
      → reading.between rule known state ≡ before production around frame.place (values_in s old.nodes own) (state_of s old)
  read_is rule known state is =
      reads rule known state
      ∙ same_before frame.rule rule.rule.number frame.place rule.place around rule.context (values_in s old.nodes (drop frame.base parts)) known (state_of s old) state
      is.number is.place is.kept.surrounds.is (parts_are s old (drop frame.base parts) known is.parts).1 (held_state s old state is.holds)
      ∙ both (λ p ps. before p around frame.place (values_in s old.nodes ps) (state_of s old)) (sym numbered) (sym same)
    where
      same_before : (m n q p : ℕ) (code context : Around) (us vs : List Value) (held state : State)
          → m ≡ n → q ≡ p → code ≡ context → us ≡ vs → held ≡ state
          → before (production_at n) context p vs state ≡ before (production_at m) code q us held
      same_before m n q p code context us vs held state number place surrounded known same = rw (number, place, surrounded, known, same) refl

  -- what the rule continues with
  abbrev gone : (mid : Linked) (new_parts : List Part) (then : Surroundings) → State → Next Value State Around
  gone mid new_parts then state = record { values = values_in s mid.nodes (drop frame.base new_parts); context = around_of (trees_in s mid.nodes) then; state = state }

  -- the step that was taken is the reading's, with the candidates as they are after marking
  pub goes_right : (mid : Linked) (more : Candidates) (new_parts : List Part) (step : Step) (then : Surroundings) (marking : Continuation → Continuation)
      → ((n : Next Value State Around) → before production around frame.place (values_in s old.nodes own) (state_of s old) ≡ Ok n → IsClosed around → IsClosed n.context)
      → before production around frame.place (values_in s old.nodes own) (record (state_of s old) { packs = old.packs })
      ≡ marking (goes_on s old.nodes frame.kept (values_in s old.nodes own) (state_of s old) old.packs step)
      → Takes s old mid frame.kept frame.base parts new_parts step then → AreCandidatesThere (length mid.nodes.nodes) more
      → marking (Ok (gone mid new_parts then (state_of s mid))) ≡ Ok (gone mid new_parts then (record (state_of s mid) { candidates = candidates_of (trees_in s mid.nodes) more.list.items }))
      → GoesOn view s (Surrounds s) old (record mid { candidates = more }) frame parts new_parts (Ok then)
  goes_right mid more new_parts step then marking closed step_is takes there marked rule known state is =
      let reached = step_is ∙ ap (λ ps. marking (goes_on s old.nodes frame.kept (values_in s old.nodes ps) (state_of s old) old.packs step)) same ∙ ap marking takes.is ∙ marked in (
        gone mid new_parts then (record (state_of s mid) { candidates = candidates_of (trees_in s mid.nodes) more.list.items }),
        read_is rule known state is ∙ reached,
        record {
          there = takes.around;
          is = refl;
          closed = closed _ reached (subst (λ a. IsClosed a) (sym is.kept.surrounds.is) is.kept.surrounds.closed);
        },
        record { table = takes.grows.table; there = there; candidates = refl; packs = refl; counting = refl },
        drop frame.base new_parts,
        sym (take-append-drop frame.base new_parts) ∙ ap (λ ps. ps ++ drop frame.base new_parts) takes.lower,
        parts_all s (record mid { candidates = more }) (drop frame.base new_parts) takes.there,
      )

  -- a refusal of the step is also the reading's refusal
  pub refused_right : (new : Linked) (new_parts : List Part) (e : Refusal)
      → Fails e (before production around frame.place (values_in s old.nodes own) (record (state_of s old) { packs = old.packs }))
      → GoesOn view s (Surrounds s) old new frame parts new_parts (Err e)
  refused_right new new_parts e refused rule known state is = rw (read_is rule known state is) refused

pub plain_reads : (s : List ℕ) (rule : Open State Around) (known : List Value) (state : State) → (linked s).between rule known state ≡ between (production_at rule.rule.number) rule.context rule.place known state
unfolding cpp
plain_reads s rule known state = refl

next_owes : (number held m : ℕ) (step : Step) → IsStepOf (production_at number) held step → m ≡ held → nodes_of_step step + owes number (m + 1) ≤ owes number held
unfolding owes
next_owes number held m step of same =
    let behind : m + 1 ≡ suc held = omega (arith, same) in
    rw behind (step_owed (production_at number) held step of)

-- the nodes are the old ones and those that the production makes before this part
pub adds_right : (s : List ℕ) (old new : Linked) (frame : Frame Surroundings) (parts new_parts own : List Part) (production : Production) (step : Step) (then : Surroundings)
    → own ≡ drop frame.base parts → production ≡ production_at frame.rule → IsPaid old → IsStepOf production (length own) step
    → Takes s old new frame.kept frame.base parts new_parts step then
    → Adds (cpp_view s) old new (owed_behind (cpp_view s) frame parts) (owed_next (cpp_view s) frame new_parts)
adds_right s old new frame parts new_parts own production step then same numbered paid of takes =
    let held : length own ≡ length parts - frame.base = ap (λ ps. length ps) same ∙ length-drop frame.base parts in (
      record { least = takes.grows.least; stays = takes.grows.stays },
      sizes (length old.nodes.nodes) (length new.nodes.nodes) (nodes_of_step step) (owes frame.rule (length new_parts - frame.base + 1)) (owes frame.rule (length parts - frame.base)) paid.begun takes.grows.few
          (rw held at (next_owes frame.rule (length own) (length new_parts - frame.base) step (rw (← numbered) of) (ap (λ n. n - frame.base) takes.count ∙ sym held))),
    )
  where
    sizes : (m n made behind before : ℕ) → 4 ≤ m → n ≤ m + made → made + behind ≤ before → n - 4 + behind ≤ m - 4 + before
    sizes m n made behind before begun few owed = omega (arith, begun, few, owed)

-- ## Where nothing is done

quiet_between : (p : Production) (around : Around) (place : ℕ) (vs : List Value) (state : State) → length vs < quiet_parts p
    → between p around place vs state ≡ Ok (record { values = vs; context = around; state = state })
unfolding between done
quiet_between p around place vs state less = ap (λ b. done b around place vs state) (quiet_part p (length vs) less)

pub quiet_right : (s : List ℕ) (old : Linked) (frame : Frame Surroundings) (parts : List Part) (held : ℕ)
    → held ≡ length parts - frame.base → held < quiet_parts (production_at frame.rule)
    → GoesOn (cpp_view s) s (Surrounds s) old old frame parts parts (Ok frame.kept)
quiet_right s old frame parts held counted less rule known state is = (
  record { values = values_in s old.nodes (drop frame.base parts); context = around_of (trees_in s old.nodes) frame.kept; state = state_of s old },
  read_is (linked s) between (plain_reads s) s old frame parts (drop frame.base parts) (production_at frame.rule) refl refl rule known state is
      ∙ quiet_between (production_at frame.rule) (around_of (trees_in s old.nodes) frame.kept) frame.place (values_in s old.nodes (drop frame.base parts)) (state_of s old)
      (omega (arith, values_length s (trees_in s old.nodes) (drop frame.base parts), length-drop frame.base parts, counted, less)),
  record { there = is.kept.surrounds.there; is = refl; closed = subst (λ around. IsClosed around) (sym is.kept.surrounds.is) is.kept.surrounds.closed },
  record { table = is.holds.table; there = is.holds.there; candidates = refl; packs = refl; counting = refl },
  drop frame.base parts,
  sym (take-append-drop frame.base parts),
  parts_all s old (drop frame.base parts) (parts_are s old (drop frame.base parts) known is.parts).0,
)

quiet_owes : (number held m : ℕ) → m ≡ held → owes number (m + 1) ≤ owes number held
unfolding owes
quiet_owes number held m same =
    let behind : m + 1 ≡ suc held = omega (arith, same) in
    rw behind (quiet_owed (production_at number) held)

pub quiet_adds : (s : List ℕ) (old : Linked) (frame : Frame Surroundings) (parts : List Part)
    → Adds (cpp_view s) old old (owed_behind (cpp_view s) frame parts) (owed_next (cpp_view s) frame parts)
quiet_adds s old frame parts = (
  record { least = omega arith; stays = λ i less. refl },
  omega (arith, quiet_owes frame.rule (length parts - frame.base) (length parts - frame.base) refl),
)

-- ## How many nodes are made

pub quiet_few : (s : List ℕ) (old : Linked) (frame : Frame Surroundings) (parts : List Part)
    → (cpp_view s).size old + closes frame.rule (drop frame.base parts ++ Part.Nothing ∷ []) ≤ (cpp_view s).size old + closes frame.rule (drop frame.base parts)
unfolding closes
quiet_few s old frame parts = omega (arith, closes_pushed (production_at frame.rule) (drop frame.base parts))

-- the nodes of a step that was taken
pub steps_few : (s : List ℕ) (old new : Linked) (frame : Frame Surroundings) (parts new_parts : List Part) (then : Surroundings) → IsPaid old → length old.nodes.nodes ≤ length new.nodes.nodes
    → (let taken : Result Surroundings Refusal = Ok then in CountsStep (production_at frame.rule) old new (drop frame.base parts) (drop frame.base new_parts) taken)
    → (cpp_view s).size new + closes frame.rule (drop frame.base new_parts ++ Part.Nothing ∷ []) ≤ (cpp_view s).size old + closes frame.rule (drop frame.base parts)
unfolding closes
steps_few s old new frame parts new_parts then paid least counts =
    sizes (length old.nodes.nodes) (length new.nodes.nodes) (closes_of (production_at frame.rule) (drop frame.base new_parts ++ Part.Nothing ∷ [])) (closes_of (production_at frame.rule) (drop frame.base parts)) paid.begun least counts
  where
    sizes : (m n behind before : ℕ) → 4 ≤ m → m ≤ n → n + behind ≤ m + before → n - 4 + behind ≤ m - 4 + before
    sizes m n behind before begun least few = omega (arith, begun, least, few)

-- the nodes of a step that was refused
pub refused_few : (s : List ℕ) (old new : Linked) (frame : Frame Surroundings) (parts : List Part) → IsPaid old
    → length new.nodes.nodes ≤ length old.nodes.nodes + closes_of (production_at frame.rule) (drop frame.base parts) → AddsFew (cpp_view s) old new frame parts
unfolding closes
refused_few s old new frame parts paid few = sizes (length old.nodes.nodes) (length new.nodes.nodes) (closes_of (production_at frame.rule) (drop frame.base parts)) paid.begun few
  where
    sizes : (m n before : ℕ) → 4 ≤ m → n ≤ m + before → n - 4 ≤ m - 4 + before
    sizes m n before begun few = omega (arith, begun, few)

-- a step of the production, on the parts from the base on, is a step of the rule
pub step_of_rule : (frame : Frame Surroundings) (parts given : List Part) (p : Production) (step : Step) → given ≡ parts → p ≡ production_at frame.rule
    → IsStepOf p (length (take (length given - frame.base) (drop frame.base given))) step → IsStepOf (production_at frame.rule) (length (drop frame.base parts)) step
step_of_rule frame parts given p step value numbered of =
    subst (λ q. IsStepOf q (length (drop frame.base parts)) step) numbered (subst (λ ps. IsStepOf p (length ps) step) (rest_all given frame.base ∙ ap (λ ps. drop frame.base ps) value) of)

-- ## What remains to be shown

module _ (view : View Linked Part Surroundings Value State Around) (s : List ℕ) (old new : Linked) (frame : Frame Surroundings) (parts new_parts : Vec Part Global) (keeps : KeepsRoom old new) (capacity : vec_capacity parts ≤ vec_capacity new_parts) where
  -- a refusal is passed on
  pub refused_advances : (result : Result Surroundings Refusal) (e : Refusal) → IsErrAnd result (λ y. y ≡ e) → GoesOn view s (Surrounds s) old new frame parts.items new_parts.items (Err e)
      → AddsFew (cpp_view s) old new frame parts.items → (e ≡ Memory → LacksRoom old new) → Advances view s old new frame parts new_parts result
  refused_advances result e is goes few full =
      let p = err_from_is_err_and result is in
      let passed : result ≡ Err e = p.1 ∙ ap (λ y. Err y) p.2 in
      let refused : Advances view s old new frame parts new_parts (Err e) =
      record { goes = goes; adds = tt; few = few; makes = tt; pays = tt; count = tt; roomy = roomy_refused old new parts new_parts (Err e) e refl keeps capacity (λ memory. inl (full memory)) } in
      subst (λ r. Advances view s old new frame parts new_parts r) (sym passed) refused

  -- there was no memory: the rule isn't continued, whatever the reading says
  pub lacking_advances : (result : Result Surroundings Refusal) (e : Refusal) → IsErrAnd result (λ y. y ≡ e) → e ≡ Memory → AddsFew (cpp_view s) old new frame parts.items → LacksRoom old new
      → Advances view s old new frame parts new_parts result
  lacking_advances result e is memory few lacks =
      refused_advances result e is (subst (λ x. GoesOn view s (Surrounds s) old new frame parts.items new_parts.items (Err x)) (sym memory) (λ rule known state at. tt)) few (λ same. lacks)

-- a step was taken, and these are the candidates after it
module _ (view : View Linked Part Surroundings Value State Around) (s : List ℕ) (old mid : Linked) (more : Candidates) (frame : Frame Surroundings) (parts new_parts : Vec Part Global) where
  abbrev new : Linked
  new = record mid { candidates = more }

  pub taken_advances : KeepsRoom old new → vec_capacity parts ≤ vec_capacity new_parts → (step : Step) (then : Surroundings) → IsStepOf (production_at frame.rule) (length (drop frame.base parts.items)) step → IsPaid old → Takes s old mid frame.kept frame.base parts.items new_parts.items step then
      → (let taken : Result Surroundings Refusal = Ok then in CountsStep (production_at frame.rule) old mid (drop frame.base parts.items) (drop frame.base new_parts.items) taken)
      → length mid.nodes.nodes ≡ length old.nodes.nodes + nodes_of_step step → nodes_of_step step ≡ makes_before (production_at frame.rule) (values_in s old.nodes (drop frame.base parts.items))
      → GoesOn view s (Surrounds s) old new frame parts.items new_parts.items (Ok then) → Advances view s old new frame parts new_parts (Ok then)
  taken_advances keeps capacity step then of paid takes few made makes goes = record {
    goes = goes;
    adds = (record { least = takes.grows.least; stays = takes.grows.stays }, (adds_right s old mid frame parts.items new_parts.items (drop frame.base parts.items) (production_at frame.rule) step then refl refl paid of takes).1);
    few = steps_few s old mid frame parts.items new_parts.items then paid takes.grows.least few;
    makes = omega (arith, made, makes);
    pays = λ at was. record { begun = omega (arith, was.begun, takes.grows.least); thunks = omega (arith, was.thunks, takes.grows.least, ap (λ xs. length xs) takes.thunks) };
    count = takes.count;
    roomy = roomy_ok old new parts new_parts (Ok then) then refl keeps capacity;
  }
