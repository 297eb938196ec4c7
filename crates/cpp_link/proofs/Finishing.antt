-- A rule closes as the reading says.
use Rattle.std.proofs.Common.{◌≡◌, refl, sym, ◌∙◌, ap, subst, arith, ℕ, ◌+◌, ◌-◌, ◌<◌, ◌≤◌, ◌⊎◌, inl, inr, drop, take, length-drop, List, [], ◌∷◌, ◌++◌, length, Result, Ok, Err}
use Rattle.cpp_link.proofs.Basics.{err_from_is_err_and, slice_index, Vec, vec_capacity, IfErr, IsErrAnd, OnOk, OnErr, Global, Refusal, Memory, rest_all, Frame, Open, Found, Reading, found, Fails, View, AddsFew, owed_behind, IsAt, ClosesAll, Production, wide, production_at, State, Value, Around, both, Linked, Surroundings, Part, owes, closes_of, closes, ends_of, ends_closes, Finishes, MakesPart, link_close, state_of, trees_in, value_in, values_in, packs_of, around_of, IsThere, LacksRoom, IsWhole, cpp_view}
use Rattle.sym_link.specs.Threads as open_
use Rattle.cpp_link.specs.ViewLaws.{cpp_laws}
use Rattle.cpp_link.proofs.Rooms.{roomy_ok, roomy_refused}
use Rattle.cpp_link.proofs.Viewing.{parts_are, held_state}

-- What a rule of this production with these parts closes to, by this reading of the language.
module _ (reading : Reading Value State Around) (closing : Production → Around → (place : ℕ) → (began : State) → List Value → State → Result (Found Value State) Refusal) (s : List ℕ)
    (reads : (rule : Open State Around) (known : List Value) (state : State) → open_.IsThere wide s rule → reading.close rule known state ≡ closing (production_at rule.rule.number) rule.context rule.place rule.before known state)
    (old : Linked) (frame : Frame Surroundings) (parts given : List Part) (p : Production) (numbered : p ≡ production_at frame.rule) (same : given ≡ drop frame.base parts) where
  abbrev view : View Linked Part Surroundings Value State Around
  view = record (cpp_view s) { reading = reading }

  abbrev around : Around
  around = around_of (trees_in s old.nodes) frame.kept

  given_is : (rule : Open State Around) (known : List Value) (state : State) → IsAt view s old frame (drop frame.base parts) rule known state
      → reading.close rule known state ≡ closing p around frame.place rule.before (values_in s old.nodes given) (state_of s old)
  given_is rule known state is =
      reads rule known state is.there
      ∙ same_close frame.rule rule.rule.number frame.place rule.place around rule.context (values_in s old.nodes (drop frame.base parts)) known (state_of s old) state
      is.number is.place is.kept.surrounds.is (parts_are s old (drop frame.base parts) known is.parts).1 (held_state s old state is.holds)
      ∙ both (λ q ps. closing q around frame.place rule.before (values_in s old.nodes ps) (state_of s old)) (sym numbered) (sym same)
    where
      same_close : (m n i k : ℕ) (code context : Around) (us vs : List Value) (held state : State)
          → m ≡ n → i ≡ k → code ≡ context → us ≡ vs → held ≡ state
          → closing (production_at n) context k rule.before vs state ≡ closing (production_at m) code i rule.before us held
      same_close m n i k code context us vs held state number place surrounded known same = rw (number, place, surrounded, known, same) refl

  -- the part that was put denotes what the rule closes to
  put_right : (new : Linked) (new_parts : List Part) (made : Part) (done : Unit {0})
      → ((began : State) → began.packs ≡ packs_of frame.kept → closing p around frame.place began (values_in s old.nodes given) (state_of s old) ≡ Ok (found (value_in s new.nodes made) (state_of s new)))
      → IsThere s (length new.nodes.nodes) made → IsWhole s new → new_parts ≡ take frame.base parts ++ made ∷ []
      → ClosesAll view s old new frame parts new_parts (Ok done)
  put_right new new_parts made done closes there whole items rule known state is = (
    made,
    items,
    (
      value_in s new.nodes made,
      state_of s new,
      given_is rule known state is ∙ closes rule.before (sym is.kept.packs),
      record { there = there; is = refl },
      record { table = whole.table; there = whole.there; candidates = refl; packs = refl; counting = refl },
    ),
  )

  -- a refusal where the rule closes is also the reading's refusal
  pub refused_right : (new : Linked) (new_parts : List Part) (e : Refusal) → ((began : State) → Fails e (closing p around frame.place began (values_in s old.nodes given) (state_of s old)))
      → ClosesAll view s old new frame parts new_parts (Err e)
  refused_right new new_parts e refused rule known state is = subst (λ read. Fails e read) (sym (given_is rule known state is)) (refused rule.before)

-- how a rule closes by the ABI's reading
abbrev pub plain_closing : List ℕ → Production → Around → (place : ℕ) → (began : State) → List Value → State → Result (Found Value State) Refusal
plain_closing s p around place began vs state = link_close s p (slice_index s place) around place began vs state

-- ## How many nodes are made

-- the nodes that are made are no more than the rule may add after its parts
ends_few : (s : List ℕ) (old new : Linked) (frame : Frame Surroundings) (parts own : List Part) (p : Production) → p ≡ production_at frame.rule → own ≡ drop frame.base parts → 4 ≤ length old.nodes.nodes
    → length new.nodes.nodes ≤ length old.nodes.nodes + ends_of p own → AddsFew (cpp_view s) old new frame parts
unfolding closes
ends_few s old new frame parts own p numbered same begun few =
    let ends : ends_of p own ≤ closes_of (production_at frame.rule) (drop frame.base parts) =
    rw (← numbered, ← same) (ends_closes p own) in
    sizes (length old.nodes.nodes) (length new.nodes.nodes) (ends_of p own) (closes_of (production_at frame.rule) (drop frame.base parts)) begun few ends
  where
    sizes : (m n ends closes : ℕ) → 4 ≤ m → n ≤ m + ends → ends ≤ closes → n - 4 ≤ m - 4 + closes
    sizes m n ends closes begun few le = omega (arith, begun, few, le)

few_adds : (s : List ℕ) (old new : Linked) (frame : Frame Surroundings) (parts : List Part) → AddsFew (cpp_view s) old new frame parts
    → length new.nodes.nodes - 4 + 0 ≤ length old.nodes.nodes - 4 + owed_behind (cpp_view s) frame parts
few_adds s old new frame parts few =
    let held : owes frame.rule (length (drop frame.base parts)) ≡ owes frame.rule (length parts - frame.base) = ap (λ n. owes frame.rule n) (length-drop frame.base parts) in
    omega (arith, few, (cpp_laws s).closing frame.rule (drop frame.base parts), held)

-- the number of nodes made of the rule's own parts is the one that `made` gives
made_where_closed : (made : Production → List Value → ℕ) (s : List ℕ) (old new : Linked) (frame : Frame Surroundings) (parts own : List Part) (p : Production) → own ≡ drop frame.base parts → p ≡ production_at frame.rule
    → length new.nodes.nodes ≡ length old.nodes.nodes + made p (values_in s old.nodes own)
    → length new.nodes.nodes ≡ length old.nodes.nodes + made (production_at frame.rule) (values_in s old.nodes (drop frame.base parts))
made_where_closed made s old new frame parts own p same numbered is = rw (← same, ← numbered) is

-- ## What remains to be shown

-- The frame's rule is of this production. Its own parts begin at the frame's base, and a call was to make them into one
-- part.
module _ (reading : Reading Value State Around) (closing : Production → Around → (place : ℕ) → (began : State) → List Value → State → Result (Found Value State) Refusal) (s : List ℕ)
    (reads : (rule : Open State Around) (known : List Value) (state : State) → open_.IsThere wide s rule → reading.close rule known state ≡ closing (production_at rule.rule.number) rule.context rule.place rule.before known state)
    (made : Production → List Value → ℕ) (old new : Linked) (frame : Frame Surroundings) (parts new_parts : Vec Part Global) (given : List Part) (p : Production)
    (value : given ≡ parts.items) (numbered : p ≡ production_at frame.rule) (begun : 4 ≤ length old.nodes.nodes) (capacity : vec_capacity parts ≤ vec_capacity new_parts) where
  abbrev by_reading : View Linked Part Surroundings Value State Around
  by_reading = record (cpp_view s) { reading = reading }

  abbrev own : List Part
  own = take (length given - frame.base) (drop frame.base given)

  abbrev Makes : Result Part Refusal → Type 0
  Makes call = MakesPart s old new (ends_of p own) (made p (values_in s old.nodes own)) call

  own_parts : own ≡ drop frame.base parts.items
  own_parts = rest_all given frame.base ∙ ap (λ ps. drop frame.base ps) value

  adds_few : length new.nodes.nodes ≤ length old.nodes.nodes + ends_of p own → AddsFew (cpp_view s) old new frame parts.items
  adds_few few = ends_few s old new frame parts.items own p numbered own_parts begun few

  refused_at : (call : Result Part Refusal) → Makes call → (result : Result (Unit {0}) Refusal) (e : Refusal) → IsErrAnd result (λ y. y ≡ e) → ClosesAll by_reading s old new frame parts.items new_parts.items (Err e)
      → (e ≡ Memory → LacksRoom old new ⊎ (vec_capacity parts < length new_parts.items + 1)) → Finishes by_reading made s old new frame parts new_parts result
  refused_at call gave result e is closes full =
      let p = err_from_is_err_and result is in
      let passed : result ≡ Err e = p.1 ∙ ap (λ y. Err y) p.2 in
      let refused : Finishes by_reading made s old new frame parts new_parts (Err e) =
      record { closes = closes; adds = tt; few = adds_few gave.few; makes = tt; pays = tt; roomy = roomy_refused old new parts new_parts (Err e) e refl gave.keeps capacity full } in
      subst (λ r. Finishes by_reading made s old new frame parts new_parts r) (sym passed) refused

  lacking_at : (call : Result Part Refusal) → Makes call → (result : Result (Unit {0}) Refusal) (e : Refusal) → IsErrAnd result (λ y. y ≡ e) → e ≡ Memory → LacksRoom old new ⊎ (vec_capacity parts < length new_parts.items + 1)
      → Finishes by_reading made s old new frame parts new_parts result
  lacking_at call gave result e is memory lacks =
      refused_at call gave result e is (subst (λ x. ClosesAll by_reading s old new frame parts.items new_parts.items (Err x)) (sym memory) (λ rule known state at. tt)) (λ same. lacks)

  -- the refusal of that call is passed on
  pub refused_finishes : (e : Refusal) → Makes (Err e) → (result : Result (Unit {0}) Refusal) → IsErrAnd result (λ y. y ≡ e)
      → ((began : State) → Fails e (closing p (around_of (trees_in s old.nodes) frame.kept) frame.place began (values_in s old.nodes own) (state_of s old))) → Finishes by_reading made s old new frame parts new_parts result
  refused_finishes e gave result is refused =
      refused_at (Err e) gave result e is (refused_right reading closing s reads old frame parts.items own p numbered own_parts new new_parts.items e refused) (λ memory. inl (gave.full memory))

  -- there was no memory: the rule isn't closed, whatever the reading says
  pub lacking_finishes : (e : Refusal) → Makes (Err e) → e ≡ Memory → (result : Result (Unit {0}) Refusal) → IsErrAnd result (λ y. y ≡ e) → Finishes by_reading made s old new frame parts new_parts result
  lacking_finishes e gave memory result is = lacking_at (Err e) gave result e is memory (inl (gave.full memory))

  -- what the rule denotes replaces its parts
  pub put_finishes : (called : Part) → Makes (Ok called) → (part : Part) → IsThere s (length new.nodes.nodes) part
      → ((began : State) → began.packs ≡ packs_of frame.kept
      → closing p (around_of (trees_in s old.nodes) frame.kept) frame.place began (values_in s old.nodes own) (state_of s old) ≡ Ok (found (value_in s new.nodes part) (state_of s new)))
      → (result : Result (Unit {0}) Refusal) → OnOk result (new_parts.items ≡ take frame.base parts.items ++ part ∷ []) → IfErr result (λ e. e ≡ Memory)
      → OnErr result (length new_parts.items ≡ frame.base) → OnErr result (vec_capacity parts < frame.base + 1)
      → Finishes by_reading made s old new frame parts new_parts result
  put_finishes called gave part there closes (Ok done) items memory rest full = record {
    closes = put_right reading closing s reads old frame parts.items own p numbered own_parts new new_parts.items part done closes there gave.whole items;
    adds = (gave.grows, few_adds s old new frame parts.items (adds_few gave.few));
    few = adds_few gave.few;
    makes = made_where_closed made s old new frame parts.items own p own_parts numbered gave.makes;
    pays = λ at was. gave.paid;
    roomy = roomy_ok old new parts new_parts (Ok done) done refl gave.keeps capacity;
  }
  put_finishes called gave part there closes (Err e) items memory rest full = lacking_at (Ok called) gave (Err e) e refl memory (inr (omega (arith, full, rest)))
