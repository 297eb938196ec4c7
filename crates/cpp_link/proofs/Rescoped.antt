-- What the wide reading says of a rule that is open, in terms of the frame and the nodes.
use Rattle.cpp_link.proofs.Basics.{◌≡◌, refl, sym, ◌∙◌, ap, subst, arith, ℕ, ◌+◌, ◌-◌, ◌<◌, ◌≤◌, List, [], ◌∷◌, length, take, drop, Bool, true, false, ◌&&◌, ◌||◌, nat_eq, Option, Ok, Err, slice_index, Result, OnOk, length-drop, true≢false, false≢true, and_parts, eqb-true, Refusal, Frame, Open, Found, Next, Puts, IsAt, Goes, GoesOn, ClosesAll, tallied_view, between_tallied, finish_tallied, Production, wide, generic_number, production_at, byte_of, Term, auto, is_open, State, Value, tree, tree_of, Around, part, text_of, is_in_constraint, is_at_literal, counted_value, Decimal, parameter_named, Continuation, next, in_name, in_types, parameter_so_far, argument_so_far, index_of, between, listed_so_far, meaning, cpp, generic_so_far, parameter_here, argument_here, is_unseen, in_literal, is_passed_over, passed_over, name_around, types_around, is_declaring, lambda_with, as_generic_lambda, between_wide, close_wide, cpp_wide, Stored, tree_at, piece_of, Piece, Linked, Part, Rescoping, Surroundings, Step, link_close, link_meaning, link_close_wide, linked_wide, wide_ends, is_parameter, is_parameter_argument, steps_apart, with_mark, going_marked, generic_read, wide_at_end, wide_view, wide_makes, wide_counted, counting_of, state_of, makes_before, makes_at_end, trees_in, value_of, values_of, values_in, is_lambda, around_of, candidates_of, AreCandidatesThere, goes_on, candidates_stay, Surrounds, cpp_view}
use Rattle.sym_link.specs.Threads as open_
use Rattle.cpp_term.specs.Term as term
use Rattle.cpp_term.specs.Values as values
use Rattle.cpp_link.proofs.Bytes.{byte_serves}
use Rattle.cpp_link.proofs.NodeCount.{before_read}
use Rattle.cpp_link.proofs.Places.{values_length}
use Rattle.cpp_link.proofs.Viewing.{parts_are, same_state, held_state}
use Rattle.cpp_link.proofs.Within.{at_plain, goes_within, closes_within}

-- ## Before a part

second : (l : Bool) (before : ℕ) → (l && nat_eq before 1) ≡ true → (l ≡ true) × (before ≡ 1)
second l before is = let both_ = and_parts l (nat_eq before 1) is in (both_.0, eqb-true before 1 both_.1)

-- outside of a lambda's signature a parameter is named as in the ABI's reading
named_outside : (in_lambda : Bool) (around : Around) (place k : ℕ) (state : State) → (in_lambda && true) ≡ false
    → elim in_lambda [ true ↦ generic_so_far around k [] state | false ↦ parameter_so_far around place k [] state ] ≡ parameter_so_far around place k [] state
named_outside true around place k state e = absurd (true≢false e)
named_outside false around place k state e = refl

-- outside of a lambda's signature no encoding is passed over
entered : (in_lambda here : Bool) (own other : Around) → (in_lambda && true) ≡ false → elim (in_lambda && here) [ true ↦ own | false ↦ other ] ≡ other
entered true here own other e = absurd (true≢false e)
entered false here own other e = refl

typed : (in_lambda here has_free : Bool) (own other : Around) → (in_lambda && true) ≡ false → elim ((in_lambda && here) && has_free) [ true ↦ own | false ↦ other ] ≡ other
typed true here has_free own other e = absurd (true≢false e)
typed false here has_free own other e = refl

-- where the wide reading does nothing of its own, it agrees with the ABI's reading
apart_between : (p : Production) (around : Around) (place : ℕ) (vs : List Value) (state : State) → steps_apart p around.in_lambda (length vs) ≡ false → between_wide p around place vs state ≡ between p around place vs state
unfolding between_wide between steps_apart parameter_here argument_here parameter_named parameter_so_far listed_so_far argument_so_far is_unseen in_literal is_passed_over name_around types_around
apart_between Production.Parameter around place (v ∷ []) state apart = named_outside around.in_lambda around place (index_of v) state apart
apart_between Production.NestParameter around place (v ∷ []) state apart = named_outside around.in_lambda around place (index_of v) state apart
apart_between Production.ParameterArgument around place (v ∷ []) state apart = named_outside around.in_lambda around (place - 1) (index_of v) state apart
apart_between Production.ParameterExpression around place (v ∷ []) state apart = go around.in_lambda apart
  where
    own : Continuation
    own = next (tree (term.parameter (generic_number (index_of v)) auto) true ∷ []) around state

    go : (b : Bool) → (b && true) ≡ false → elim b [ true ↦ own | false ↦ argument_so_far around (place - 1) (index_of v) state ] ≡ argument_so_far around (place - 1) (index_of v) state
    go true e = absurd (true≢false e)
    go false e = refl
apart_between Production.Holder around place (v ∷ []) state apart = absurd (true≢false apart)
apart_between Production.HeldArguments around place [] state apart = absurd (true≢false apart)
apart_between Production.DeclaredFirst around place [] state apart = absurd (true≢false apart)
apart_between Production.NamedModule around place (v ∷ []) state apart = absurd (true≢false apart)
apart_between Production.Constraint around place [] state apart = absurd (true≢false apart)
apart_between Production.EncodingLiteral around place (v ∷ []) state apart = ap (λ a. next (v ∷ []) a state) (entered around.in_lambda (is_in_constraint around.showing) _ around apart)
apart_between Production.Encoding around place [] state apart = ap (λ a. next [] a state) (entered around.in_lambda (is_at_literal around.showing) (passed_over place) (in_name place) apart)
apart_between Production.Encoding around place (v ∷ []) state apart = ap (λ a. next (v ∷ []) a state) (typed around.in_lambda (is_at_literal around.showing) (is_open (tree_of v)) (passed_over place) (in_types place (tree_of v)) apart)
apart_between p around place vs state apart = refl

pub wide_reads : (s : List ℕ) (rule : Open State Around) (known : List Value) (state : State) → (linked_wide s).between rule known state ≡ between_wide (production_at rule.rule.number) rule.context rule.place known state
unfolding cpp_wide
wide_reads s rule known state = refl

-- Where the wide reading does nothing of its own, what was done by the ABI's reading is also what the wide reading says.
pub apart_goes : (s : List ℕ) (old new : Linked) (frame : Frame Surroundings) (parts new_parts : List Part) (before : ℕ) (result : Result Surroundings Refusal) → before ≡ length parts - frame.base
    → steps_apart (production_at frame.rule) (is_lambda frame.kept.scope) before ≡ false
    → GoesOn (cpp_view s) s (Surrounds s) old new frame parts new_parts result → GoesOn (wide_view s) s (Surrounds s) old new frame parts new_parts result
unfolding cpp cpp_wide around_of
apart_goes s old new frame parts new_parts before result counted apart goes rule known state is =
    let at = at_plain s old frame (drop frame.base parts) rule known state is in
    let known_are = (parts_are s old (drop frame.base parts) known is.parts).1 in
    let many : before ≡ length known =
    omega (arith, counted, length-drop frame.base parts, values_length s (trees_in s old.nodes) (drop frame.base parts), ap (λ vs. length vs) known_are) in
    let lambda : is_lambda frame.kept.scope ≡ rule.context.in_lambda = ap (λ (a : Around). a.in_lambda) is.kept.surrounds.is in
    subst (λ read. Goes (cpp_view s) (Surrounds s) new (take frame.base parts) new_parts result read)
    (sym (apart_between (production_at rule.rule.number) rule.context rule.place known state
    (same_test frame.rule rule.rule.number (is_lambda frame.kept.scope) rule.context.in_lambda before (length known) is.number lambda many apart)))
    (goes rule known state at)
  where
    same_test : (m n : ℕ) (a b : Bool) (h k : ℕ) → m ≡ n → a ≡ b → h ≡ k → steps_apart (production_at m) a h ≡ false → steps_apart (production_at n) b k ≡ false
    same_test m n a b h k e f g is = rw (← e, ← f, ← g) is

-- what the rule continues with, if this is the state once the candidates are marked
pub marking_is : (production : Production) (around : Around) (n : Next Value State Around) (state : State) → with_mark production around n.values n.state ≡ state → going_marked production around (Ok n) ≡ Ok (record n { state = state })
unfolding going_marked
marking_is production around n state is = ap (λ x. Ok (record n { state = x })) is

-- ## Where a rule closes

-- this production isn't one that the wide reading closes in its own way
pub record IsNoneApart (p : Production) : Type 0 where
  pub not_substitution : p ≡ Production.Substitution → ⊥
  pub not_lambda : p ≡ Production.Lambda → ⊥
  pub not_inheriting : p ≡ Production.Inheriting → ⊥
  pub not_holder : p ≡ Production.Holder → ⊥
  pub not_encoding : p ≡ Production.Encoding → ⊥
  pub not_encoding_literal : p ≡ Production.EncodingLiteral → ⊥

apart_close : (s : List ℕ) (p : Production) (byte : ℕ) (around : Around) (place : ℕ) (began : State) (vs : List Value) (state : State) → IsNoneApart p
    → link_close_wide s p byte around place began vs state ≡ link_close s p byte around place began vs state
unfolding link_close_wide
apart_close s Production.Substitution byte around place began vs state other = absurd (other.not_substitution refl)
apart_close s Production.Lambda byte around place began vs state other = absurd (other.not_lambda refl)
apart_close s Production.Inheriting byte around place began vs state other = absurd (other.not_inheriting refl)
apart_close s Production.Holder byte around place began vs state other = absurd (other.not_holder refl)
apart_close s Production.Encoding byte around place began vs state other = absurd (other.not_encoding refl)
apart_close s Production.EncodingLiteral byte around place began vs state other = absurd (other.not_encoding_literal refl)
apart_close s _ byte around place began vs state other = refl

-- a call that closes a rule by the ABI's reading closes it by the wide reading, if both close it alike in these surroundings
pub same_closes : (s : List ℕ) (old new : Linked) (frame : Frame Surroundings) (parts new_parts : List Part) (result : Result (Unit {0}) Refusal)
    → ((byte place : ℕ) (began : State) (vs : List Value) (state : State) → link_close_wide s (production_at frame.rule) byte (around_of (trees_in s old.nodes) frame.kept) place began vs state
    ≡ link_close s (production_at frame.rule) byte (around_of (trees_in s old.nodes) frame.kept) place began vs state)
    → ClosesAll (cpp_view s) s old new frame parts new_parts result → ClosesAll (wide_view s) s old new frame parts new_parts result
same_closes s old new frame parts new_parts result same closes rule known state is =
    subst (λ read. Puts (cpp_view s) new (take frame.base parts) new_parts result read)
    (sym (by frame.rule rule.rule.number (around_of (trees_in s old.nodes) frame.kept) rule.context is.number is.kept.surrounds.is (same (byte_of rule.taken) rule.place rule.before known state)))
    (closes rule known state (at_plain s old frame (drop frame.base parts) rule known state is))
  where
    by : (m n : ℕ) (a b : Around) → m ≡ n → a ≡ b → link_close_wide s (production_at m) (byte_of rule.taken) a rule.place rule.before known state ≡ link_close s (production_at m) (byte_of rule.taken) a rule.place rule.before known state
        → link_close_wide s (production_at n) (byte_of rule.taken) b rule.place rule.before known state ≡ link_close s (production_at n) (byte_of rule.taken) b rule.place rule.before known state
    by m n a b number surrounds h = rw (← number, ← surrounds) h

-- likewise for a production that the wide reading doesn't close in its own way
pub apart_closes : (s : List ℕ) (old new : Linked) (frame : Frame Surroundings) (parts new_parts : List Part) (result : Result (Unit {0}) Refusal) → IsNoneApart (production_at frame.rule)
    → ClosesAll (cpp_view s) s old new frame parts new_parts result → ClosesAll (wide_view s) s old new frame parts new_parts result
apart_closes s old new frame parts new_parts result other =
    same_closes s old new frame parts new_parts result (λ byte place began vs state. apart_close s (production_at frame.rule) byte (around_of (trees_in s old.nodes) frame.kept) place began vs state other)

-- how a rule closes by the wide reading
abbrev pub wide_closing : List ℕ → Production → Around → (place : ℕ) → (began : State) → List Value → State → Result (Found Value State) Refusal
wide_closing s p around place began vs state = link_close_wide s p (slice_index s place) around place began vs state

pub wide_byte_serves : (s : List ℕ) (rule : Open State Around) (known : List Value) (state : State) → open_.IsThere wide s rule
    → (linked_wide s).close rule known state ≡ wide_closing s (production_at rule.rule.number) rule.context rule.place rule.before known state
unfolding link_close_wide close_wide link_meaning meaning
wide_byte_serves s rule known state there = by (production_at rule.rule.number) (byte_serves s rule known state there)
  where
    by : (p : Production) → link_close s p (byte_of rule.taken) rule.context rule.place rule.before known state ≡ link_close s p (slice_index s rule.place) rule.context rule.place rule.before known state
        → link_close_wide s p (byte_of rule.taken) rule.context rule.place rule.before known state ≡ link_close_wide s p (slice_index s rule.place) rule.context rule.place rule.before known state
    by Production.Substitution same = refl
    by Production.Lambda same = refl
    by Production.Inheriting same = refl
    by Production.Holder same = refl
    by Production.Encoding same = refl
    by Production.EncodingLiteral same = refl
    by _ same = same

-- ## How many nodes are made

-- a call that continues to the next part by the wide reading, and makes n nodes, does the same where nodes are counted
pub goes_counted : (s : List ℕ) (old : Rescoping) (new : Linked) (frame : Frame Surroundings) (parts new_parts : List Part) (result : Result Surroundings Refusal) → 4 ≤ length old.linked.nodes.nodes
    → OnOk result (length new.nodes.nodes ≡ length old.linked.nodes.nodes + makes_before (production_at frame.rule) (values_in s old.linked.nodes (drop frame.base parts)))
    → GoesOn (wide_view s) s (Surrounds s) old.linked new frame parts new_parts result
    → GoesOn (wide_counted s) s (λ l. Surrounds s l.linked) old (record { linked = new }) frame parts new_parts result
goes_counted s old new frame parts new_parts result begun made goes =
    goes_within (tallied_view (wide_view s) wide_makes) s old (record { linked = new }) (Surrounds s) frame parts new_parts result
    (between_tallied (wide_view s) wide_makes s (Surrounds s) old.linked new frame parts new_parts result
    (λ rule known state is. before_read s old.linked new frame parts result begun made rule known state (at_plain s old.linked frame (drop frame.base parts) rule known state is)) goes)

-- likewise, if the wide reading does nothing of its own before the parts of the rule's production
pub plain_goes : (s : List ℕ) (old : Rescoping) (new : Linked) (frame : Frame Surroundings) (parts new_parts : List Part) (result : Result Surroundings Refusal) → 4 ≤ length old.linked.nodes.nodes
    → steps_apart (production_at frame.rule) (is_lambda frame.kept.scope) (length parts - frame.base) ≡ false
    → OnOk result (length new.nodes.nodes ≡ length old.linked.nodes.nodes + makes_before (production_at frame.rule) (values_in s old.linked.nodes (drop frame.base parts)))
    → GoesOn (cpp_view s) s (Surrounds s) old.linked new frame parts new_parts result
    → GoesOn (wide_counted s) s (λ l. Surrounds s l.linked) old (record { linked = new }) frame parts new_parts result
plain_goes s old new frame parts new_parts result begun apart made goes =
    goes_counted s old new frame parts new_parts result begun made (apart_goes s old.linked new frame parts new_parts (length parts - frame.base) result refl apart goes)

pub apart_end : (p : Production) (around : Around) (place : ℕ) (known : List Value) (state : State) → (p ≡ Production.Substitution → ⊥) → makes_at_end p known ≡ wide_at_end p around place known state
unfolding wide_at_end
apart_end Production.Substitution around place known state apart = absurd (apart refl)
apart_end _ around place known state apart = refl

-- a call that closes a rule by the wide reading, and makes n nodes, closes the rule also where nodes are counted
pub closes_counted : (s : List ℕ) (old : Rescoping) (new : Linked) (frame : Frame Surroundings) (parts new_parts : List Part) (result : Result (Unit {0}) Refusal) → 4 ≤ length old.linked.nodes.nodes
    → OnOk result (length new.nodes.nodes ≡ length old.linked.nodes.nodes + wide_ends s old.linked frame.place frame.kept (production_at frame.rule) (values_in s old.linked.nodes (drop frame.base parts)))
    → ClosesAll (wide_view s) s old.linked new frame parts new_parts result → ClosesAll (wide_counted s) s old (record { linked = new }) frame parts new_parts result
closes_counted s old new frame parts new_parts result begun made closes =
    closes_within (tallied_view (wide_view s) wide_makes) s old (record { linked = new }) frame parts new_parts result
    (finish_tallied (wide_view s) wide_makes s old.linked new frame parts new_parts result (ended result made) closes)
  where
    same : (m n i k : ℕ) (code around : Around) (us vs : List Value) (held state : State) → m ≡ n → i ≡ k → code ≡ around → us ≡ vs → held ≡ state
        → wide_at_end (production_at n) around k vs state ≡ wide_at_end (production_at m) code i us held
    same m n i k code around us vs held state number place context known same_state = rw (number, place, context, known, same_state) refl

    ended : (r : Result (Unit {0}) Refusal)
        → OnOk r (length new.nodes.nodes ≡ length old.linked.nodes.nodes + wide_ends s old.linked frame.place frame.kept (production_at frame.rule) (values_in s old.linked.nodes (drop frame.base parts)))
        → (rule : Open State Around) (known : List Value) (state : State) → IsAt (wide_view s) s old.linked frame (drop frame.base parts) rule known state
        → OnOk r (length new.nodes.nodes - 4 ≡ length old.linked.nodes.nodes - 4 + wide_at_end (production_at rule.rule.number) rule.context rule.place known state)
    ended (Err e) more rule known state is = tt
    ended (Ok done) more rule known state is =
        omega (
          arith,
          begun,
          more,
          same frame.rule rule.rule.number frame.place rule.place (around_of (trees_in s old.linked.nodes) frame.kept) rule.context (values_in s old.linked.nodes (drop frame.base parts)) known (state_of s old.linked) state
              is.number is.place is.kept.surrounds.is (parts_are s old.linked (drop frame.base parts) known is.parts).1 (held_state s old.linked state is.holds),
        )

-- ## An alias

-- the state after an alias's node was added
pub kept_state : (s : List ℕ) (old new : Linked) (packs : Option ℕ) → ((i : ℕ) → i < length old.nodes.nodes → tree_at (trees_in s new.nodes) i ≡ tree_at (trees_in s old.nodes) i)
    → AreCandidatesThere (length old.nodes.nodes) old.candidates → new.candidates ≡ old.candidates → new.counting ≡ old.counting
    → ◌≡◌ {A = State} (record (state_of s old) { packs = packs }) (record (state_of s new) { packs = packs })
kept_state s old new packs stays there same counted =
    let kept : candidates_of (trees_in s new.nodes) new.candidates.list.items ≡ candidates_of (trees_in s old.nodes) old.candidates.list.items =
    ap (λ v. candidates_of (trees_in s new.nodes) v.list.items) same ∙ candidates_stay s old.nodes new.nodes stays old.candidates there in
    same_state _ _ _ _ _ _ (sym kept) refl (ap counting_of (sym counted))

-- ## A parameter of a lambda

generic_between : (p : Production) (around : Around) (place : ℕ) (v : Value) (state : State) → is_parameter p ≡ true → around.in_lambda ≡ true
    → between_wide p around place (v ∷ []) state ≡ generic_read (is_parameter_argument p) around (index_of v) state
unfolding is_parameter is_parameter_argument generic_read between_wide parameter_here argument_here
generic_between Production.Parameter around place v state is lambda =
    ap (λ b. elim b as (λ _. Continuation) [ true ↦ generic_so_far around (index_of v) [] state | false ↦ parameter_so_far around place (index_of v) [] state ]) lambda
generic_between Production.NestParameter around place v state is lambda =
    ap (λ b. elim b as (λ _. Continuation) [ true ↦ generic_so_far around (index_of v) [] state | false ↦ parameter_so_far around place (index_of v) [] state ]) lambda
generic_between Production.ParameterArgument around place v state is lambda =
    ap (λ b. elim b as (λ _. Continuation) [ true ↦ generic_so_far around (index_of v) [] state | false ↦ parameter_so_far around (place - 1) (index_of v) [] state ]) lambda
generic_between Production.ParameterExpression around place v state is lambda =
    ap (λ b. elim b as (λ _. Continuation) [ true ↦ next (tree (term.parameter (generic_number (index_of v)) auto) true ∷ []) around state | false ↦ argument_so_far around (place - 1) (index_of v) state ]) lambda
generic_between _ around place v state is lambda = absurd (false≢true is)

pub generic_is : (s : List ℕ) (y : Stored) (kept : Surroundings) (p : Production) (place : ℕ) (own : List Part) (digits : List ℕ) (state : values.State) (packs : Option ℕ) (step : Step)
    → is_parameter p ≡ true → is_lambda kept.scope ≡ true → length own ≡ 1 → digits ≡ text_of (part (values_in s y own) 0)
    → ((v : Value) → generic_read (is_parameter_argument p) (around_of (trees_in s y) kept) (counted_value Decimal digits) (record state { packs = packs }) ≡ goes_on s y kept (v ∷ []) state packs step)
    → between_wide p (around_of (trees_in s y) kept) place (values_in s y own) (record state { packs = packs }) ≡ goes_on s y kept (values_in s y own) state packs step
unfolding around_of values_of part index_of
generic_is s y kept p place [] digits state packs step is lambda one own_is goes = absurd (omega (arith, one))
generic_is s y kept p place (x ∷ z ∷ own) digits state packs step is lambda one own_is goes = absurd (omega (arith, one))
generic_is s y kept p place (x ∷ []) digits state packs step is lambda one own_is goes =
    generic_between p (around_of (trees_in s y) kept) place (value_of s (trees_in s y) x) (record state { packs = packs }) is lambda
    ∙ ap (λ ds. generic_read (is_parameter_argument p) (around_of (trees_in s y) kept) (counted_value Decimal ds) (record state { packs = packs })) (sym own_is)
    ∙ goes (value_of s (trees_in s y) x)

pub no_pack : (p : Production) (l : Bool) (before : ℕ) → steps_apart p l before ≡ true → p ≡ Production.PackArgument → ⊥
unfolding steps_apart
no_pack p l before is pack = absurd (false≢true (ap (λ q. steps_apart q l before) (sym pack) ∙ is))

-- apart from parameters, the wide reading does nothing of its own before a part of this production
pub record IsNoneRead (p : Production) : Type 0 where
  pub not_holder : p ≡ Production.Holder → ⊥
  pub not_held_arguments : p ≡ Production.HeldArguments → ⊥
  pub not_declared_first : p ≡ Production.DeclaredFirst → ⊥
  pub not_constraint : p ≡ Production.Constraint → ⊥
  pub not_encoding_literal : p ≡ Production.EncodingLiteral → ⊥
  pub not_encoding : p ≡ Production.Encoding → ⊥
  pub not_named_module : p ≡ Production.NamedModule → ⊥

-- if the wide reading does something of its own before a part of such a production, the production is a parameter in a lambda's
-- signature
pub apart_generic : (p : Production) (l : Bool) (before : ℕ) → steps_apart p l before ≡ true → IsNoneRead p → (is_parameter p ≡ true) × ((l ≡ true) × (before ≡ 1))
unfolding steps_apart is_parameter
apart_generic Production.Parameter l before is other = (refl, second l before is)
apart_generic Production.NestParameter l before is other = (refl, second l before is)
apart_generic Production.ParameterArgument l before is other = (refl, second l before is)
apart_generic Production.ParameterExpression l before is other = (refl, second l before is)
apart_generic Production.Holder l before is other = absurd (other.not_holder refl)
apart_generic Production.HeldArguments l before is other = absurd (other.not_held_arguments refl)
apart_generic Production.DeclaredFirst l before is other = absurd (other.not_declared_first refl)
apart_generic Production.Constraint l before is other = absurd (other.not_constraint refl)
apart_generic Production.EncodingLiteral l before is other = absurd (other.not_encoding_literal refl)
apart_generic Production.Encoding l before is other = absurd (other.not_encoding refl)
apart_generic Production.NamedModule l before is other = absurd (other.not_named_module refl)
apart_generic _ l before is other = absurd (false≢true is)

-- only names with their `M` and the arguments of constructors and concepts mark candidates
pub unmarked : (p : Production) (around : Around) (vs : List Value) (state : State) → (p ≡ Production.Holder → ⊥) → (p ≡ Production.HeldArguments → ⊥) → with_mark p around vs state ≡ state
unfolding with_mark
unmarked Production.Holder around vs state held own = absurd (held refl)
unmarked Production.HeldArguments around vs state held own = absurd (own refl)
unmarked _ around vs state held own = refl

pub going_unmarked : (p : Production) (around : Around) (going : Continuation) → (p ≡ Production.Holder → ⊥) → (p ≡ Production.HeldArguments → ⊥) → going_marked p around going ≡ going
unfolding going_marked
going_unmarked p around (Ok n) held own = ap (λ x. Ok (record n { state = x })) (unmarked p around n.values n.state held own)
going_unmarked p around (Err e) held own = refl

-- ## Lambdas

pub own_lambda : (t : Term) (number : ℕ) → (is_declaring t || is_open t) ≡ true → as_generic_lambda (values.piece (term.lambda t number)) ≡ values.piece (term.generic_lambda t number)
unfolding as_generic_lambda lambda_with
own_lambda t number is = ap (λ b. values.piece (elim b as (λ _. Term) [ true ↦ term.generic_lambda t number | false ↦ term.lambda t number ])) is

pub plain_lambda : (t : Term) (number : ℕ) → (is_declaring t || is_open t) ≡ false → as_generic_lambda (values.piece (term.lambda t number)) ≡ values.piece (term.lambda t number)
unfolding as_generic_lambda lambda_with
plain_lambda t number is = ap (λ b. values.piece (elim b as (λ _. Term) [ true ↦ term.generic_lambda t number | false ↦ term.lambda t number ])) is

pub no_own : (s : List ℕ) (ts : List Term) (p : Piece) → ((parameters number : ℕ) → p ≡ Piece.Lambda parameters number → ⊥) → as_generic_lambda (values.piece (piece_of s ts p)) ≡ values.piece (piece_of s ts p)
unfolding as_generic_lambda piece_of
no_own s ts (Piece.Lambda parameters number) other = absurd (other parameters number refl)
no_own s ts _ other = refl

pub no_piece : (s : List ℕ) (ts : List Term) (part : Part) → ((p : Piece) → part ≡ Part.Piece p → ⊥) → as_generic_lambda (value_of s ts part) ≡ value_of s ts part
unfolding as_generic_lambda value_of
no_piece s ts (Part.Piece p) other = absurd (other p refl)
no_piece s ts _ other = refl
