-- What the short way's reading doesn't refuse is the same in the reading of the grammar.
use Rattle.cpp_grammar.proofs.Basics.{◌≡◌, refl, ap, sym, ◌∙◌, subst, ℕ, ◌+◌, ◌-◌, List, [], ◌∷◌, ◌++◌, length, Bool, true, false, ◌&&◌, Option, Some, None, Result, Ok, Err, slice_get, false≢true, IfOk, Refusal, BadReference, Seq36, counted_value, Tree, Forest, branch, empty, token, fixed, nothing, grown, spell, Found, Next, Open, Reading, ◌>>=◌, found, alone, standing, unfold_tree, unfold_forest, Term, parameter, is_open, Counting, prefix_at, qualified_at, State, Around, Value, nothing_there, text, tree, tree_of, text_of, part, parameter_named, Continuation, listed_so_far, parameter_so_far, index_of, between, next, argument_so_far, meaning, opening, close, production_at, byte_of, cpp, first_around, first_state, first_tree, unfold_cpp, name_if, generic_so_far, generic_number, parameter_here, argument_here, as_generic_lambda, awaiting, expecting, expecting_item, calling, ending, noting, opening_wide, numbered, between_wide, close_wide, cpp_wide, unfold_wide}
use Rattle.cpp_grammar.specs.declared.production.Production.{Production}
use Rattle.cpp_grammar.specs.Unfolding as unfolding_
use Rattle.cpp_grammar.proofs.Chosen.{either, if_there}
use Rattle.cpp_grammar.proofs.ClosedStates.{ok_same, behind_bind}
use Rattle.cpp_grammar.proofs.ClosedTrees.{opening_keeps}
use Rattle.cpp_short_reading.specs.Reading.{named_by, lambda_by, close_by, cpp_by, unfold_by, unfold_own}
use Rattle.cpp_short_reading.proofs.Steps.{AreByAll, Settled, NextSettled, noting-stays, numbered-stays, behind-all, between-settled, not-unseen, not-passed, literal-stays, name-stays, types-stay, named-keeps}

-- ## The grammar's own reading

unfoldable opening_own : (is_wide : Bool) → Production → Around → Forest → (place : ℕ) → State → Result State Refusal
opening_own true p around parts place state = opening_wide p around parts place state
opening_own false p around parts place state = opening p parts place state

unfoldable between_own : (is_wide : Bool) → Production → Around → (place : ℕ) → List Value → State → Continuation
between_own true p around place vs state = between_wide p around place vs state
between_own false p around place vs state = between p around place vs state

unfoldable close_own : (is_wide : Bool) → Production → (byte : ℕ) → Around → (place : ℕ) → (began : State) → List Value → State → Result (Found Value State) Refusal
close_own true p byte around place began vs state = close_wide p byte around place began vs state
close_own false p byte around place began vs state = close p byte around place began vs state

unfoldable own : (is_wide : Bool) → Reading Value State Around
own is_wide = record {
  rowless = nothing_there ∷ [];
  token = λ place t state. Ok (found (text t.own) state);
  begin = λ rule parts. opening_own is_wide (production_at rule.rule.number) rule.context parts rule.place rule.before;
  between = λ rule known state. between_own is_wide (production_at rule.rule.number) rule.context rule.place known state;
  close = λ rule known state. close_own is_wide (production_at rule.rule.number) (byte_of rule.taken) rule.context rule.place rule.before known state;
}

-- ## Where a production begins

noted : (counting : Counting) (state new : State) → AreByAll state.candidates → ◌≡◌ {A = Result State Refusal} (Ok state) (Ok new) → ◌≡◌ {A = Result State Refusal} (Ok (noting counting state)) (Ok new)
noted counting state new all e = (let begun : State → Result State Refusal = λ s. Ok s in ap begun (noting-stays counting state all) ∙ e)

opening-stays : (is_wide : Bool) (p : Production) (around : Around) (parts : Forest) (place : ℕ) (state new : State) → AreByAll state.candidates → opening p parts place state ≡ Ok new → opening_own is_wide p around parts place state ≡ Ok new
unfolding opening_own opening opening_wide
opening-stays false p around parts place state new all e = e
opening-stays true Production.NestTemplate around parts place state new all e = noted (expecting (prefix_at (place - 1)) state.counting) state new all e
opening-stays true Production.QualifiedPlain around parts place state new all e = noted (expecting (qualified_at place) state.counting) state new all e
opening-stays true Production.Items around parts place state new all e = noted (expecting_item around place state.counting) state new all e
opening-stays true Production.NestNext around parts place state new all e = noted (calling state.counting) state new all e
opening-stays true Production.NestEnd around parts place state new all e = noted (ending state.counting) state new all e
opening-stays true p around parts place state new all e = e

-- ## Before a part

-- where an argument is named there is a scope, and so no signature
named-here : (around : Around) (place k : ℕ) (state : State) (f : State → Continuation) (own_ : Continuation) (n : Next Value State Around) → Settled around → (parameter_named around place k state >>= f) ≡ Ok n →
    ◌≡◌ {A = Continuation} (elim around.in_lambda [ true ↦ own_ | false ↦ parameter_named around place k state >>= f ]) (Ok n)
unfolding parameter_named
named-here around place k state f own_ n settled e =
    either (λ x. ◌≡◌ {A = Continuation} x (Ok n)) around.in_lambda own_ (parameter_named around place k state >>= f)
    (λ is. absurd (if_there (λ m. (m >>= f) ≡ Ok n → ⊥) around.scope _ _ (λ h. let clash : ◌≡◌ {A = Continuation} (Err (BadReference place)) (Ok n) = h in cc)
    (λ arguments there h. let clash : ◌≡◌ {A = Option Term} None (Some arguments) = sym (settled.bare is) ∙ there in cc) e)) (λ is. e)

here-stays : (around : Around) (place k : ℕ) (state : State) (n : Next Value State Around) → Settled around → parameter_so_far around place k [] state ≡ Ok n → parameter_here around place k [] state ≡ Ok n
unfolding parameter_here parameter_so_far
here-stays around place k state n settled e = named-here around place k state (λ s. listed_so_far around (parameter k) [] s) (generic_so_far around k [] state) n settled e

argument-stays : (around : Around) (place k : ℕ) (state : State) (n : Next Value State Around) → Settled around → argument_so_far around place k state ≡ Ok n → argument_here around place k state ≡ Ok n
unfolding argument_here argument_so_far
argument-stays around place k state n settled e =
    named-here around place k state (λ s. next (tree (parameter k) true ∷ []) around (record s { candidates = state.candidates }))
    (next (tree (parameter (generic_number k)) true ∷ []) around state) n settled e

between-stays : (is_wide : Bool) (p : Production) (around : Around) (place : ℕ) (vs : List Value) (state : State) (n : Next Value State Around) → Settled around → between p around place vs state ≡ Ok n → between_own is_wide p around place vs state ≡ Ok n
unfolding between_own between between_wide parameter_so_far parameter_named listed_so_far argument_so_far
between-stays false p around place vs state n settled e = e
between-stays true Production.Parameter around place (v ∷ []) state n settled e = here-stays around place (index_of v) state n settled e
between-stays true Production.NestParameter around place (v ∷ []) state n settled e = here-stays around place (index_of v) state n settled e
between-stays true Production.ParameterArgument around place (v ∷ []) state n settled e = here-stays around (place - 1) (index_of v) state n settled e
between-stays true Production.ParameterExpression around place (v ∷ []) state n settled e = argument-stays around (place - 1) (index_of v) state n settled e
between-stays true Production.DeclaredFirst around place [] state n settled e = let clash : ◌≡◌ {A = Continuation} (Err (BadReference place)) (Ok n) = e in absurd cc
between-stays true Production.Constraint around place [] state n settled e = let clash : ◌≡◌ {A = Continuation} (Err (BadReference place)) (Ok n) = e in absurd cc
between-stays true Production.EncodingLiteral around place (v ∷ []) state n settled e = ap (λ a. next (v ∷ []) a state) (literal-stays around settled) ∙ e
between-stays true Production.Encoding around place [] state n settled e = ap (λ a. next [] a state) (name-stays around place settled) ∙ e
between-stays true Production.Encoding around place (v ∷ []) state n settled e = ap (λ a. next (v ∷ []) a state) (types-stay around place (tree_of v) settled) ∙ e
between-stays true Production.HeldArguments around place [] state n settled e = let clash : ◌≡◌ {A = Continuation} (Err (BadReference place)) (Ok n) = e in absurd cc
between-stays true Production.Holder around place (v ∷ []) state n settled e = let clash : ◌≡◌ {A = Continuation} (Err (BadReference place)) (Ok n) = e in absurd cc
between-stays true Production.NamedModule around place (v ∷ []) state n settled e = let clash : ◌≡◌ {A = Continuation} (Err (BadReference place)) (Ok n) = e in absurd cc
between-stays true _ around place vs state n settled e = e

-- ## After the parts

-- the grammar's own reading closes a production to the same value
record Closes (own_ : Result (Found Value State) Refusal) (r : Found Value State) : Type 0 where
  is : own_ ≡ Ok r
  candidates : AreByAll r.state.candidates

closed : (v : Value) (now : State) (r : Found Value State) → AreByAll now.candidates → ◌≡◌ {A = Result (Found Value State) Refusal} (Ok (found v now)) (Ok r) → (own_ : Result (Found Value State) Refusal) → own_ ≡ Ok r → Closes own_ r
closed v now r all e own_ is = record { is = is; candidates = subst (λ x. AreByAll x.state.candidates) (ok_same (found v now) r e) all }

named-stays : (is_wide : Bool) (around : Around) (place : ℕ) (o : Option _) (state : State) (r : Found Value State) → AreByAll state.candidates → named_by is_wide around place o state ≡ Ok r →
    (own_ : Result (Found Value State) Refusal) → own_ ≡ named_by is_wide around place o state → Closes own_ r
named-stays is_wide around place o state r all e own_ is =
    record { is = is ∙ e; candidates = subst AreByAll (sym (subst (λ m. IfOk m (λ x. x.state.candidates ≡ state.candidates)) e (named-keeps is_wide around place o state))) all }

-- an encoding that isn't passed over isn't replaced by its name
unnamed-stays : {passed : Bool} → passed ≡ false → (open_ : Bool) (name v : Value) (state : State) → ◌≡◌ {A = Result (Found Value State) Refusal} (Ok (found (name_if (passed && open_) name v) state)) (Ok (found v state))
unfolding name_if
unnamed-stays is open_ name v state = let said : Bool → Result (Found Value State) Refusal = λ b. Ok (found (name_if (b && open_) name v) state) in ap said is

close-stays : (is_wide : Bool) (p : Production) (byte : ℕ) (around : Around) (place : ℕ) (began : State) (vs : List Value) (state : State) (r : Found Value State) → Settled around → AreByAll state.candidates →
    close_by p is_wide byte around place began vs state ≡ Ok r → Closes (close_own is_wide p byte around place began vs state) r
unfolding close_own close close_wide unfolding_.behind meaning named_by lambda_by as_generic_lambda
close-stays false Production.Substitution byte around place began vs state r settled all e =
    named-stays false around (place - 1) (slice_get state.candidates (counted_value Seq36 (text_of (part vs 0)))) state r all e _ refl
close-stays false Production.Inheriting byte around place began vs state r settled all e = let clash : ◌≡◌ {A = Result (Found Value State) Refusal} (Err (BadReference place)) (Ok r) = e in absurd cc
close-stays false p byte around place began vs state r settled all e = closed (meaning p byte around vs) (unfolding_.behind p byte around began vs state) r (behind-all p byte around began vs state all) e _ e
close-stays true Production.Substitution byte around place began vs state r settled all e =
    let n = counted_value Seq36 (text_of (part vs 0)) in
    named-stays true around (place - 1) (slice_get state.candidates n) state r all e (numbered around (place - 1) n state) (numbered-stays around (place - 1) n state all)
close-stays true Production.Inheriting byte around place began vs state r settled all e = let clash : ◌≡◌ {A = Result (Found Value State) Refusal} (Err (BadReference place)) (Ok r) = e in absurd cc
close-stays true Production.Lambda byte around place began vs state r settled all e = closed _ state r all e _ e
close-stays true Production.Holder byte around place began vs state r settled all e =
    closed (meaning Production.Holder byte around vs) state r all e (Ok (found (meaning Production.Holder byte around vs) (noting (awaiting around (tree_of (part vs 1)) state.counting) state)))
    (let said : State → Result (Found Value State) Refusal = λ s. Ok (found (meaning Production.Holder byte around vs) s) in ap said (noting-stays (awaiting around (tree_of (part vs 1)) state.counting) state all) ∙ e)
close-stays true Production.Encoding byte around place began vs state r settled all e =
    closed (meaning Production.Encoding byte around vs) state r all e _ (unnamed-stays (not-passed around settled) (is_open (tree_of (part vs 0))) (part vs 0) (meaning Production.Encoding byte around vs) state ∙ e)
close-stays true Production.EncodingLiteral byte around place began vs state r settled all e =
    closed (meaning Production.EncodingLiteral byte around vs) state r all e _ (unnamed-stays (not-unseen around settled) (is_open (tree_of (part vs 1))) (part vs 1) (meaning Production.EncodingLiteral byte around vs) state ∙ e)
close-stays true p byte around place began vs state r settled all e = closed (meaning p byte around vs) (unfolding_.behind p byte around began vs state) r (behind-all p byte around began vs state all) e _ e

-- ## Trees

-- the grammar's own reading has the same values of parts
record Stays (own_ : Result (Found (List Value) State) Refusal) (r : Found (List Value) State) : Type 0 where
  is : own_ ≡ Ok r
  candidates : AreByAll r.state.candidates

then-ok : {A B : Type 0} (m : Result A Refusal) (f : A → Result B Refusal) (a : A) (r : B) → m ≡ Ok a → f a ≡ Ok r → (m >>= f) ≡ Ok r
then-ok m f a r e g = ap (λ x. x >>= f) e ∙ g

leaf-stays : (v : Value) (state : State) (r : Found (List Value) State) → AreByAll state.candidates → ◌≡◌ {A = Result (Found (List Value) State) Refusal} (Ok (found (v ∷ []) state)) (Ok r) → Stays (Ok (found (v ∷ []) state)) r
leaf-stays v state r all e = record { is = e; candidates = subst (λ x. AreByAll x.state.candidates) (ok_same (found (v ∷ []) state) r e) all }

mutual
  unfolding cpp_by own

  tree-stays : (is_wide : Bool) (t : Tree) (around : Around) (place : ℕ) (state : State) (r : Found (List Value) State) → Settled around → AreByAll state.candidates →
      unfold_tree (cpp_by is_wide) around place t state ≡ Ok r → Stays (unfold_tree (own is_wide) around place t state) r
  tree-stays is_wide (branch rule taken parts) around place state r settled all e =
      let whole = standing rule taken place around state in
      let p = production_at rule.number in
      let from = place + length taken in
      let begun = behind_bind (opening p parts place state) (λ begun. unfold_forest (cpp_by is_wide) whole [] from parts begun >>= λ inner. close_by p is_wide (byte_of taken) around place state inner.value inner.state >>= alone) r e in
      let kept = opening_keeps p parts place state begun.value begun.is in
      let inner = behind_bind (unfold_forest (cpp_by is_wide) whole [] from parts begun.value) (λ inner. close_by p is_wide (byte_of taken) around place state inner.value inner.state >>= alone) r begun.next in
      let ended = behind_bind (close_by p is_wide (byte_of taken) around place state inner.value.value inner.value.state) alone r inner.next in
      let one = ended.value in
      let forest = forest-stays is_wide parts whole [] from begun.value inner.value settled (subst (λ s. AreByAll s.candidates) {x = state} (sym kept) all) inner.is in
      let closes = close-stays is_wide p (byte_of taken) around place state inner.value.value inner.value.state one settled forest.candidates ended.is in
      let same : found (one.value ∷ []) one.state ≡ r = ok_same (found (one.value ∷ []) one.state) r ended.next in
      record {
        is = then-ok (opening_own is_wide p around parts place state) (λ begun. unfold_forest (own is_wide) whole [] from parts begun >>= λ inner. close_own is_wide p (byte_of taken) around place state inner.value inner.state >>= alone) begun.value r (opening-stays is_wide p around parts place state begun.value all begun.is)
            (then-ok (unfold_forest (own is_wide) whole [] from parts begun.value) (λ inner. close_own is_wide p (byte_of taken) around place state inner.value inner.state >>= alone) inner.value r forest.is
            (then-ok (close_own is_wide p (byte_of taken) around place state inner.value.value inner.value.state) alone one r closes.is ended.next));
        candidates = subst (λ x. AreByAll x.state.candidates) {x = found (one.value ∷ []) one.state} same closes.candidates;
      }
  tree-stays is_wide empty around place state r settled all e = leaf-stays nothing_there state r all e
  tree-stays is_wide (token t) around place state r settled all e = leaf-stays (text t.own) state r all e
  tree-stays is_wide (fixed byte) around place state r settled all e = leaf-stays nothing_there state r all e

  forest-stays : (is_wide : Bool) (f : Forest) (rule : Open State Around) (vs : List Value) (place : ℕ) (state : State) (r : Found (List Value) State) → Settled rule.context → AreByAll state.candidates →
      unfold_forest (cpp_by is_wide) rule vs place f state ≡ Ok r → Stays (unfold_forest (own is_wide) rule vs place f state) r
  forest-stays is_wide nothing rule vs place state r settled all e = record { is = e; candidates = subst (λ x. AreByAll x.state.candidates) (ok_same (found vs state) r e) all }
  forest-stays is_wide (grown t f) rule vs place state r settled all e =
      let p = production_at rule.rule.number in
      let later = place + length (spell t) in
      let goes = behind_bind (between p rule.context rule.place vs state) (λ next. unfold_tree (cpp_by is_wide) next.context place t next.state >>= λ part. unfold_forest (cpp_by is_wide) rule (next.values ++ part.value) later f part.state) r e in
      let n = goes.value in
      let next : NextSettled n = subst (λ m. IfOk m NextSettled) goes.is (between-settled p rule.context rule.place vs state settled all) in
      let comes = behind_bind (unfold_tree (cpp_by is_wide) n.context place t n.state) (λ part. unfold_forest (cpp_by is_wide) rule (n.values ++ part.value) later f part.state) r goes.next in
      let part_ = comes.value in
      let tree_ = tree-stays is_wide t n.context place n.state part_ next.context next.candidates comes.is in
      let rest = forest-stays is_wide f rule (n.values ++ part_.value) later part_.state r settled tree_.candidates comes.next in
      record {
        is = then-ok (between_own is_wide p rule.context rule.place vs state) (λ next. unfold_tree (own is_wide) next.context place t next.state >>= λ part. unfold_forest (own is_wide) rule (next.values ++ part.value) later f part.state) n r
            (between-stays is_wide p rule.context rule.place vs state n settled goes.is)
            (then-ok (unfold_tree (own is_wide) n.context place t n.state) (λ part. unfold_forest (own is_wide) rule (n.values ++ part.value) later f part.state) part_ r tree_.is rest.is);
        candidates = rest.candidates;
      }

-- the grammar's own unfolding of a symbol
own-whole : (is_wide : Bool) (shape : Tree) → (unfold_tree (own is_wide) first_around 0 shape first_state >>= λ whole. Ok (first_tree whole.value)) ≡ unfold_own is_wide shape
unfolding own opening_own between_own close_own unfold_own unfold_wide unfold_cpp cpp_wide cpp
own-whole true shape = refl
own-whole false shape = refl

-- A symbol that denotes a tree by the short way's reading denotes the same tree by the grammar's own.
pub meaning-stays : (is_wide : Bool) (shape : Tree) (t : Term) → unfold_by is_wide shape ≡ Ok t → unfold_own is_wide shape ≡ Ok t
unfolding unfold_by first_around first_state
meaning-stays is_wide shape t e =
    let whole = behind_bind (unfold_tree (cpp_by is_wide) first_around 0 shape first_state) (λ whole. Ok (first_tree whole.value)) t e in
    let stays = tree-stays is_wide shape first_around 0 first_state whole.value (record { bare = λ h. absurd (false≢true h); seen = refl }) tt whole.is in
    sym (own-whole is_wide shape)
    ∙ then-ok (unfold_tree (own is_wide) first_around 0 shape first_state) (λ whole. Ok (first_tree whole.value)) whole.value t stays.is whole.next
