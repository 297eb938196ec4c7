-- The ABI's grammar has no declarations of a lambda's parameters: what it reads as a lambda's first type is no pair.
use Rattle.cpp_grammar.proofs.Basics.{◌≡◌, refl, ap, sym, ◌∙◌, subst, ℕ, ◌+◌, List, [], ◌∷◌, ◌++◌, length, Bool, true, false, not, ◌||◌, ◌&&◌, nat_eq, ◌<◌, lit≤, Ok, Err, true≢false, false≢true, eqb-true, BadReference, Rule, Sym, Kind as OfKind, symbols_of, IsSymbol, AreSymbols, Tree, Forest, branch, empty, token, fixed, nothing, grown, spell, TakesRule, IsTree, AreTrees, Found, Next, Open, ◌>>=◌, found, alone, standing, unfold_tree, unfold_forest, Production, Operation, FIRST_OF_LAMBDA, FIRST_AFTER_T, number_of_kind, parts_of, wide_alternatives, wide, Term, list, nil, State, Around, Value, nothing_there, text, pair, part, is_declaring, Continuation, between, meaning, opening, close, production_at, byte_of, cpp, wide_sound}
use Rattle.cpp_grammar.specs.declared.kind.Kind.{Kind}
use Rattle.cpp_grammar.specs.Standing.{is_void, is_nil, parameters, signature_with, listed_value}
use Rattle.cpp_grammar.specs.Unfolding as unfolding_
use Rattle.cpp_grammar.proofs.Choosing.{each_passes, chosen_rule, taken_passes, implied}
use Rattle.cpp_grammar.proofs.Chosen.{either}
use Rattle.cpp_grammar.proofs.ClosedStates.{ok_same, behind_bind}
use Rattle.cpp_grammar.proofs.ClosedTrees.{at_number, its_symbols, taken_rule, known}
use Rattle.cpp_grammar.proofs.Declared.{is_first}
use Rattle.cpp_grammar.proofs.Steps.{all_pass}

-- ## Values

unfoldable pub is_pair : Value → Bool
is_pair (pair key first heads) = true
is_pair _ = false

-- values that don't begin with a pair
unfoldable pub starts : List Value → Bool
starts [] = false
starts (v ∷ vs) = not (is_pair v)

unpaired_signature : (v : Value) (t : Term) → is_pair v ≡ false → signature_with v t ≡ t
unfolding is_pair signature_with
unpaired_signature (pair key first heads) t h = absurd (true≢false h)
unpaired_signature _ t h = refl

-- where nothing is declared, the signature of a lambda is its types
pub undeclared_signature : (vs : List Value) (t : Term) → starts vs ≡ true → signature_with (part vs 0) t ≡ t
unfolding starts part
undeclared_signature [] t h = absurd (false≢true h)
undeclared_signature (v ∷ vs) t h = unpaired_signature v t (unpaired (is_pair v) h)
  where
    unpaired : (b : Bool) → not b ≡ true → b ≡ false
    unpaired true e = absurd (false≢true e)
    unpaired false e = refl

-- a list of types is no signature that declares parameters
pub plain_parameters : (first rest : Term) → is_declaring (parameters (list first rest)) ≡ false
unfolding parameters is_declaring
plain_parameters first rest = either (λ x. is_declaring x ≡ false) (is_void first && is_nil rest) nil (list first rest) (λ is. refl) (λ is. refl)

-- ## Productions

unfoldable pub begins_first : List Sym → Bool
begins_first [] = false
begins_first (x ∷ xs) = is_first x

-- the productions whose first part is a lambda's first type
unfoldable pub has_first : Production → Bool
has_first Production.Lambda = true
has_first Production.FirstWithT = true
has_first _ = false

first_parts : (p : Production) → not (has_first p) || begins_first (parts_of p) ≡ true
unfolding has_first begins_first is_first parts_of number_of_kind
first_parts Production.Mark = refl
first_parts (Production.Operation Operation.ExpressionC) = refl
first_parts _ = refl

-- the productions of a lambda's first type
unfoldable makes_first : Production → Bool
makes_first Production.RestrictType = true
makes_first Production.VolatileType = true
makes_first Production.ConstType = true
makes_first Production.ItemWithD = true
makes_first Production.ReferenceType = true
makes_first Production.PlainArgument = true
makes_first Production.FirstWithT = true
makes_first Production.DeclaredFirst = true
makes_first Production.FirstParameter = true
makes_first _ = false

only_first : (kind : Kind) → each_passes (λ p. not (is_first (OfKind (number_of_kind kind))) || makes_first p) (wide_alternatives kind) ≡ true
unfolding is_first number_of_kind wide_alternatives each_passes makes_first
only_first Kind.Symbol = refl
only_first _ = refl

first_taken : (k : ℕ) (rule : Rule) (taken : List ℕ) → k < wide.kinds → TakesRule wide k rule taken → is_first (OfKind k) ≡ true → makes_first (production_at rule.number) ≡ true
first_taken k rule taken lt takes first =
    let c = chosen_rule k rule taken lt takes in
    ap makes_first (ap (λ x. production_at x.number) c.is ∙ at_number c.production)
    ∙ implied (is_first (OfKind k)) (makes_first c.production) (taken_passes (λ n p. not (is_first (OfKind n)) || makes_first p) only_first k rule c) first

-- the step before a part leaves the values as they are
values_stay : (p : Production) (around : Around) (place : ℕ) (vs : List Value) (state : State) (n : Next Value State Around) → has_first p ≡ true → between p around place vs state ≡ Ok n → n.values ≡ vs
unfolding has_first between all_pass
values_stay Production.Lambda around place vs state n h e = sym (ap (λ x. x.values) (ok_same _ n e))
values_stay Production.FirstWithT around place vs state n h e = sym (ap (λ x. x.values) (ok_same _ n e))
values_stay _ around place vs state n h e = absurd (false≢true h)

-- what declares a parameter is refused before its first part
unfoldable is_refused : Production → Bool
is_refused Production.DeclaredFirst = true
is_refused _ = false

unfoldable has_part : List Sym → Bool
has_part [] = false
has_part (x ∷ xs) = true

refused_parts : (p : Production) → not (is_refused p) || has_part (parts_of p) ≡ true
unfolding is_refused has_part parts_of
refused_parts Production.Mark = refl
refused_parts (Production.Operation Operation.ExpressionC) = refl
refused_parts _ = refl

refuses : (p : Production) (around : Around) (place : ℕ) (state : State) (n : Next Value State Around) → is_refused p ≡ true → between p around place [] state ≡ Ok n → ⊥
unfolding is_refused between
refuses Production.DeclaredFirst around place state n h e = let clash : ◌≡◌ {A = Continuation} (Err (BadReference place)) (Ok n) = e in cc
refuses _ around place state n h e = absurd (false≢true h)

refused_forest : (f : Forest) (rule : Open State Around) (xs : List Sym) (place : ℕ) (state : State) (r : Found (List Value) State) → AreTrees wide xs f → is_refused (production_at rule.rule.number) ≡ true → has_part xs ≡ true →
    unfold_forest cpp rule [] place f state ≡ Ok r → ⊥
unfolding cpp has_part
refused_forest nothing rule [] place state r trees is some e = false≢true some
refused_forest nothing rule (x ∷ xs) place state r trees is some e = trees
refused_forest (grown t f) rule xs place state r trees is some e =
    let goes = behind_bind (between (production_at rule.rule.number) rule.context rule.place [] state) (λ next. unfold_tree cpp next.context place t next.state >>= λ part. unfold_forest cpp rule (next.values ++ part.value) (place + length (spell t)) f part.state) r e in
    refuses (production_at rule.rule.number) rule.context rule.place state goes.value is goes.is

-- every other production of a lambda's first type denotes no pair, or its first part
first_closes : (p : Production) (byte : ℕ) (around : Around) (place : ℕ) (began : State) (vs : List Value) (state : State) (one : Found Value State) → makes_first p ≡ true → is_refused p ≡ false → (has_first p ≡ true → starts vs ≡ true) →
    close p byte around place began vs state ≡ Ok one → starts (one.value ∷ []) ≡ true
unfolding makes_first is_refused has_first close unfolding_.behind meaning listed_value starts is_pair part
first_closes Production.RestrictType byte around place began vs state one h is first e = subst (λ x. starts (x.value ∷ []) ≡ true) (ok_same _ one e) refl
first_closes Production.VolatileType byte around place began vs state one h is first e = subst (λ x. starts (x.value ∷ []) ≡ true) (ok_same _ one e) refl
first_closes Production.ConstType byte around place began vs state one h is first e = subst (λ x. starts (x.value ∷ []) ≡ true) (ok_same _ one e) refl
first_closes Production.ItemWithD byte around place began vs state one h is first e = subst (λ x. starts (x.value ∷ []) ≡ true) (ok_same _ one e) refl
first_closes Production.ReferenceType byte around place began vs state one h is first e = subst (λ x. starts (x.value ∷ []) ≡ true) (ok_same _ one e) refl
first_closes Production.PlainArgument byte around place began vs state one h is first e = subst (λ x. starts (x.value ∷ []) ≡ true) (ok_same _ one e) refl
first_closes Production.FirstParameter byte around place began vs state one h is first e = subst (λ x. starts (x.value ∷ []) ≡ true) (ok_same _ one e) refl
first_closes Production.FirstWithT byte around place began [] state one h is first e = absurd (false≢true (first refl))
first_closes Production.FirstWithT byte around place began (v ∷ vs) state one h is first e = subst (λ x. starts (x.value ∷ []) ≡ true) (ok_same _ one e) (first refl)
first_closes Production.DeclaredFirst byte around place began vs state one h is first e = absurd (true≢false is)
first_closes _ byte around place began vs state one h is first e = absurd (false≢true h)

-- ## Trees

-- the first value stays first as further parts are read
later_start : (f : Forest) (rule : Open State Around) (vs : List Value) (place : ℕ) (state : State) (r : Found (List Value) State) → has_first (production_at rule.rule.number) ≡ true → starts vs ≡ true →
    unfold_forest cpp rule vs place f state ≡ Ok r → starts r.value ≡ true
unfolding cpp starts
later_start nothing rule vs place state r h first e = subst (λ x. starts x.value ≡ true) (ok_same (found vs state) r e) first
later_start (grown t f) rule vs place state r h first e =
    let p = production_at rule.rule.number in
    let later = place + length (spell t) in
    let goes = behind_bind (between p rule.context rule.place vs state) (λ next. unfold_tree cpp next.context place t next.state >>= λ part. unfold_forest cpp rule (next.values ++ part.value) later f part.state) r e in
    let n = goes.value in
    let comes = behind_bind (unfold_tree cpp n.context place t n.state) (λ part. unfold_forest cpp rule (n.values ++ part.value) later f part.state) r goes.next in
    later_start f rule (n.values ++ comes.value.value) later comes.value.state r h
    (starts_then n.values comes.value.value (ap starts (values_stay p rule.context rule.place vs state n h goes.is) ∙ first)) comes.next
  where
    starts_then : (vs ws : List Value) → starts vs ≡ true → starts (vs ++ ws) ≡ true
    starts_then [] ws h = absurd (false≢true h)
    starts_then (v ∷ vs) ws h = h

refused_or_not : (b : Bool) → (b ≡ true → ⊥) → b ≡ false
refused_or_not true h = absurd (h refl)
refused_or_not false h = refl

mutual
  unfolding cpp is_first begins_first starts is_pair

  first_tree : (t : Tree) (x : Sym) (around : Around) (place : ℕ) (state : State) (r : Found (List Value) State) → IsSymbol wide x → IsTree wide x t → is_first x ≡ true → unfold_tree cpp around place t state ≡ Ok r → starts r.value ≡ true
  first_tree (branch rule taken parts) (OfKind k) around place state r lt is first e =
      let whole = standing rule taken place around state in
      let p = production_at rule.number in
      let from = place + length taken in
      let begun = behind_bind (opening p parts place state) (λ begun. unfold_forest cpp whole [] from parts begun >>= λ inner. close p (byte_of taken) around place state inner.value inner.state >>= alone) r e in
      let inner = behind_bind (unfold_forest cpp whole [] from parts begun.value) (λ inner. close p (byte_of taken) around place state inner.value inner.state >>= alone) r begun.next in
      let ended = behind_bind (close p (byte_of taken) around place state inner.value.value inner.value.state) alone r inner.next in
      let one = ended.value in
      let took = taken_rule k rule taken lt is.0 in
      let number : p ≡ took.production = ap (λ x. production_at x.number) took.is ∙ at_number took.production in
      let listed : symbols_of rule ≡ parts_of took.production = ap symbols_of took.is ∙ its_symbols took.production in
      let begins : has_first p ≡ true → begins_first (symbols_of rule) ≡ true =
      λ h. ap begins_first listed ∙ implied (has_first took.production) (begins_first (parts_of took.production)) (first_parts took.production) (sym (ap has_first number) ∙ h) in
      let some : is_refused p ≡ true → has_part (symbols_of rule) ≡ true =
      λ h. ap has_part listed ∙ implied (is_refused took.production) (has_part (parts_of took.production)) (refused_parts took.production) (sym (ap is_refused number) ∙ h) in
      let symbols = wide_sound.symbols k is.0.byte rule lt is.0.is_byte is.0.found in
      let closed = first_closes p (byte_of taken) around place state inner.value.value inner.value.state one (first_taken k rule taken lt is.0 first)
      (refused_or_not (is_refused p) (λ h. refused_forest parts whole (symbols_of rule) from begun.value inner.value is.1 h (some h) inner.is))
      (λ h. first_forest parts whole (symbols_of rule) from begun.value inner.value symbols is.1 h (begins h) inner.is) ended.is in
      subst (λ x. starts x.value ≡ true) (ok_same (found (one.value ∷ []) one.state) r ended.next) closed
  first_tree (branch rule taken parts) _ around place state r lt is first e = absurd is
  first_tree empty x around place state r lt is first e = subst (λ x. starts x.value ≡ true) (ok_same (found (nothing_there ∷ []) state) r e) refl
  first_tree (token t) x around place state r lt is first e = subst (λ x. starts x.value ≡ true) (ok_same (found (text t.own ∷ []) state) r e) refl
  first_tree (fixed byte) x around place state r lt is first e = subst (λ x. starts x.value ≡ true) (ok_same (found (nothing_there ∷ []) state) r e) refl

  -- The first of the values of a lambda's parts is no pair.
  pub first_forest : (f : Forest) (rule : Open State Around) (xs : List Sym) (place : ℕ) (state : State) (r : Found (List Value) State) → AreSymbols wide xs → AreTrees wide xs f → has_first (production_at rule.rule.number) ≡ true →
      begins_first xs ≡ true → unfold_forest cpp rule [] place f state ≡ Ok r → starts r.value ≡ true
  first_forest nothing rule [] place state r symbols trees h first e = absurd (false≢true first)
  first_forest nothing rule (x ∷ xs) place state r symbols trees h first e = absurd trees
  first_forest (grown t f) rule [] place state r symbols trees h first e = absurd trees
  first_forest (grown t f) rule (x ∷ xs) place state r symbols trees h first e =
      let p = production_at rule.rule.number in
      let later = place + length (spell t) in
      let goes = behind_bind (between p rule.context rule.place [] state) (λ next. unfold_tree cpp next.context place t next.state >>= λ part. unfold_forest cpp rule (next.values ++ part.value) later f part.state) r e in
      let n = goes.value in
      let comes = behind_bind (unfold_tree cpp n.context place t n.state) (λ part. unfold_forest cpp rule (n.values ++ part.value) later f part.state) r goes.next in
      let starting = first_tree t x n.context place n.state comes.value symbols.0 trees.0 first comes.is in
      later_start f rule (n.values ++ comes.value.value) later comes.value.state r h
      (ap (λ vs. starts (vs ++ comes.value.value)) (values_stay p rule.context rule.place [] state n h goes.is) ∙ starting) comes.next

-- the parts of such a production begin with a lambda's first type
pub lambda_begins : (p : Production) → has_first p ≡ true → begins_first (parts_of p) ≡ true
lambda_begins p h = implied (has_first p) (begins_first (parts_of p)) (first_parts p) h

first_known : (x : Sym) → is_first x ≡ true → IsSymbol wide x
unfolding is_first
first_known (OfKind k) h = go (nat_eq k FIRST_OF_LAMBDA) refl h
  where
    go : (b : Bool) → nat_eq k FIRST_OF_LAMBDA ≡ b → b || nat_eq k FIRST_AFTER_T ≡ true → k < wide.kinds
    go true is h = subst (λ n. n < wide.kinds) (sym (eqb-true k FIRST_OF_LAMBDA is)) (known FIRST_OF_LAMBDA (lit≤ tt))
    go false is h = subst (λ n. n < wide.kinds) (sym (eqb-true k FIRST_AFTER_T h)) (known FIRST_AFTER_T (lit≤ tt))
first_known _ h = absurd (false≢true h)

-- What is read of the first type of a lambda is no pair.
pub read_first : (t : Tree) (x : Sym) (around : Around) (place : ℕ) (state : State) (r : Found (List Value) State) → IsTree wide x t → is_first x ≡ true → unfold_tree cpp around place t state ≡ Ok r → starts r.value ≡ true
read_first t x around place state r is first e = first_tree t x around place state r (first_known x first) is first e
