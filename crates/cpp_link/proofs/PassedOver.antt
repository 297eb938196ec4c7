-- What is done in a constraint, at a literal in the constraint that denotes an encoding, and in that encoding, is as the wide
-- reading says.
use Rattle.cpp_link.proofs.Basics.{◌≡◌, refl, sym, ◌∙◌, ap, subst, arith, ℕ, ◌<◌, ◌≤◌, List, [], ◌∷◌, length, Bool, true, false, ◌&&◌, nat_eq, nat_lt, Option, Some, None, Result, Ok, true≢false, false≢true, and_parts, eqb-true, ltb-true, Refusal, Memory, Fails, Found, found, Production, at_literal, is_in_constraint, is_at_literal, Term, is_open, State, Around, Value, tree, tree_of, part, next, in_name, in_types, in_constraint_of, is_unseen, in_literal, is_passed_over, passed_over, name_around, types_around, name_if, between_wide, behind, both, Stored, tree_at, IsAliasBelow, Surroundings, Step, link_close, link_meaning, link_close_wide, IsOpenName, name_or, steps_apart, going_marked, makes_before, made_before, trees_in, arguments_in, is_lambda, is_constraint, is_literal, showing_in, around_of, goes_on, with_candidate}
use Rattle.cpp_references.specs.declared.around.Scope.{Scope}
use Rattle.cpp_link.proofs.Rescoped.{going_unmarked}

-- ## Surroundings

scope_unseen : (scope : Scope) → (is_lambda scope && is_in_constraint (showing_in scope)) ≡ is_constraint scope
unfolding is_lambda is_constraint showing_in is_in_constraint
scope_unseen Scope.Nothing = refl
scope_unseen Scope.Lambda = refl
scope_unseen Scope.Constraint = refl
scope_unseen Scope.Literal = refl
scope_unseen Scope.Arguments = refl

scope_passed : (scope : Scope) → (is_lambda scope && is_at_literal (showing_in scope)) ≡ is_literal scope
unfolding is_lambda is_literal showing_in is_at_literal
scope_passed Scope.Nothing = refl
scope_passed Scope.Lambda = refl
scope_passed Scope.Constraint = refl
scope_passed Scope.Literal = refl
scope_passed Scope.Arguments = refl

pub unseen_is : (ts : List Term) (kept : Surroundings) → is_unseen (around_of ts kept) ≡ is_constraint kept.scope
unfolding is_unseen around_of
unseen_is ts kept = scope_unseen kept.scope

pub passed_is : (ts : List Term) (kept : Surroundings) → is_passed_over (around_of ts kept) ≡ is_literal kept.scope
unfolding is_passed_over around_of
passed_is ts kept = scope_passed kept.scope

-- a literal outside of a constraint keeps its surroundings
pub literal_as_before : (ts : List Term) (kept : Surroundings) → is_constraint kept.scope ≡ false → around_of ts kept ≡ in_literal (around_of ts kept)
unfolding in_literal
literal_as_before ts kept other =
    let around : Around = around_of ts kept in
    sym (ap (λ b. elim b as (λ _. Around) [ true ↦ record around { showing = at_literal } | false ↦ around ]) (unseen_is ts kept ∙ other))

-- in a constraint the encoding that a literal denotes is passed over
pub literal_in_constraint : (ts : List Term) (kept : Surroundings) → is_constraint kept.scope ≡ true → around_of ts (record kept { scope = Scope.Literal }) ≡ in_literal (around_of ts kept)
unfolding around_of arguments_in is_lambda is_constraint showing_in in_literal is_unseen is_in_constraint
literal_in_constraint ts kept here = go kept.scope here
  where
    go : (scope : Scope) → is_constraint scope ≡ true → around_of ts (record kept { scope = Scope.Literal }) ≡ in_literal (around_of ts (record kept { scope = scope }))
    go Scope.Constraint h = refl
    go _ h = absurd (false≢true h)

-- the surroundings of the name of an encoding
pub name_passed : (around : Around) (place : ℕ) → is_passed_over around ≡ true → passed_over place ≡ name_around around place
unfolding name_around
name_passed around place is = sym (ap (λ b. elim b as (λ _. Around) [ true ↦ passed_over place | false ↦ in_name place ]) is)

pub name_apart : (around : Around) (place : ℕ) → is_passed_over around ≡ false → in_name place ≡ name_around around place
unfolding name_around
name_apart around place is = sym (ap (λ b. elim b as (λ _. Around) [ true ↦ passed_over place | false ↦ in_name place ]) is)

-- the surroundings of the types of an encoding
pub types_passed : (around : Around) (place : ℕ) (name : Term) → (is_passed_over around && is_open name) ≡ true → passed_over place ≡ types_around around place name
unfolding types_around
types_passed around place name is = sym (ap (λ b. elim b as (λ _. Around) [ true ↦ passed_over place | false ↦ in_types place name ]) is)

pub types_apart : (around : Around) (place : ℕ) (name : Term) → (is_passed_over around && is_open name) ≡ false → in_types place name ≡ types_around around place name
unfolding types_around
types_apart around place name is = sym (ap (λ b. elim b as (λ _. Around) [ true ↦ passed_over place | false ↦ in_types place name ]) is)

-- ## What is done before a part

pub constraint_first : (p : Production) (l : Bool) (before : ℕ) → p ≡ Production.Constraint → steps_apart p l before ≡ true → before ≡ 0
unfolding steps_apart
constraint_first p l before is apart = eqb-true before 0 (ap (λ q. steps_apart q l before) (sym is) ∙ apart)

pub literal_second : (p : Production) (l : Bool) (before : ℕ) → p ≡ Production.EncodingLiteral → steps_apart p l before ≡ true → before ≡ 1
unfolding steps_apart
literal_second p l before is apart = eqb-true before 1 (and_parts l (nat_eq before 1) (ap (λ q. steps_apart q l before) (sym is) ∙ apart)).1

pub encoding_early : (p : Production) (l : Bool) (before : ℕ) → p ≡ Production.Encoding → steps_apart p l before ≡ true → before < 2
unfolding steps_apart
encoding_early p l before is apart = ltb-true before 2 (and_parts l (nat_lt before 2) (ap (λ q. steps_apart q l before) (sym is) ∙ apart)).1

-- the next part is entered, and nothing is marked
entered : (s : List ℕ) (y : Stored) (kept then : Surroundings) (p : Production) (place : ℕ) (vs : List Value) (state : State) (packs : Option ℕ) → (p ≡ Production.Holder → ⊥) → (p ≡ Production.HeldArguments → ⊥)
    → between_wide p (around_of (trees_in s y) kept) place vs (record state { packs = packs }) ≡ next vs (around_of (trees_in s y) then) (record state { packs = packs })
    → between_wide p (around_of (trees_in s y) kept) place vs (record state { packs = packs })
    ≡ going_marked p (around_of (trees_in s y) kept) (goes_on s y kept vs state packs (Step.Go None then packs))
unfolding goes_on with_candidate
entered s y kept then p place vs state packs held own is = is ∙ sym (going_unmarked p (around_of (trees_in s y) kept) (next vs (around_of (trees_in s y) then) (record state { packs = packs })) held own)

pub constraint_read : (s : List ℕ) (y : Stored) (kept then : Surroundings) (place : ℕ) (vs : List Value) (state : State) (packs : Option ℕ) → length vs ≡ 0
    → around_of (trees_in s y) then ≡ in_constraint_of (around_of (trees_in s y) kept)
    → between_wide Production.Constraint (around_of (trees_in s y) kept) place vs (record state { packs = packs })
    ≡ going_marked Production.Constraint (around_of (trees_in s y) kept) (goes_on s y kept vs state packs (Step.Go None then packs))
unfolding between_wide
constraint_read s y kept then place (v ∷ vs) state packs none surrounds = absurd (omega (arith, none))
constraint_read s y kept then place [] state packs none surrounds =
    entered s y kept then Production.Constraint place [] state packs (λ same. absurd cc) (λ same. absurd cc) (ap (λ a. next [] a (record state { packs = packs })) (sym surrounds))

pub literal_read : (s : List ℕ) (y : Stored) (kept then : Surroundings) (place : ℕ) (vs : List Value) (state : State) (packs : Option ℕ) → length vs ≡ 1
    → around_of (trees_in s y) then ≡ in_literal (around_of (trees_in s y) kept)
    → between_wide Production.EncodingLiteral (around_of (trees_in s y) kept) place vs (record state { packs = packs })
    ≡ going_marked Production.EncodingLiteral (around_of (trees_in s y) kept) (goes_on s y kept vs state packs (Step.Go None then packs))
unfolding between_wide
literal_read s y kept then place [] state packs one surrounds = absurd (omega (arith, one))
literal_read s y kept then place (v ∷ w ∷ vs) state packs one surrounds = absurd (omega (arith, one))
literal_read s y kept then place (v ∷ []) state packs one surrounds =
    entered s y kept then Production.EncodingLiteral place (v ∷ []) state packs (λ same. absurd cc) (λ same. absurd cc) (ap (λ a. next (v ∷ []) a (record state { packs = packs })) (sym surrounds))

pub encoding_read : (s : List ℕ) (y : Stored) (kept then : Surroundings) (place : ℕ) (vs : List Value) (state : State) (packs : Option ℕ) → length vs < 2
    → (length vs ≡ 0 → around_of (trees_in s y) then ≡ name_around (around_of (trees_in s y) kept) place)
    → (length vs ≡ 1 → around_of (trees_in s y) then ≡ types_around (around_of (trees_in s y) kept) place (tree_of (part vs 0)))
    → between_wide Production.Encoding (around_of (trees_in s y) kept) place vs (record state { packs = packs })
    ≡ going_marked Production.Encoding (around_of (trees_in s y) kept) (goes_on s y kept vs state packs (Step.Go None then packs))
unfolding between_wide part
encoding_read s y kept then place [] state packs few name types =
    entered s y kept then Production.Encoding place [] state packs (λ same. absurd cc) (λ same. absurd cc) (ap (λ a. next [] a (record state { packs = packs })) (sym (name refl)))
encoding_read s y kept then place (v ∷ []) state packs few name types =
    entered s y kept then Production.Encoding place (v ∷ []) state packs (λ same. absurd cc) (λ same. absurd cc) (ap (λ a. next (v ∷ []) a (record state { packs = packs })) (sym (types refl)))
encoding_read s y kept then place (v ∷ w ∷ vs) state packs few name types = absurd (omega (arith, few))

-- a constraint makes no node before its parts
pub constraint_makes : (known : List Value) → 0 ≡ makes_before Production.Constraint known
unfolding makes_before made_before
constraint_makes known = refl

pub literal_makes : (known : List Value) → 0 ≡ makes_before Production.EncodingLiteral known
unfolding makes_before made_before
literal_makes known = refl

pub encoding_makes : (known : List Value) → 0 ≡ makes_before Production.Encoding known
unfolding makes_before made_before
encoding_makes known = refl

-- ## Where a rule closes

-- What is made, or the name if the name has free parameters, is as the wide reading says.
pub named_is : (old new : List Term) (passed : Bool) (name made meant : Value) (found_ : Option ℕ) (n : ℕ) → passed ≡ true → IsOpenName old (tree_of name) found_ → IsAliasBelow n found_
    → ((i : ℕ) → i < n → tree_at new i ≡ tree_at old i) → made ≡ meant → name_or new found_ made ≡ name_if (passed && is_open (tree_of name)) name meant
unfolding name_or name_if
named_is old new false name made meant found_ n passed is below stays same = absurd (false≢true passed)
named_is old new true name made meant None n passed is below stays same = same ∙ sym (ap (λ b. elim b as (λ _. Value) [ true ↦ tree (tree_of name) true | false ↦ meant ]) is)
named_is old new true name made meant (Some i) n passed is below stays same =
    ap (λ t. tree t true) (stays i below ∙ is.1) ∙ sym (ap (λ b. elim b as (λ _. Value) [ true ↦ tree (tree_of name) true | false ↦ meant ]) is.0)

-- A part with this value closes the rule.
pub named_closes : (old new : List Term) (passed : Bool) (name made meant v : Value) (found_ : Option ℕ) (n : ℕ) (held then : State) → passed ≡ true → IsOpenName old (tree_of name) found_ → IsAliasBelow n found_
    → ((i : ℕ) → i < n → tree_at new i ≡ tree_at old i) → made ≡ meant → held ≡ then → v ≡ name_or new found_ made
    → ◌≡◌ {A = Result (Found Value State) Refusal} (Ok (found (name_if (passed && is_open (tree_of name)) name meant) held)) (Ok (found v then))
named_closes old new passed name made meant v found_ n held then over is below stays same state value =
    both (λ x y. Ok (found x y)) (sym (named_is old new passed name made meant found_ n over is below stays same) ∙ sym value) state

pub found_same : (v w : Value) (x y : State) → ◌≡◌ {A = Result (Found Value State) Refusal} (Ok (found v x)) (Ok (found w y)) → (v ≡ w) × (x ≡ y)
found_same v w x y is =
    let same : found v x ≡ found w y = cc in
    (ap (λ (f : Found Value State). f.value) same, ap (λ (f : Found Value State). f.state) same)

-- a result with a value is refused only for want of memory
pub ok_refused : (e : Refusal) (one : Found Value State) → Fails e (Ok one) → e ≡ Memory
ok_refused Memory one fails = refl
ok_refused _ one fails = absurd cc

-- existing nodes survive additions
pub alias_more : (m n : ℕ) (found_ : Option ℕ) → m ≤ n → IsAliasBelow m found_ → IsAliasBelow n found_
alias_more m n None le below = tt
alias_more m n (Some i) le below = omega (arith, le, below)

-- where nothing is passed over, the value is the value of what is made
pub unnamed_is : (passed has_free : Bool) (name meant : Value) → passed ≡ false → name_if (passed && has_free) name meant ≡ meant
unfolding name_if
unnamed_is true has_free name meant passed = absurd (true≢false passed)
unnamed_is false has_free name meant passed = refl

pub encoding_same : (s : List ℕ) (p : Production) (byte : ℕ) (around : Around) (place : ℕ) (began : State) (vs : List Value) (state : State) → p ≡ Production.Encoding → is_passed_over around ≡ false
    → link_close_wide s p byte around place began vs state ≡ link_close s p byte around place began vs state
unfolding link_close_wide link_close behind
encoding_same s p byte around place began vs state is apart =
    subst (λ q. link_close_wide s q byte around place began vs state ≡ link_close s q byte around place began vs state) (sym is)
    (ap (λ v. Ok (found v state)) (unnamed_is (is_passed_over around) (is_open (tree_of (part vs 0))) (part vs 0) (link_meaning s Production.Encoding byte place around vs) apart))

pub literal_same : (s : List ℕ) (p : Production) (byte : ℕ) (around : Around) (place : ℕ) (began : State) (vs : List Value) (state : State) → p ≡ Production.EncodingLiteral → is_unseen around ≡ false
    → link_close_wide s p byte around place began vs state ≡ link_close s p byte around place began vs state
unfolding link_close_wide link_close behind
literal_same s p byte around place began vs state is apart =
    subst (λ q. link_close_wide s q byte around place began vs state ≡ link_close s q byte around place began vs state) (sym is)
    (ap (λ v. Ok (found v state)) (unnamed_is (is_unseen around) (is_open (tree_of (part vs 1))) (part vs 1) (link_meaning s Production.EncodingLiteral byte place around vs) apart))
