-- In the tree of a symbol, the arguments that are a scope have no free parameters.
use Rattle.cpp_grammar.proofs.Basics.{◌≡◌, refl, ap, sym, ◌∙◌, subst, ℕ, suc, ◌+◌, ◌-◌, ◌<◌, ◌≤◌, List, [], ◌∷◌, ◌++◌, length, Bool, true, false, not, ◌&&◌, ◌||◌, ◌^◌, nat_eq, nat_lt, Option, Some, None, Result, Ok, Err, inl, inr, lit≤, arith, true≢false, false≢true, cases_Bool, length-append, Refusal, BadValue, Rule, Sym, Kind as OfKind, symbols_of, IsSymbol, AreSymbols, Tree, Forest, branch, empty, token, fixed, nothing, grown, spell, spell_all, TakesRule, IsTree, AreTrees, Found, Open, Next, ◌>>=◌, found, alone, standing, unfold_tree, unfold_forest, Production, Operation, KIND_COUNT, SYMBOL, SPECIAL, SPECIAL_MARK, SPECIAL_AFTER_G, COMPLETE_NAME, ITEMS, kinds, productions, number_of, number_of_kind, parts_of, is_chain, wide_alternatives, wide, wide_sheet, rule_of, padded, wide_sound, Term, is_open, ScopesAreClosed, Candidate, prefix_at, qualified_at, Counting, State, Around, Value, nothing_there, text, tree_of, part, local_number, in_name, in_types, no_items, between, meaning, last_token, number_tested, opening, close, production_at, byte_of, cpp, first_around, first_state, first_tree, unfold_cpp, passed_over, name_if, expecting, expecting_item, calling, ending, noting, opening_wide, cpp_wide, unfold_wide}
use Rattle.sym_shape.proofs.Firsts.{taken_eats}
use Rattle.cpp_grammar.specs.declared.kind.Kind.{Kind}
use Rattle.cpp_grammar.specs.Unfolding as unfolding_
use Rattle.cpp_grammar.proofs.Choosing.{each_passes, chosen_rule, taken_passes, implied}
use Rattle.cpp_grammar.proofs.ClosedValues.{good_where, Good, AllGood, GoodPrefix, HasClosedName, held, good_tree, good_encoding, good_no_items}
use Rattle.cpp_grammar.proofs.ClosedStates.{Bare, Within, YieldsOf, Yields, yields, AllOld, AllNew, Grows, old_later, grows_same, grows_then, old_append, old_grows, ok_same, behind_bind, close_good, noting_same, wide_close_good}
use Rattle.cpp_grammar.proofs.ClosedParts.{Fits, Moves, StaysInside, abi_moves, wide_moves}
use Rattle.cpp_grammar.proofs.Ways.{has_signature, Way, reading_by, abi_way, wide_way, differs, name_by, types_by, IsPlain, abi_plain, wide_plain}
use Rattle.cpp_grammar.proofs.Declared.{is_declaration, is_first, declares, makes_declared, only_declared, skips, parts_apart, declared_apart, is_nothing, some_values, read_of, read_abi, read_none, read_then, hides, next_apart}
use Rattle.cpp_grammar.proofs.Steps.{first_of_both, second_of_both, all_pass}
use Rattle.cpp_grammar.proofs.Chosen.{either}

-- ## Productions and their rules

pub at_number : (p : Production) → production_at (rule_of p).number ≡ p
unfolding production_at productions rule_of number_of
at_number Production.Mark = refl
at_number (Production.Operation Operation.ExpressionC) = refl
at_number _ = refl

pub its_symbols : (p : Production) → symbols_of (rule_of p) ≡ parts_of p
unfolding rule_of parts_of padded number_of_kind
its_symbols Production.Mark = refl
its_symbols (Production.Operation Operation.ExpressionC) = refl
its_symbols _ = refl

-- the productions that begin an encoding
unfoldable pub opens : Production → Bool
opens Production.Encoding = true
opens Production.Special = true
opens Production.OtherSpecial = true
opens _ = false

pub stays : (p : Production) → opens p ≡ false → StaysInside p
unfolding opens
stays Production.Encoding h = absurd (true≢false h)
stays Production.Special h = absurd (true≢false h)
stays Production.OtherSpecial h = absurd (true≢false h)
stays _ h = tt

pub needs_no_name : (p : Production) (vs : List Value) → StaysInside p → HasClosedName p vs
needs_no_name Production.Encoding vs h = absurd h
needs_no_name _ vs h = tt

unfoldable pub is_encoding : Sym → Bool
is_encoding (OfKind k) = nat_eq k 4
is_encoding _ = false

unfoldable pub has_encoding : List Sym → Bool
has_encoding [] = false
has_encoding (x ∷ xs) = is_encoding x || has_encoding xs

-- a production with an encoding among its parts takes a byte
behind_a_byte : (p : Production) → is_chain p && has_encoding (parts_of p) ≡ false
unfolding is_chain parts_of has_encoding is_encoding number_of_kind
behind_a_byte Production.Mark = refl
behind_a_byte (Production.Operation Operation.ExpressionC) = refl
behind_a_byte _ = refl

only_encodings : (kind : Kind) → each_passes (λ p. not (opens p) || nat_eq (number_of_kind kind) 4) (wide_alternatives kind) ≡ true
unfolding number_of_kind wide_alternatives each_passes opens
only_encodings Kind.Symbol = refl
only_encodings _ = refl

pub or_true : (x y : Bool) → y ≡ true → x || y ≡ true
or_true true y k = refl
or_true false y k = k

-- what is known of the rule of a tree
pub record Taken (k : ℕ) (rule : Rule) : Type 0 where
  pub production : Production
  pub is : rule ≡ rule_of production
  pub encoding : opens production ≡ true → nat_eq k 4 ≡ true

pub same_rule : (p : Production) (rule : Rule) → ◌≡◌ {A = Option Rule} (Some (rule_of p)) (Some rule) → rule_of p ≡ rule
same_rule p rule h = cc

pub taken_rule : (k : ℕ) (rule : Rule) (taken : List ℕ) → k < wide.kinds → TakesRule wide k rule taken → Taken k rule
taken_rule k rule taken lt takes =
    let c = chosen_rule k rule taken lt takes in
    record { production = c.production; is = c.is; encoding = implied (opens c.production) (nat_eq k 4) (taken_passes (λ n p. not (opens p) || nat_eq n 4) only_encodings k rule c) }

-- a kind that declares nothing takes no production of declarations
kind_plain : (k : ℕ) (rule : Rule) (taken : List ℕ) → k < wide.kinds → TakesRule wide k rule taken → declares (OfKind k) ≡ false → makes_declared (production_at rule.number) ≡ false
kind_plain k rule taken lt takes plain =
    let c = chosen_rule k rule taken lt takes in
    ap makes_declared (ap (λ x. production_at x.number) c.is ∙ at_number c.production)
    ∙ without (makes_declared c.production) (declares (OfKind k)) (taken_passes (λ n p. not (makes_declared p) || declares (OfKind n)) only_declared k rule c) plain
  where
    without : (a b : Bool) → not a || b ≡ true → b ≡ false → a ≡ false
    without true b h k = absurd (false≢true (sym k ∙ h))
    without false b h k = refl

-- ## The value of a part

pub record TreeComes (own : Bool) (around : Around) (end : ℕ) (old : State) (r : Found (List Value) State) : Type 0 where
  pub value : Value
  pub is : r.value ≡ value ∷ []
  pub good : Good (Bare own around) (held value)
  pub grows : Grows own around end old r.state

-- no parameters are in a part of this kind, unless it is a declaration
abbrev pub UnlessDeclared : (own : Bool) → Sym → Around → Type 0
UnlessDeclared own x around = Bare own around × (own ≡ true → declares x ≡ false)

pub record TreeYields (own : Bool) (x : Sym) (around : Around) (end : ℕ) (old : State) (r : Found (List Value) State) : Type 0 where
  pub value : Value
  pub is : r.value ≡ value ∷ []
  pub good : Good (UnlessDeclared own x around) (held value)
  pub grows : Grows own around end old r.state

pub tree_yields : (own : Bool) (x : Sym) (around : Around) (end : ℕ) (old : State) (r : Found (List Value) State) → TreeComes own around end old r → TreeYields own x around end old r
tree_yields own x around end old r comes = record { value = comes.value; is = comes.is; good = good_where (Bare own around) (UnlessDeclared own x around) (held comes.value) (λ y. y.0) comes.good; grows = comes.grows }

pub tree_comes : (own : Bool) (x : Sym) (around : Around) (end : ℕ) (old : State) (r : Found (List Value) State) → (own ≡ true → declares x ≡ false) → TreeYields own x around end old r → TreeComes own around end old r
tree_comes own x around end old r plain comes =
    record { value = comes.value; is = comes.is; good = good_where (UnlessDeclared own x around) (Bare own around) (held comes.value) (λ bare. (bare, plain)) comes.good; grows = comes.grows }

pub record ForestComes (own : Bool) (p : Production) (around : Around) (end : ℕ) (old : State) (r : Found (List Value) State) : Type 0 where
  pub good : AllGood (Within own p around) (read_of p own r.value)
  pub grows : Grows own around end old r.state

tested_keeps : (b : Bool) (place : ℕ) (state new : State) → ◌≡◌ {A = Result State Refusal} (elim b [ true ↦ Ok state | false ↦ Err (BadValue place) ]) (Ok new) → new ≡ state
tested_keeps true place state new e = sym (ok_same state new e)
tested_keeps false place state new e = absurd cc

pub opening_keeps : (p : Production) (f : Forest) (place : ℕ) (state new : State) → opening p f place state ≡ Ok new → new ≡ state
unfolding opening number_tested
opening_keeps Production.Lambda f place state new e = tested_keeps (nat_lt (local_number (last_token f [])) (2 ^ 64)) (place - 1) state new e
opening_keeps Production.Unnamed f place state new e = tested_keeps (nat_lt (local_number (last_token f [])) (2 ^ 64)) (place - 1) state new e
opening_keeps _ f place state new e = sym (ok_same state new e)

pub noting_keeps : (counting : Counting) (state new : State) → ◌≡◌ {A = Result State Refusal} (Ok (noting counting state)) (Ok new) → new.candidates ≡ state.candidates
noting_keeps counting state new e = ap (λ s. s.candidates) (sym (ok_same (noting counting state) new e)) ∙ noting_same counting state

-- the candidates are the same once a production has begun
pub begins_same : (p : Production) (around : Around) (f : Forest) (place : ℕ) (state new : State) → opening p f place state ≡ Ok new → new.candidates ≡ state.candidates
begins_same p around f place state new e = ap (λ s. s.candidates) (opening_keeps p f place state new e)

pub wide_begins_same : (p : Production) (around : Around) (f : Forest) (place : ℕ) (state new : State) → opening_wide p around f place state ≡ Ok new → new.candidates ≡ state.candidates
unfolding opening_wide
wide_begins_same Production.NestTemplate around f place state new e = noting_keeps (expecting (prefix_at (place - 1)) state.counting) state new e
wide_begins_same Production.QualifiedPlain around f place state new e = noting_keeps (expecting (qualified_at place) state.counting) state new e
wide_begins_same Production.Items around f place state new e = noting_keeps (expecting_item around place state.counting) state new e
wide_begins_same Production.NestNext around f place state new e = noting_keeps (calling state.counting) state new e
wide_begins_same Production.NestEnd around f place state new e = noting_keeps (ending state.counting) state new e
wide_begins_same p around f place state new e = begins_same p around f place state new e

pub old_fits : (own : Bool) (around inner : Around) (at : ℕ) (cs : List Candidate) → Fits own around inner → AllOld own around at cs → AllOld own inner at cs
old_fits own around inner at [] fits all = tt
old_fits own around inner at (c ∷ cs) fits all = (
  record {
    scopes = all.0.scopes;
    closed = λ bare free outside same. all.0.closed (fits.back bare free).0 (fits.back bare free).1 outside (same ∙ fits.encoding);
    place = elim all.0.place [ inl same ↦ inl (same ∙ sym fits.encoding) | inr less ↦ inr less ];
  },
  old_fits own around inner at cs fits all.1,
)

pub new_fits : (own : Bool) (around inner : Around) (end : ℕ) (cs : List Candidate) → Fits own around inner → AllNew own inner end cs → AllNew own around end cs
new_fits own around inner end [] fits all = tt
new_fits own around inner end (c ∷ cs) fits all = (
  record {
    scopes = all.0.scopes;
    place = elim all.0.place [
      | inl here ↦ inl (here.0 ∙ fits.encoding, λ none outside. here.1 (fits.scope none) outside)
      | inr deep ↦ inr (omega (arith, fits.encoding, deep.0), deep.1)
    ];
  },
  new_fits own around inner end cs fits all.1,
)

pub grows_fits : (own : Bool) (around inner : Around) (end : ℕ) (old new : State) → Fits own around inner → Grows own inner end old new → Grows own around end old new
grows_fits own around inner end old new fits g = record { more = g.more; is = g.is; each = new_fits own around inner end g.more fits g.each }

-- ## Inside an encoding that begins at a place

pub old_inner : (own : Bool) (around : Around) (at : ℕ) (cs : List Candidate) → around.encoding < at → AllOld own around at cs → AllOld own (in_name at) at cs
unfolding in_name
old_inner own around at [] lt all = tt
old_inner own around at (c ∷ cs) lt all =
    let less : c.encoding < at = elim all.0.place [ inl same ↦ omega (arith, same, lt) | inr before ↦ before ] in
    (record { scopes = all.0.scopes; closed = λ bare free outside same. absurd (omega (arith, same, less)); place = inr less }, old_inner own around at cs lt all.1)

pub old_types : (own : Bool) (at b : ℕ) (name : Term) (cs : List Candidate) → AllOld own (in_name at) b cs → AllOld own (in_types at name) b cs
unfolding in_name in_types
old_types own at b name [] all = tt
old_types own at b name (c ∷ cs) all = (record { scopes = all.0.scopes; closed = λ bare free outside same. all.0.closed (refl, λ o. refl) refl outside same; place = all.0.place }, old_types own at b name cs all.1)

new_inner : (own : Bool) (around inner : Around) (at end : ℕ) (cs : List Candidate) → inner.encoding ≡ at → around.encoding < at → at < end → AllNew own inner end cs → AllNew own around end cs
new_inner own around inner at end [] is lt more all = tt
new_inner own around inner at end (c ∷ cs) is lt more all = (
  record {
    scopes = all.0.scopes;
    place = inr (elim all.0.place [
      | inl here ↦ (omega (arith, here.0, is, lt), omega (arith, here.0, is, more))
      | inr deep ↦ (omega (arith, deep.0, is, lt), deep.1)
    ]);
  },
  new_inner own around inner at end cs is lt more all.1,
)

pub grows_inner : (own : Bool) (around inner : Around) (at end : ℕ) (old new : State) → inner.encoding ≡ at → around.encoding < at → at < end → Grows own inner end old new → Grows own around end old new
grows_inner own around inner at end old new is lt more g = record { more = g.more; is = g.is; each = new_inner own around inner at end g.more is lt more g.each }

pub one_good : (s : Type 0) (v : Value) (vs : List Value) → vs ≡ v ∷ [] → Good s (held v) → AllGood s vs
one_good s v vs is good = subst (λ ws. AllGood s ws) (sym is) (good, tt)

-- ## Trees

abbrev pub TreeGood : Way → Tree → Type 0
TreeGood w t = (x : Sym) (around : Around) (at : ℕ) (state : State) (r : Found (List Value) State) → IsSymbol wide x → IsTree wide x t → around.encoding ≤ at →
    (is_encoding x ≡ true → around.encoding < at) → GoodPrefix (Bare w.own around) around.prefix → AllOld w.own around at state.candidates → unfold_tree (reading_by w) around at t state ≡ Ok r →
    TreeYields w.own x around (at + length (spell t)) state r

abbrev pub AllTreesGood : Way → Forest → Type 0
AllTreesGood w nothing = Unit {0}
AllTreesGood w (grown t f) = TreeGood w t × AllTreesGood w f

leaf_comes : (own : Bool) (around : Around) (end : ℕ) (state : State) (v : Value) (r : Found (List Value) State) → Good (Bare own around) (held v) → ◌≡◌ {A = Result (Found (List Value) State) Refusal} (Ok (found (v ∷ []) state)) (Ok r) →
    TreeComes own around end state r
leaf_comes own around end state v r good e =
    subst (λ x. TreeComes own around end state x) (ok_same (found (v ∷ []) state) r e) (record { value = v; is = refl; good = good; grows = grows_same own around end state state refl })

pub grows_on : (own : Bool) (around : Around) (a b : ℕ) (old new : State) → a ≤ b → Grows own around a old new → Grows own around b old new
grows_on own around a b old new le g = grows_then own around a b old new new le g (grows_same own around b new new refl)

-- what is closed stays closed between the parts of a production, and after them
pub record KeepsClosed (w : Way) : Type 0 where
  pub plain : IsPlain w
  pub begins : (production : Production) (around : Around) (f : Forest) (place : ℕ) (state new : State) → w.opening production around f place state ≡ Ok new → new.candidates ≡ state.candidates
  pub goes : (production : Production) (around : Around) (place : ℕ) (vs : List Value) (state : State) (n : Next Value State Around) (at : ℕ) → StaysInside production →
      GoodPrefix (Bare w.own around) around.prefix → AllOld w.own around at state.candidates → AllGood (Within w.own production around) (read_of production w.own vs) → w.between production around place vs state ≡ Ok n →
      Moves w.own production around at state n
  pub comes : (production : Production) (byte : ℕ) (around : Around) (place : ℕ) (began : State) (vs : List Value) (state : State) (r : Found Value State) (end : ℕ) →
      AllOld w.own around end state.candidates → GoodPrefix (Bare w.own around) around.prefix → AllGood (Within w.own production around) (read_of production w.own vs) → HasClosedName production vs →
      w.close production byte around place began vs state ≡ Ok r → Yields w.own production around end state r

-- ## Encodings

-- what an encoding denotes, by the values of its parts
pub record InnerComes (w : Way) (production : Production) (around : Around) (place end : ℕ) (old : State) (r : Found (List Value) State) : Type 0 where
  pub means : (byte : ℕ) (began : State) (one : Found Value State) → w.close production byte around place began r.value r.state ≡ Ok one → Good (Bare w.own around) (held one.value) × (one.state ≡ r.state)
  pub grows : Grows w.own around end old r.state

kind_count : wide.kinds ≡ KIND_COUNT
unfolding wide wide_sheet kinds
kind_count = refl

pub known : (k : ℕ) → suc k ≤ KIND_COUNT → k < wide.kinds
known k lt = omega (arith, lt, kind_count)

-- a list of values that is known
pub same_found : (vs ws known : List Value) (state : State) (r : Found (List Value) State) → ws ≡ known → ◌≡◌ {A = Result (Found (List Value) State) Refusal} (Ok (found (vs ++ ws) state)) (Ok r) → found (vs ++ known) state ≡ r
same_found vs ws known state r is e = ap (λ us. found (vs ++ us) state) (sym is) ∙ ok_same (found (vs ++ ws) state) r e

-- the next part of a rule, where its inputs are known
pub record Stepped (w : Way) (rule : Open State Around) (n : Next Value State Around) (at : ℕ) (t : Tree) (f : Forest) (r : Found (List Value) State) : Type 0 where
  pub part : Found (List Value) State
  pub is : unfold_tree (reading_by w) n.context at t n.state ≡ Ok part
  pub rest : unfold_forest (reading_by w) rule (n.values ++ part.value) (at + length (spell t)) f part.state ≡ Ok r

-- the surroundings of an encoding's name and of its types
pub name_at : (passes : Bool) (at : ℕ) → (name_by passes at).encoding ≡ at
unfolding name_by passed_over in_name
name_at true at = refl
name_at false at = refl

pub name_bare : (passes : Bool) (at : ℕ) → (name_by passes at).scope ≡ None
unfolding name_by passed_over in_name
name_bare true at = refl
name_bare false at = refl

pub name_first : (own passes : Bool) (at : ℕ) → GoodPrefix (Bare own (name_by passes at)) (name_by passes at).prefix
unfolding name_by passed_over in_name
name_first own true at = tt
name_first own false at = tt

pub types_at : (passes : Bool) (at : ℕ) (name : Term) → (types_by passes at name).encoding ≡ at
unfolding types_by passed_over in_types
types_at passes at name = either {A = Around} (λ a. a.encoding ≡ at) (passes && is_open name) _ _ (λ is. refl) (λ is. refl)

pub types_first : (own passes : Bool) (at : ℕ) (name : Term) → GoodPrefix (Bare own (types_by passes at name)) (types_by passes at name).prefix
unfolding types_by passed_over in_types
types_first own passes at name = either {A = Around} (λ a. GoodPrefix (Bare own a) a.prefix) (passes && is_open name) _ _ (λ is. tt) (λ is. tt)

-- a name that isn't passed over is closed
pub name_closed : (own passes : Bool) (at : ℕ) (name : Term) → (passes && is_open name) ≡ false → Good (Bare own (name_by passes at)) name → is_open name ≡ false
unfolding name_by in_name
name_closed own true at name h good = h
name_closed own false at name h good = good.closed (refl, λ o. refl)

-- candidates that are old in the encoding around this one are old in this one
pub old_within : (own : Bool) (around inner : Around) (at : ℕ) (cs : List Candidate) → inner.encoding ≡ at → around.encoding < at → AllOld own around at cs → AllOld own inner at cs
old_within own around inner at [] is lt all = tt
old_within own around inner at (c ∷ cs) is lt all =
    let less : c.encoding < at = elim all.0.place [ inl same ↦ omega (arith, same, lt) | inr before ↦ before ] in
    (record { scopes = all.0.scopes; closed = λ bare free outside same. absurd (omega (arith, same, is, less)); place = inr less }, old_within own around inner at cs is lt all.1)

pub new_within : (own : Bool) (inner other : Around) (end : ℕ) (cs : List Candidate) → inner.encoding ≡ other.encoding → inner.scope ≡ None → AllNew own inner end cs → AllOld own other end cs
new_within own inner other end [] is none all = tt
new_within own inner other end (c ∷ cs) is none all = (
  elim all.0.place [
    | inl here ↦ record { scopes = all.0.scopes; closed = λ bare free outside same. here.1 none outside; place = inl (here.0 ∙ is) }
    | inr deep ↦ record { scopes = all.0.scopes; closed = λ bare free outside same. absurd (omega (arith, deep.0, is, same)); place = inr deep.1 }
  ],
  new_within own inner other end cs is none all.1,
)

pub old_types_by : (own : Bool) (around inner other : Around) (at from next : ℕ) (old new : State) → inner.encoding ≡ at → other.encoding ≡ at → inner.scope ≡ None → around.encoding < at → at ≤ next →
    AllOld own around at old.candidates → Grows own inner next old new → AllOld own other next new.candidates
old_types_by own around inner other at from next old new is other_is none lt le all grows =
    subst (λ cs. AllOld own other next cs) (sym grows.is)
    (old_append own other next old.candidates grows.more (old_later own other at next old.candidates le (old_within own around other at old.candidates other_is lt all)) (new_within own inner other next grows.more (is ∙ sym other_is) none grows.each))

-- the inputs of a part in which nothing is named
pub nameless : (at : ℕ) → List Value → State → Next Value State Around
nameless at vs state = record { context = in_name at; values = vs; state = state }

pub always : (own : Bool) (s : Type 0) (at : ℕ) (t : Term) → Good (Bare own (in_name at)) t → Good s t
unfolding in_name
always own s at t good = record { closed = λ h. good.closed (refl, λ o. refl); scopes = good.scopes }

-- ## Branches

pub filled : (xs : List ℕ) → (xs ≡ [] → ⊥) → 0 < length xs
filled [] h = absurd (h refl)
filled (x ∷ xs) h = omega arith

-- what an encoding's production means, and the state after it
pub inner_closes : (p : Production) → opens p ≡ true → (byte : ℕ) (around : Around) (place : ℕ) (began : State) (vs : List Value) (state : State) (one : Found Value State) →
    close p byte around place began vs state ≡ Ok one → found (meaning p byte around vs) state ≡ one
unfolding opens close unfolding_.behind
inner_closes Production.Encoding o byte around place began vs state one e = ok_same (found (meaning Production.Encoding byte around vs) state) one e
inner_closes Production.Special o byte around place began vs state one e = ok_same (found (meaning Production.Special byte around vs) state) one e
inner_closes Production.OtherSpecial o byte around place began vs state one e = ok_same (found (meaning Production.OtherSpecial byte around vs) state) one e
inner_closes Production.Mark o byte around place began vs state one e = absurd (false≢true o)
inner_closes _ o byte around place began vs state one e = absurd (false≢true o)

-- where an encoding is among the symbols of a rule, the rule takes a byte
pub takes_byte : (p : Production) (rule : Rule) (k : ℕ) (taken : List ℕ) → rule ≡ rule_of p → TakesRule wide k rule taken → has_encoding (symbols_of rule) ≡ true → 0 < length taken
unfolding rule_of
takes_byte p rule k taken is takes has = go (is_chain p) refl (behind_a_byte p)
  where
    there : has_encoding (parts_of p) ≡ true
    there = sym (ap has_encoding (ap symbols_of is ∙ its_symbols p)) ∙ has

    go : (chains : Bool) → is_chain p ≡ chains → chains && has_encoding (parts_of p) ≡ false → 0 < length taken
    go true e none = absurd (true≢false (sym there ∙ none))
    go false e none = omega (arith, ap length (taken_eats wide k rule taken takes (ap (λ x. x.eats) is ∙ ap not e)))

-- a rule that is open at a place
abbrev pub Whole : Rule → List ℕ → ℕ → Around → State → Open State Around
Whole rule taken at around state = standing rule taken at around state

nothing_good : (own : Bool) (around : Around) → Good (Bare own around) (held nothing_there)
unfolding held is_open
nothing_good own around = record { closed = λ h. refl; scopes = λ n. tt }

text_good : (own : Bool) (around : Around) (bytes : List ℕ) → Good (Bare own around) (held (text bytes))
unfolding held is_open
text_good own around bytes = record { closed = λ h. refl; scopes = λ n. tt }

first_good : (v : Value) (vs : List Value) → vs ≡ v ∷ [] → ScopesAreClosed (tree_of v) → ScopesAreClosed (first_tree vs)
unfolding first_tree
first_good v vs is good = subst (λ ws. ScopesAreClosed (first_tree ws)) (sym is) good

-- a property of all parts of a production holds of the parts after the one that was read
pub left_apart : (p : Production) (first : Bool) (vs us : List Value) (x : Sym) (xs : List Sym) (value : Value) → us ≡ value ∷ [] → parts_apart p first (x ∷ xs) ≡ true → parts_apart p (is_nothing (vs ++ us)) xs ≡ true
unfolding parts_apart
left_apart p first vs us x xs value is apart =
    ap (λ b. parts_apart p b xs) (ap (λ ws. is_nothing (vs ++ ws)) is ∙ some_values vs value)
    ∙ second_of_both (not (declares x) || (has_signature p || (first && skips p))) (parts_apart p false xs) apart

pub rule_apart : (p : Production) (rule : Rule) → rule ≡ rule_of p → parts_apart (production_at rule.number) true (symbols_of rule) ≡ true
rule_apart p rule is =
    ap (λ q. parts_apart q true (symbols_of rule)) (ap (λ x. production_at x.number) is ∙ at_number p) ∙ ap (parts_apart p true) (ap symbols_of is ∙ its_symbols p) ∙ declared_apart p

-- ## Either reading

module _ (w : Way) (keeps : KeepsClosed w) where
  -- special names denote what they denote in the ABI's reading
  plain_means : (p : Production) → opens p ≡ true → differs p ≡ false → (around : Around) (place byte : ℕ) (began : State) (vs : List Value) (state : State) (one : Found Value State) →
      Good (Bare w.own around) (held (meaning p byte around vs)) → w.close p byte around place began vs state ≡ Ok one → Good (Bare w.own around) (held one.value) × (one.state ≡ state)
  plain_means p opening apart around place byte began vs state one good e =
      let same = inner_closes p opening byte around place began vs state one (sym (keeps.plain.close p apart byte around place began vs state) ∙ e) in
      (subst (λ x. Good (Bare w.own around) (held x.value)) same good, ap (λ x. x.state) (sym same))

  -- what an encoding denotes, or only its name
  encoding_means : (around : Around) (at place byte : ℕ) (began : State) (u v : Value) (state : State) (one : Found Value State) → Good (Bare w.own (name_by (w.passes around) at)) (held u) →
      ScopesAreClosed (no_items v) → w.close Production.Encoding byte around place began (u ∷ v ∷ []) state ≡ Ok one → Good (Bare w.own around) (held one.value) × (one.state ≡ state)
  unfolding name_if meaning held part
  encoding_means around at place byte began u v state one good scopes e =
      let named = good_tree (Bare w.own (name_by (w.passes around) at)) u good in
      let whole = meaning Production.Encoding byte around (u ∷ v ∷ []) in
      let same = ok_same (found (name_if (w.passes around && is_open (tree_of u)) u whole) state) one (sym (keeps.plain.encoding byte around place began (u ∷ v ∷ []) state) ∙ e) in
      let never : (w.passes around && is_open (tree_of u)) ≡ true → Bare w.own around → is_open (tree_of u) ≡ false =
      λ is bare. (let pass = keeps.plain.passing around (first_of_both (w.passes around) (is_open (tree_of u)) is) in absurd (true≢false (sym pass.1 ∙ bare.1 pass.0))) in (
        subst (λ x. Good (Bare w.own around) (held x.value)) same
            (either {A = Value} (λ x. Good (Bare w.own around) (held x)) (w.passes around && is_open (tree_of u)) _ whole
            (λ is. record { closed = never is; scopes = named.scopes })
            (λ is. good_encoding (Bare w.own around) u (no_items v) (λ n. name_closed w.own (w.passes around) at (tree_of u) is named) named.scopes (λ n. scopes))),
        ap (λ x. x.state) (sym same),
      )

  -- the values stay as they are before a second part
  pub skipped_stays : (p : Production) (around : Around) (place : ℕ) (vs : List Value) (state : State) (n : Next Value State Around) → skips p ≡ true → w.between p around place vs state ≡ Ok n → n.values ≡ vs
  unfolding skips between all_pass differs
  skipped_stays Production.DeclaredArgument around place vs state n h e =
      let whole : Next Value State Around = record { context = around; values = vs; state = state } in
      ap (λ x. x.values) (sym (ok_same whole n (sym (keeps.plain.between Production.DeclaredArgument refl around place vs state) ∙ e)))
  skipped_stays _ around place vs state n h e = absurd (false≢true h)

  -- one more part is read: a value that is used is closed
  pub one_read : (p : Production) (around : Around) (place : ℕ) (vs us : List Value) (state : State) (n : Next Value State Around) (x : Sym) (xs : List Sym) (value : Value) → us ≡ value ∷ [] → parts_apart p (is_nothing vs) (x ∷ xs) ≡ true →
      w.between p around place vs state ≡ Ok n → AllGood (Within w.own p around) (read_of p w.own n.values) → (Within w.own p around → Bare w.own n.context) → Good (UnlessDeclared w.own x n.context) (held value) →
      AllGood (Within w.own p around) (read_of p w.own (n.values ++ us))
  unfolding parts_apart
  one_read p around place vs us state n x xs value is apart goes values bare good =
      let s = Within w.own p around in
      let here : (not (declares x) || (has_signature p || (is_nothing vs && skips p))) ≡ true = first_of_both (not (declares x) || (has_signature p || (is_nothing vs && skips p))) (parts_apart p false xs) apart in
      let used : hides p w.own n.values ≡ false → Good s (held value) =
      λ unhidden. good_where (UnlessDeclared w.own x n.context) s (held value)
      (λ within. (bare within, λ own. next_apart p w.own vs n.values x here (λ h. skipped_stays p around place vs state n h goes) unhidden own (within.1 own))) good in
      subst (λ ws. AllGood s (read_of p w.own (n.values ++ ws))) (sym is) (read_then s p w.own n.values value values used)

  pub forest_good : (f : Forest) → AllTreesGood w f → (rule : Open State Around) (xs : List Sym) (vs : List Value) (at : ℕ) (state : State) (r : Found (List Value) State) →
      StaysInside (production_at rule.rule.number) → parts_apart (production_at rule.rule.number) (is_nothing vs) xs ≡ true → AreSymbols wide xs → AreTrees wide xs f → rule.context.encoding ≤ at →
      (has_encoding xs ≡ true → rule.context.encoding < at) → GoodPrefix (Bare w.own rule.context) rule.context.prefix →
      AllGood (Within w.own (production_at rule.rule.number) rule.context) (read_of (production_at rule.rule.number) w.own vs) → AllOld w.own rule.context at state.candidates → unfold_forest (reading_by w) rule vs at f state ≡ Ok r →
      ForestComes w.own (production_at rule.rule.number) rule.context (at + length (spell_all f)) state r
  unfolding reading_by has_encoding
  forest_good nothing all rule xs vs at state r stays apart known trees le inside pre good old e =
      subst (λ x. ForestComes w.own (production_at rule.rule.number) rule.context (at + length (spell_all nothing)) state x) (ok_same (found vs state) r e)
      (record { good = good; grows = grows_same w.own rule.context (at + length (spell_all nothing)) state state refl })
  forest_good (grown t f) all rule [] vs at state r stays apart known trees le inside pre good old e = absurd trees
  forest_good (grown t f) all rule (x ∷ xs) vs at state r stays apart known trees le inside pre good old e =
      let around = rule.context in
      let p = production_at rule.rule.number in
      let s = Within w.own p around in
      let later = at + length (spell t) in
      let end = at + length (spell t ++ spell_all f) in
      let b = behind_bind (w.between p around rule.place vs state)
      (λ next. unfold_tree (reading_by w) next.context at t next.state >>= λ part. unfold_forest (reading_by w) rule (next.values ++ part.value) (at + length (spell t)) f part.state) r e in
      let n = b.value in
      let g = keeps.goes p around rule.place vs state n at stays pre old good b.is in
      let c = behind_bind (unfold_tree (reading_by w) n.context at t n.state) (λ part. unfold_forest (reading_by w) rule (n.values ++ part.value) (at + length (spell t)) f part.state) r b.next in
      let part = c.value in
      let old1 = old_grows w.own around at at state n.state (omega arith) old g.grows in
      let tree = all.0 x n.context at n.state part known.0 trees.0 (omega (arith, g.fits.encoding, le)) (λ opening. omega (arith, g.fits.encoding, inside (or_first (is_encoding x) (has_encoding xs) opening)))
      g.fits.prefix (old_fits w.own around n.context at n.state.candidates g.fits old1) c.is in
      let grown1 = grows_fits w.own around n.context later n.state part.state g.fits tree.grows in
      let old2 = old_grows w.own around at later n.state part.state (omega arith) old1 grown1 in
      let values = one_read p around rule.place vs part.value state n x xs tree.value tree.is apart b.is g.values g.bare tree.good in
      let rest = forest_good f all.1 rule xs (n.values ++ part.value) later part.state r stays (left_apart p (is_nothing vs) n.values part.value x xs tree.value tree.is apart) known.1 trees.1 (omega (arith, le))
      (λ opening. omega (arith, inside (or_true (is_encoding x) (has_encoding xs) opening))) pre values old2 c.next in
      record {
        good = rest.good;
        grows = grows_then w.own around later end state part.state r.state (omega (arith, length-append (spell t) (spell_all f)))
            (grows_then w.own around at later state n.state part.state (omega arith) g.grows grown1)
            (grows_on w.own around (later + length (spell_all f)) end part.state r.state (omega (arith, length-append (spell t) (spell_all f))) rest.grows);
      }
    where
      or_first : (a b : Bool) → a ≡ true → a || b ≡ true
      or_first a b h = ap (λ c. c || b) h

  -- one part of an encoding, in which nothing is named
  pub name_comes : (t : Tree) → TreeGood w t → (x : Sym) (at from : ℕ) (state : State) (part : Found (List Value) State) → IsSymbol wide x → IsTree wide x t → is_encoding x ≡ false → declares x ≡ false → at ≤ from → AllOld w.own (in_name at) from state.candidates →
      unfold_tree (reading_by w) (in_name at) from t state ≡ Ok part → TreeComes w.own (in_name at) (from + length (spell t)) state part
  unfolding in_name
  name_comes t good x at from state part known is other plain le old e =
      tree_comes w.own x (in_name at) (from + length (spell t)) state part (λ own. plain) (good x (in_name at) from state part known is le (λ opening. absurd (true≢false (sym opening ∙ other))) tt old e)

  pub stepped : (rule : Open State Around) (vs : List Value) (at : ℕ) (state : State) (t : Tree) (f : Forest) (r : Found (List Value) State) (n : Next Value State Around) →
      w.between (production_at rule.rule.number) rule.context rule.place vs state ≡ Ok n → unfold_forest (reading_by w) rule vs at (grown t f) state ≡ Ok r → Stepped w rule n at t f r
  unfolding reading_by
  stepped rule vs at state t f r n goes e =
      let onward : Next Value State Around → Result (Found (List Value) State) Refusal =
      λ next. unfold_tree (reading_by w) next.context at t next.state >>= λ part. unfold_forest (reading_by w) rule (next.values ++ part.value) (at + length (spell t)) f part.state in
      let moved : onward n ≡ Ok r = sym (ap (λ x. x >>= onward) goes) ∙ e in
      let c = behind_bind (unfold_tree (reading_by w) n.context at t n.state) (λ part. unfold_forest (reading_by w) rule (n.values ++ part.value) (at + length (spell t)) f part.state) r moved in
      record { part = c.value; is = c.is; rest = c.next }

  special_comes : (f : Forest) → AllTreesGood w f → (rule : Open State Around) (from : ℕ) (state : State) (r : Found (List Value) State) → production_at rule.rule.number ≡ Production.Special →
      AreTrees wide (parts_of Production.Special) f → rule.context.encoding < rule.place → rule.place ≤ from → rule.place < from + length (spell_all f) → AllOld w.own rule.context rule.place state.candidates →
      unfold_forest (reading_by w) rule [] from f state ≡ Ok r → InnerComes w Production.Special rule.context rule.place (from + length (spell_all f)) state r
  unfolding differs opens reading_by parts_of number_of_kind between meaning held is_encoding nameless part in_name declares is_declaration is_first
  special_comes (grown t nothing) all rule from state r is trees lt le more old e =
      let around = rule.context in
      let at = rule.place in
      let s = stepped rule [] from state t nothing r (nameless at [] state) (ap (λ p. w.between p around at [] state) is ∙ keeps.plain.between Production.Special refl around at [] state) e in
      let c = name_comes t all.0 (OfKind SPECIAL) at from state s.part (known 5 (lit≤ tt)) trees.0 refl refl le (old_later w.own (in_name at) at from state.candidates le (old_inner w.own around at state.candidates lt old)) s.is in
      let same : found (c.value ∷ []) s.part.state ≡ r = same_found [] s.part.value (c.value ∷ []) s.part.state r c.is s.rest in
      let end = from + length (spell t ++ []) in
      subst (λ x. InnerComes w Production.Special around at end state x) same
      (record {
        means = λ byte began one. plain_means Production.Special refl refl around at byte began (c.value ∷ []) s.part.state one (always w.own (Bare w.own around) at (held c.value) c.good);
        grows = grows_inner w.own around (in_name at) at end state s.part.state refl lt more
            (grows_on w.own (in_name at) (from + length (spell t)) end state s.part.state (omega (arith, length-append (spell t) [])) c.grows);
      })
  special_comes nothing all rule from state r is trees lt le more old e = absurd trees
  special_comes (grown t (grown u f)) all rule from state r is trees lt le more old e = absurd trees.1

  -- a production that begins an encoding, and has two parts in which nothing is named
  two_come : (p : Production) → opens p ≡ true → differs p ≡ false → (x y : Sym) → IsSymbol wide x → IsSymbol wide y → is_encoding x ≡ false → is_encoding y ≡ false → declares x ≡ false → declares y ≡ false →
      ((around : Around) (at : ℕ) (vs : List Value) (state : State) → w.between p around at vs state ≡ Ok (nameless at vs state)) →
      ((byte at : ℕ) (around : Around) (u v : Value) → Good (Bare w.own (in_name at)) (held v) → Good (Bare w.own around) (held (meaning p byte around (u ∷ v ∷ [])))) →
      (f : Forest) → AllTreesGood w f → (rule : Open State Around) (from : ℕ) (state : State) (r : Found (List Value) State) → production_at rule.rule.number ≡ p →
      AreTrees wide (x ∷ y ∷ []) f → rule.context.encoding < rule.place → rule.place ≤ from → rule.place < from + length (spell_all f) → AllOld w.own rule.context rule.place state.candidates →
      unfold_forest (reading_by w) rule [] from f state ≡ Ok r → InnerComes w p rule.context rule.place (from + length (spell_all f)) state r
  unfolding reading_by nameless in_name
  two_come p opening apart x y known_x known_y apart_x apart_y plain_x plain_y goes means (grown t (grown u nothing)) all rule from state r is trees lt le more old e =
      let around = rule.context in
      let at = rule.place in
      let first = stepped rule [] from state t (grown u nothing) r (nameless at [] state) (ap (λ p. w.between p around at [] state) is ∙ goes around at [] state) e in
      let old0 = old_later w.own (in_name at) at from state.candidates le (old_inner w.own around at state.candidates lt old) in
      let c = name_comes t all.0 x at from state first.part known_x trees.0 apart_x plain_x le old0 first.is in
      let next = from + length (spell t) in
      let vs = c.value ∷ [] in
      let onward = subst (λ ws. unfold_forest (reading_by w) rule ws next (grown u nothing) first.part.state ≡ Ok r) c.is first.rest in
      let second = stepped rule vs next first.part.state u nothing r (nameless at vs first.part.state) (ap (λ p. w.between p around at vs first.part.state) is ∙ goes around at vs first.part.state) onward in
      let old1 = old_grows w.own (in_name at) from next state first.part.state (omega arith) old0 c.grows in
      let d = name_comes u all.1.0 y at next first.part.state second.part known_y trees.1.0 apart_y plain_y (omega (arith, le)) old1 second.is in
      let same : found (c.value ∷ d.value ∷ []) second.part.state ≡ r = same_found vs second.part.value (d.value ∷ []) second.part.state r d.is second.rest in
      let end = from + length (spell t ++ (spell u ++ [])) in
      subst (λ x. InnerComes w p around at end state x) same
      (record {
        means = λ byte began one. plain_means p opening apart around at byte began (c.value ∷ d.value ∷ []) second.part.state one (means byte at around c.value d.value d.good);
        grows = grows_inner w.own around (in_name at) at end state second.part.state refl lt more
            (grows_then w.own (in_name at) next end state first.part.state second.part.state (omega (arith, length-append (spell t) (spell u ++ []))) c.grows
            (grows_on w.own (in_name at) (next + length (spell u)) end first.part.state second.part.state (omega (arith, length-append (spell t) (spell u ++ []), length-append (spell u) [])) d.grows));
      })
  two_come p opening apart x y known_x known_y apart_x apart_y plain_x plain_y goes means nothing all rule from state r is trees lt le more old e = absurd trees
  two_come p opening apart x y known_x known_y apart_x apart_y plain_x plain_y goes means (grown t nothing) all rule from state r is trees lt le more old e = absurd trees.1
  two_come p opening apart x y known_x known_y apart_x apart_y plain_x plain_y goes means (grown t (grown u (grown v f))) all rule from state r is trees lt le more old e = absurd trees.1.1

  other_special_comes : (f : Forest) → AllTreesGood w f → (rule : Open State Around) (from : ℕ) (state : State) (r : Found (List Value) State) → production_at rule.rule.number ≡ Production.OtherSpecial →
      AreTrees wide (parts_of Production.OtherSpecial) f → rule.context.encoding < rule.place → rule.place ≤ from → rule.place < from + length (spell_all f) → AllOld w.own rule.context rule.place state.candidates →
      unfold_forest (reading_by w) rule [] from f state ≡ Ok r → InnerComes w Production.OtherSpecial rule.context rule.place (from + length (spell_all f)) state r
  unfolding differs opens parts_of number_of_kind between meaning is_encoding nameless part declares is_declaration is_first
  other_special_comes = two_come Production.OtherSpecial refl refl (OfKind SPECIAL_MARK) (OfKind SPECIAL_AFTER_G) (known SPECIAL_MARK (lit≤ tt)) (known SPECIAL_AFTER_G (lit≤ tt)) refl refl refl refl (keeps.plain.between Production.OtherSpecial refl)
      (λ byte at around u v good. always w.own (Bare w.own around) at (held v) good)

  encoding_comes : (f : Forest) → AllTreesGood w f → (rule : Open State Around) (from : ℕ) (state : State) (r : Found (List Value) State) → production_at rule.rule.number ≡ Production.Encoding →
      AreTrees wide (parts_of Production.Encoding) f → rule.context.encoding < rule.place → rule.place ≤ from → rule.place < from + length (spell_all f) → AllOld w.own rule.context rule.place state.candidates →
      unfold_forest (reading_by w) rule [] from f state ≡ Ok r → InnerComes w Production.Encoding rule.context rule.place (from + length (spell_all f)) state r
  unfolding differs reading_by parts_of number_of_kind between meaning held is_encoding nameless part in_name in_types declares is_declaration is_first
  encoding_comes (grown t (grown u nothing)) all rule from state r is trees lt le more old e =
      let around = rule.context in
      let at = rule.place in
      let passes = w.passes around in
      let inner = name_by passes at in
      let inside_ = name_at passes at in
      let begins : Next Value State Around = record { context = inner; values = []; state = state } in
      let first = stepped rule [] from state t (grown u nothing) r begins (ap (λ p. w.between p around at [] state) is ∙ keeps.plain.name around at state) e in
      let old0 = old_later w.own inner at from state.candidates le (old_within w.own around inner at state.candidates inside_ lt old) in
      let next = from + length (spell t) in
      let c = tree_comes w.own (OfKind COMPLETE_NAME) inner next state first.part (λ own. refl)
      (all.0 (OfKind COMPLETE_NAME) inner from state first.part (known 8 (lit≤ tt)) trees.0 (omega (arith, inside_, le)) (λ opening. absurd (false≢true opening)) (name_first w.own passes at) old0 first.is) in
      let name = tree_of c.value in
      let vs = c.value ∷ [] in
      let onward = subst (λ ws. unfold_forest (reading_by w) rule ws next (grown u nothing) first.part.state ≡ Ok r) c.is first.rest in
      let within_ = types_by passes at name in
      let there = types_at passes at name in
      let types : Next Value State Around = record { context = within_; values = vs; state = first.part.state } in
      let second = stepped rule vs next first.part.state u nothing r types (ap (λ p. w.between p around at vs first.part.state) is ∙ keeps.plain.types around at c.value first.part.state) onward in
      let old1 = old_types_by w.own around inner within_ at from next state first.part.state inside_ there (name_bare passes at) lt (omega (arith, le)) old c.grows in
      let d = tree_comes w.own (OfKind ITEMS) within_ (next + length (spell u)) first.part.state second.part (λ own. refl)
      (all.1.0 (OfKind ITEMS) within_ next first.part.state second.part (known ITEMS (lit≤ tt)) trees.1.0 (omega (arith, there, le)) (λ opening. absurd (false≢true opening)) (types_first w.own passes at name) old1 second.is) in
      let same : found (c.value ∷ d.value ∷ []) second.part.state ≡ r = same_found vs second.part.value (d.value ∷ []) second.part.state r d.is second.rest in
      let end = from + length (spell t ++ (spell u ++ [])) in
      subst (λ x. InnerComes w Production.Encoding around at end state x) same
      (record {
        means = λ byte began one. encoding_means around at at byte began c.value d.value second.part.state one c.good
            ((good_no_items (Bare w.own within_) d.value (good_tree (Bare w.own within_) d.value d.good)).scopes tt);
        grows = grows_then w.own around end end state first.part.state second.part.state (omega arith)
            (grows_inner w.own around inner at end state first.part.state inside_ lt more
            (grows_on w.own inner next end state first.part.state (omega (arith, length-append (spell t) (spell u ++ []))) c.grows))
            (grows_inner w.own around within_ at end first.part.state second.part.state there lt more
            (grows_on w.own within_ (next + length (spell u)) end first.part.state second.part.state (omega (arith, length-append (spell t) (spell u ++ []), length-append (spell u) [])) d.grows));
      })
  encoding_comes nothing all rule from state r is trees lt le more old e = absurd trees
  encoding_comes (grown t nothing) all rule from state r is trees lt le more old e = absurd trees.1
  encoding_comes (grown t (grown u (grown v f))) all rule from state r is trees lt le more old e = absurd trees.1.1

  pub inner_comes : (p : Production) → opens p ≡ true → (f : Forest) → AllTreesGood w f → (rule : Open State Around) (from : ℕ) (state : State) (r : Found (List Value) State) → production_at rule.rule.number ≡ p →
      AreTrees wide (parts_of p) f → rule.context.encoding < rule.place → rule.place ≤ from → rule.place < from + length (spell_all f) → AllOld w.own rule.context rule.place state.candidates →
      unfold_forest (reading_by w) rule [] from f state ≡ Ok r → InnerComes w p rule.context rule.place (from + length (spell_all f)) state r
  unfolding opens
  inner_comes Production.Encoding o = encoding_comes
  inner_comes Production.Special o = special_comes
  inner_comes Production.OtherSpecial o = other_special_comes
  inner_comes Production.Mark o = absurd (false≢true o)
  inner_comes _ o = absurd (false≢true o)

  pub plain_comes : (k : ℕ) (rule : Rule) (taken : List ℕ) (parts : Forest) → AllTreesGood w parts → (p : Production) → rule ≡ rule_of p → opens p ≡ false → (around : Around) (at : ℕ) (state begun : State)
      (inner : Found (List Value) State) (one : Found Value State) → k < wide.kinds → IsTree wide (OfKind k) (branch rule taken parts) → around.encoding ≤ at → GoodPrefix (Bare w.own around) around.prefix →
      AllOld w.own around at state.candidates → begun.candidates ≡ state.candidates → unfold_forest (reading_by w) (Whole rule taken at around state) [] (at + length taken) parts begun ≡ Ok inner →
      w.close (production_at rule.number) (byte_of taken) around at state inner.value inner.state ≡ Ok one → TreeYields w.own (OfKind k) around (at + length (taken ++ spell_all parts)) state (found (one.value ∷ []) one.state)
  unfolding is_nothing
  plain_comes k rule taken parts all p is plain around at state begun inner one lt tree le pre old begins e f =
      let number : production_at rule.number ≡ p = ap (λ x. production_at x.number) is ∙ at_number p in
      let inside_ : StaysInside (production_at rule.number) = subst (λ q. StaysInside q) (sym number) (stays p plain) in
      let from = at + length taken in
      let end = at + length (taken ++ spell_all parts) in
      let symbols = wide_sound.symbols k tree.0.byte rule lt tree.0.is_byte tree.0.found in
      let forest = forest_good parts all (Whole rule taken at around state) (symbols_of rule) [] from begun inner inside_ (rule_apart p rule is) symbols tree.1 (omega (arith, le))
      (λ has. omega (arith, le, takes_byte p rule k taken is tree.0 has)) pre (read_none (Within w.own (production_at rule.number) around) (production_at rule.number) w.own) (old_later w.own around at from begun.candidates (omega arith) (subst (λ cs. AllOld w.own around at cs) (sym begins) old)) e in
      let grown1 = grows_then w.own around end end state begun inner.state (omega arith) (grows_same w.own around end state begun begins)
      (grows_on w.own around (from + length (spell_all parts)) end begun inner.state (omega (arith, length-append taken (spell_all parts))) forest.grows) in
      let comes = keeps.comes (production_at rule.number) (byte_of taken) around at state inner.value inner.state one end (old_grows w.own around at end state inner.state (omega arith) old grown1) pre forest.good
      (needs_no_name (production_at rule.number) inner.value inside_) f in
      record {
        value = one.value;
        is = refl;
        good = good_where (YieldsOf w.own (production_at rule.number) around) (UnlessDeclared w.own (OfKind k) around) (held one.value)
            (λ y. (y.0, λ own. kind_plain k rule taken lt tree.0 (y.1 own))) comes.good;
        grows = grows_then w.own around end end state inner.state one.state (omega arith) grown1 comes.grows;
      }

  pub encoded_comes : (k : ℕ) (rule : Rule) (taken : List ℕ) (parts : Forest) → AllTreesGood w parts → (p : Production) → rule ≡ rule_of p → opens p ≡ true → (around : Around) (at : ℕ) (state begun : State)
      (inner : Found (List Value) State) (one : Found Value State) → k < wide.kinds → IsTree wide (OfKind k) (branch rule taken parts) → around.encoding < at →
      AllOld w.own around at state.candidates → begun.candidates ≡ state.candidates → unfold_forest (reading_by w) (Whole rule taken at around state) [] (at + length taken) parts begun ≡ Ok inner →
      w.close (production_at rule.number) (byte_of taken) around at state inner.value inner.state ≡ Ok one → TreeComes w.own around (at + length (taken ++ spell_all parts)) state (found (one.value ∷ []) one.state)
  encoded_comes k rule taken parts all p is opening around at state begun inner one lt tree less old begins e f =
      let number : production_at rule.number ≡ p = ap (λ x. production_at x.number) is ∙ at_number p in
      let from = at + length taken in
      let end = at + length (taken ++ spell_all parts) in
      let full = filled (taken ++ spell_all parts) (wide_sound.filled k rule taken parts lt tree) in
      let trees = subst (λ xs. AreTrees wide xs parts) (ap symbols_of is ∙ its_symbols p) tree.1 in
      let comes = inner_comes p opening parts all (Whole rule taken at around state) from begun inner number trees less (omega arith)
      (omega (arith, full, length-append taken (spell_all parts))) (subst (λ cs. AllOld w.own around at cs) (sym begins) old) e in
      let means = comes.means (byte_of taken) state one (sym (ap (λ q. w.close q (byte_of taken) around at state inner.value inner.state) number) ∙ f) in
      let grown1 = grows_then w.own around end end state begun inner.state (omega arith) (grows_same w.own around end state begun begins)
      (grows_on w.own around (from + length (spell_all parts)) end begun inner.state (omega (arith, length-append taken (spell_all parts))) comes.grows) in
      record {
        value = one.value;
        is = refl;
        good = means.0;
        grows = grows_then w.own around end end state inner.state one.state (omega arith) grown1 (grows_same w.own around end inner.state one.state (ap (λ x. x.candidates) means.1));
      }

  pub branch_good : (rule : Rule) (taken : List ℕ) (parts : Forest) → AllTreesGood w parts → TreeGood w (branch rule taken parts)
  unfolding reading_by is_encoding
  branch_good rule taken parts all (OfKind k) around at state r lt is le inside pre old e =
      let whole = Whole rule taken at around state in
      let t = taken_rule k rule taken lt is.0 in
      let from = at + length taken in
      let begun = behind_bind (w.opening (production_at rule.number) around parts at state)
      (λ begun. unfold_forest (reading_by w) whole [] from parts begun >>= λ inner. w.close (production_at rule.number) (byte_of taken) around at state inner.value inner.state >>= alone) r e in
      let kept = keeps.begins (production_at rule.number) around parts at state begun.value begun.is in
      let inner = behind_bind (unfold_forest (reading_by w) whole [] from parts begun.value) (λ inner. w.close (production_at rule.number) (byte_of taken) around at state inner.value inner.state >>= alone) r begun.next in
      let ended = behind_bind (w.close (production_at rule.number) (byte_of taken) around at state inner.value.value inner.value.state) alone r inner.next in
      let one = ended.value in
      let same : found (one.value ∷ []) one.state ≡ r = ok_same (found (one.value ∷ []) one.state) r ended.next in
      let end = at + length (taken ++ spell_all parts) in
      subst (λ x. TreeYields w.own (OfKind k) around end state x) same (elim (cases_Bool (opens t.production)) [
        | inl opening ↦ tree_yields w.own (OfKind k) around end state (found (one.value ∷ []) one.state) (encoded_comes k rule taken parts all t.production t.is opening around at state begun.value inner.value one lt is (inside (t.encoding opening)) old kept inner.is ended.is)
        | inr plain ↦ plain_comes k rule taken parts all t.production t.is plain around at state begun.value inner.value one lt is le pre old kept inner.is ended.is
      ])
  branch_good rule taken parts all _ around at state r lt is le inside pre old e = absurd is

  mutual
    unfolding reading_by

    pub tree_good_by : (t : Tree) → TreeGood w t
    tree_good_by (branch rule taken parts) = branch_good rule taken parts (trees_good_by parts)
    tree_good_by empty = λ x around at state r lt is le inside pre old e. tree_yields w.own x around (at + length (spell empty)) state r (leaf_comes w.own around (at + length (spell empty)) state nothing_there r (nothing_good w.own around) e)
    tree_good_by (token t) = λ x around at state r lt is le inside pre old e. tree_yields w.own x around (at + length (spell (token t))) state r (leaf_comes w.own around (at + length (spell (token t))) state (text t.own) r (text_good w.own around t.own) e)
    tree_good_by (fixed byte) = λ x around at state r lt is le inside pre old e. tree_yields w.own x around (at + length (spell (fixed byte))) state r (leaf_comes w.own around (at + length (spell (fixed byte))) state nothing_there r (nothing_good w.own around) e)

    pub trees_good_by : (f : Forest) → AllTreesGood w f
    trees_good_by nothing = tt
    trees_good_by (grown t f) = (tree_good_by t, trees_good_by f)

  -- In the tree that a symbol denotes, the arguments that are a scope have no free parameters.
  pub scopes_are_closed_by : (shape : Tree) (t : Term) → IsTree wide (OfKind SYMBOL) shape → (unfold_tree (reading_by w) first_around 0 shape first_state >>= λ whole. Ok (first_tree whole.value)) ≡ Ok t → ScopesAreClosed t
  unfolding first_around first_state first_tree is_encoding declares is_declaration is_first
  scopes_are_closed_by shape t is e =
      let whole = behind_bind (unfold_tree (reading_by w) first_around 0 shape first_state) (λ whole. Ok (first_tree whole.value)) t e in
      let comes = tree_comes w.own (OfKind SYMBOL) first_around (0 + length (spell shape)) first_state whole.value (λ own. refl)
      (tree_good_by shape (OfKind SYMBOL) first_around 0 first_state whole.value (known 0 (lit≤ tt)) is (omega arith) (λ opening. absurd (false≢true opening)) tt tt whole.is) in
      let same : first_tree whole.value.value ≡ t = ok_same (first_tree whole.value.value) t whole.next in
      subst (λ x. ScopesAreClosed x) same (first_good comes.value whole.value.value comes.is ((good_tree (Bare w.own first_around) comes.value comes.good).scopes tt))

-- ## Each reading

pub abi_keeps : KeepsClosed abi_way
unfolding abi_way
abi_keeps = record {
  plain = abi_plain;
  begins = begins_same;
  goes = λ p around place vs state n at stays pre old all e. abi_moves p around place vs state n at stays pre all e;
  comes = λ p byte around place began vs state r end old pre all name e.
      yields false p around end state r (close_good p byte around place began vs state r end old pre (subst (λ us. AllGood (Within false p around) us) (read_abi p vs) all) name e);
}

pub tree_good : (t : Tree) (x : Sym) (around : Around) (at : ℕ) (state : State) (r : Found (List Value) State) → IsSymbol wide x → IsTree wide x t → around.encoding ≤ at →
    (is_encoding x ≡ true → around.encoding < at) → GoodPrefix (Bare false around) around.prefix → AllOld false around at state.candidates → unfold_tree cpp around at t state ≡ Ok r →
    TreeComes false around (at + length (spell t)) state r
unfolding cpp reading_by abi_way
tree_good t x around at state r known is le inside pre old e =
    tree_comes false x around (at + length (spell t)) state r (λ own. absurd (false≢true own)) (tree_good_by abi_way abi_keeps t x around at state r known is le inside pre old e)

-- In the tree that a symbol denotes, the arguments that are a scope have no free parameters.
pub scopes_are_closed : (shape : Tree) (t : Term) → IsTree wide (OfKind SYMBOL) shape → unfold_cpp shape ≡ Ok t → ScopesAreClosed t
unfolding unfold_cpp cpp reading_by abi_way
scopes_are_closed shape t is e = scopes_are_closed_by abi_way abi_keeps shape t is e

pub wide_keeps : KeepsClosed wide_way
unfolding wide_way
wide_keeps = record { plain = wide_plain; begins = wide_begins_same; goes = wide_moves; comes = wide_close_good }

pub wide_scopes_are_closed : (shape : Tree) (t : Term) → IsTree wide (OfKind SYMBOL) shape → unfold_wide shape ≡ Ok t → ScopesAreClosed t
unfolding unfold_wide cpp_wide reading_by wide_way
wide_scopes_are_closed shape t is e = scopes_are_closed_by wide_way wide_keeps shape t is e
