-- Unfolding with arguments gives the result of unfolding without them, annotated.
use Rattle.cpp_term.proofs.Basics.{◌≡◌, refl, ap, sym, ◌∙◌, subst, nat_eq, ℕ, suc, ◌+◌, ◌<◌, ◌≤◌, List, [], ◌∷◌, ◌++◌, length, Bool, true, false, not, ◌||◌, ◌&&◌, Option, None, Result, Ok, Err, inl, inr, arith, lit≤, true≢false, false≢true, cases_Bool, Refusal, Rule, Sym, Kind as OfKind, symbols_of, IsSymbol, Tree, Forest, branch, empty, token, fixed, nothing, grown, spell, TakesRule, IsTree, AreTrees, Found, Open, Next, ◌>>=◌, Production, Operation, SYMBOL, SPECIAL, SPECIAL_MARK, SPECIAL_AFTER_G, COMPLETE_NAME, ITEMS, parts_of, number_of_kind, wide, rule_of, wide_sound, Term, is_open, arguments_of, in_name, in_types, between, no_items, meaning, passed_over, name_if, cpp_wide, unfold_wide, Good, GoodPrefix, held, good_tree, Bare, Within, AllOld, AllNew, Grows, old_later, old_grows, StaysInside, chosen_rule, taken_passes, either, first_of_both, name_by, types_by, Way, reading_by, abi_way, wide_way, differs, is_declaration, is_first, declares, is_nothing, read_none, is_encoding, opens, at_number, its_symbols, stays, takes_byte, Whole, taken_rule, KeepsClosed, abi_keeps, wide_keeps, Detail, answer_within, noted_answer, Place, nowhere, around_place, place_in, annotate, noted_scope, noted_value, noted_values, noted_prefix, noted_around, noted_tree}
use Rattle.sym_link.specs.Unfold.{found, alone, unfold_tree, unfold_forest}
use Rattle.cpp_grammar.specs.Values.{shown, is_at_literal, Candidate, State, Around, Value, tree_of, part}
use Rattle.cpp_grammar.specs.Unfolding as unfolding_
use Rattle.cpp_grammar.specs.Unfolding.{last_token, number_tested, opening, production_at, byte_of, close, cpp}
use Rattle.cpp_grammar.proofs.ClosedTrees as trees_
use Rattle.cpp_term.proofs.PrintsNoted.{answer_noted}
use Rattle.cpp_term.specs.Term as term_
use Rattle.cpp_term.specs.Scope as scope_
use Rattle.cpp_term.specs.Values as value_
use Rattle.cpp_term.specs.Between as between_
use Rattle.cpp_term.specs.Rescoping as wide_
use Rattle.cpp_term.specs.Unfolding as unfolded_
use Rattle.cpp_term.specs.Meaning as noted_
use Rattle.cpp_term.proofs.EncodingsClosed.{one_production, insides}
use Rattle.cpp_term.proofs.Notes.{both, choose, or_left, or_right, closed_noted, open_noted, scope_noted}
use Rattle.cpp_term.proofs.MeaningNoted.{Shut, three, part_noted, tree_noted, qualifiers_noted, ref_noted, items_noted, encoding_noted}
use Rattle.cpp_term.proofs.StatesNoted.{Settled, own_place, all_append, Alike, alike_bind, Same, Moves, moves_none, moves_then, same_moves, AllNoted}
use Rattle.cpp_term.proofs.BetweenNoted.{is_declared, parts_place}
use Rattle.cpp_term.proofs.DeclaredNoted.{in_first, of_its_kind, rule_placed, place_at, yields_at, plain_place, parts_none, Yield}
use Rattle.cpp_term.proofs.Passing.{IsSeen}
use Rattle.cpp_term.proofs.NotedWays.{noted_name_by, noted_types_by, NotedWay, reading_noted_by, abi_noted, wide_noted, IsNotedBy, abi_is_noted, wide_is_noted}
use Rattle.cpp_term.proofs.KindsNoted.{is_special_kind, encodings_open}
use Rattle.cpp_term.proofs.ForestNoted.{is_special, has_special, Many, TreeNoted, AllTreesNoted, noted_open, Parts, forest_noted, cancel, value_closed}

-- only productions that begin encodings have a part that is a special name
plain_special : (p : Production) → opens p || not (has_special (parts_of p)) ≡ true
unfolding opens has_special is_special is_special_kind parts_of number_of_kind
plain_special Production.Mark = refl
plain_special (Production.Operation Operation.ExpressionC) = refl
plain_special _ = refl

no_special : (p : Production) → opens p ≡ false → has_special (parts_of p) ≡ false
no_special p h = go (opens p) (has_special (parts_of p)) h (plain_special p)
  where
    go : (a b : Bool) → a ≡ false → a || not b ≡ true → b ≡ false
    go false false h k = refl
    go false true h k = absurd (false≢true k)
    go true b h k = absurd (true≢false h)

-- a production that begins an encoding is no declaration
opens_plain : (p : Production) → opens p ≡ true → is_declared p ≡ false
unfolding opens is_declared
opens_plain Production.Mark h = absurd (false≢true h)
opens_plain _ h = cc

encoding_kind : (k : ℕ) (rule : Rule) (taken : List ℕ) (p : Production) → k < wide.kinds → TakesRule wide k rule taken → rule ≡ rule_of p → opens p ≡ true → is_declaration (OfKind k) ≡ false
encoding_kind k rule taken p lt takes is h = sym (of_its_kind k rule taken lt takes).declared ∙ ap is_declared (ap (λ x. production_at x.number) is ∙ at_number p) ∙ opens_plain p h

-- only productions that begin encodings are of the kind of encodings
plain_kind : (k : ℕ) (rule : Rule) (taken : List ℕ) (p : Production) → k < wide.kinds → TakesRule wide k rule taken → rule ≡ rule_of p → opens p ≡ false → is_encoding (OfKind k) ≡ false
unfolding is_encoding
plain_kind k rule taken p lt takes is plain =
    let c = chosen_rule k rule taken lt takes in
    go (nat_eq k 4) (opens c.production) (taken_passes (λ n q. not (nat_eq n 4) || opens q) encodings_open k rule c) (ap opens (one_production p c.production rule is c.is) ∙ plain)
  where
    go : (b o : Bool) → (not b || o) ≡ true → o ≡ false → b ≡ false
    go true o h plain_ = absurd (true≢false (sym h ∙ plain_))
    go false o h plain_ = refl

-- ## Encodings

-- earlier candidates stay annotated in the name of an encoding that begins here, and in its types
all_within : (own : Bool) (around inner : Around) (at : ℕ) (cs : List Candidate) (ds : List value_.Candidate) → inner.encoding ≡ at → around.encoding < at → AllOld own around at cs → AllNoted own around cs ds → AllNoted own inner cs ds
all_within own around inner at [] [] is lt old all = tt
all_within own around inner at (c ∷ cs) (d ∷ ds) is lt old all =
    let less : c.encoding < at = elim old.0.place [ inl same ↦ omega (arith, same, lt) | inr before ↦ before ] in (
      record { encoding = all.0.encoding; in_lambda = all.0.in_lambda; counted = all.0.counted; by = all.0.by; like = all.0.like; closed = all.0.closed; here = λ h f g. absurd (omega (arith, h, is, less)) },
      all_within own around inner at cs ds is lt old.1 all.1,
    )
all_within own around inner at [] (d ∷ ds) is lt old all = absurd all
all_within own around inner at (c ∷ cs) [] is lt old all = absurd all

-- the candidates that the name appended stay annotated in the types: they are closed, unless the name is in a signature
all_types : (own : Bool) (inner other : Around) (end : ℕ) (cs : List Candidate) (ds : List value_.Candidate) → inner.encoding ≡ other.encoding → inner.scope ≡ None → AllNew own inner end cs → AllNoted own inner cs ds → AllNoted own other cs ds
all_types own inner other end [] [] is none new all = tt
all_types own inner other end (c ∷ cs) (d ∷ ds) is none new all = (
  record {
    encoding = all.0.encoding;
    in_lambda = all.0.in_lambda;
    counted = all.0.counted;
    by = all.0.by;
    like = all.0.like;
    closed = all.0.closed;
    here = λ h f g. all.0.closed (closed_here g h) ∙ closed_noted nowhere (around_place own other) c.tree (closed_here g h);
  },
  all_types own inner other end cs ds is none new.1 all.1,
)
  where
    closed_here : (own ≡ true → c.in_lambda ≡ false) → c.encoding ≡ other.encoding → is_open c.tree ≡ false
    closed_here outside h = elim new.0.place [ inl here ↦ here.1 none outside | inr deep ↦ absurd (omega (arith, deep.0, h, is)) ]
all_types own inner other end [] (d ∷ ds) is none new all = absurd all
all_types own inner other end (c ∷ cs) [] is none new all = absurd all

all_out : (own : Bool) (around inner : Around) (at end : ℕ) (cs : List Candidate) (ds : List value_.Candidate) → inner.encoding ≡ at → around.encoding < at → AllNew own inner end cs → AllNoted own inner cs ds → AllNoted own around cs ds
all_out own around inner at end [] [] is lt new all = tt
all_out own around inner at end (c ∷ cs) (d ∷ ds) is lt new all =
    let more : around.encoding < c.encoding = elim new.0.place [ inl here ↦ omega (arith, here.0, is, lt) | inr deep ↦ omega (arith, deep.0, is, lt) ] in
    (record { encoding = all.0.encoding; in_lambda = all.0.in_lambda; counted = all.0.counted; by = all.0.by; like = all.0.like; closed = all.0.closed; here = λ h f g. absurd (omega (arith, h, more)) }, all_out own around inner at end cs ds is lt new.1 all.1)
all_out own around inner at end [] (d ∷ ds) is lt new all = absurd all
all_out own around inner at end (c ∷ cs) [] is lt new all = absurd all

moves_out : (own : Bool) (around inner : Around) (at end : ℕ) (x later : State) (y noted : value_.State) → inner.encoding ≡ at → around.encoding < at → Grows own inner end x later → Moves own inner x y later noted → Moves own around x y later noted
moves_out own around inner at end x later y noted is lt grows m = record {
  more = m.more;
  others = m.others;
  is = m.is;
  so = m.so;
  packs = m.packs;
  each = all_out own around inner at end m.more m.others is lt (subst (λ cs. AllNew own inner end cs) (cancel x.candidates grows.more m.more (sym grows.is ∙ m.is)) grows.each) m.each;
}

-- parameters name nothing in the name of an encoding; in the encoding's types, they name the arguments of this name
name_place : (own : Bool) (at : ℕ) → around_place own (in_name at) ≡ nowhere
unfolding in_name place_in
name_place true at = refl
name_place false at = refl

items_place : (own : Bool) (at : ℕ) (name : Term) → around_place own (in_types at name) ≡ place_in (arguments_of name) false
unfolding in_types
items_place true at name = refl
items_place false at name = refl

-- what an encoding denotes, with arguments and without
record Ends (own : Bool) (around : Around) (a : Found (List Value) State) (b : Found (List value_.Value) value_.State) (u : Found Value State) (v : Found value_.Value value_.State) : Type 0 where
  value : v.value ≡ noted_value (around_place own around) u.value
  state : u.state ≡ a.state
  noted : v.state ≡ b.state

-- what an encoding denotes, with arguments and without, by the values of its parts
record Inner (way : Way) (noted_way : NotedWay) (p : Production) (around : Around) (place : ℕ) (x : State) (y : value_.State) (a : Found (List Value) State) (b : Found (List value_.Value) value_.State) : Type 0 where
  ends : (byte : ℕ) (began : State) (first : value_.State) →
      Alike (Ends way.own around a b) (way.close p byte around place began a.value a.state) (noted_way.close p byte (noted_around way.own around) place first b.value b.state)
  moves : Moves way.own around x y a.state b.state

both_found : {A B : Type 0} (R : A → B → Type 0) (r : Result A Refusal) (q : Result B Refusal) (a : A) (b : B) → r ≡ Ok a → q ≡ Ok b → R a b → Alike R r q
both_found R r q a b e g h = subst (λ w. Alike R w q) (sym e) (subst (λ w. Alike R (Ok a) w) (sym g) h)

nameless_ : (at : ℕ) → List Value → State → Next Value State Around
nameless_ at vs state = record { context = in_name at; values = vs; state = state }

noted_nameless : (at : ℕ) → List value_.Value → value_.State → Next value_.Value value_.State value_.Around
noted_nameless at vs state = record { context = between_.in_name at; values = vs; state = state }

-- an encoding whose name has no free parameters
same_encoding : (u v : value_.Value) (t : term_.Term) → value_.tree_of u ≡ value_.tree_of v → value_.qualifiers_of u ≡ value_.qualifiers_of v → value_.ref_of u ≡ value_.ref_of v → noted_.encoding_of u t ≡ noted_.encoding_of v t
unfolding noted_.encoding_of
same_encoding u v (term_.list e rest) a b c =
    three (λ n q r. elim (scope_.has_return_type n) as (λ o. term_.Term) [ true ↦ term_.function n q r e (noted_.parameters rest) | false ↦ term_.function n q r term_.absent (noted_.parameters (term_.list e rest)) ]) a b c
same_encoding u v _ a b c = three term_.object a b c

encoding_made : (own : Bool) → (around : Around) (byte : ℕ) (s : Place) (v w : Value) → is_open (tree_of v) ≡ false →
    noted_.meaning Production.Encoding byte (noted_around own around) (noted_value s v ∷ noted_value (place_in (arguments_of (tree_of v)) false) w ∷ []) ≡ noted_value (around_place own around) (meaning Production.Encoding byte around (v ∷ w ∷ []))
unfolding meaning noted_.meaning part value_.part noted_value
encoding_made own around byte s v w closed =
    let r = place_in (arguments_of (tree_of v)) false in
    ap (λ t. value_.tree (noted_.encoding_of (noted_value s v) t) true) (items_noted r w)
    ∙ ap (λ t. value_.tree t true)
    (same_encoding (noted_value s v) (noted_value nowhere v) (annotate r (no_items w)) (tree_noted s v ∙ closed_noted s nowhere (tree_of v) closed ∙ sym (tree_noted nowhere v)) (qualifiers_noted s v ∙ sym (qualifiers_noted nowhere v))
    (ref_noted s v ∙ sym (ref_noted nowhere v)))
    ∙ ap (λ t. value_.tree t true) (encoding_noted (around_place own around) v (no_items w))

-- no parameter is free in the name of an encoding, so the name's arguments are those of the scope
arguments_noted : (t : Term) → is_open t ≡ false → between_.closed_arguments (annotate nowhere t) ≡ noted_scope (arguments_of t)
unfolding between_.closed_arguments
arguments_noted t closed = ap (λ b. elim b [ true ↦ None | false ↦ scope_.arguments_of (annotate nowhere t) ]) (open_noted nowhere t ∙ closed) ∙ scope_noted t

types_noted : (own : Bool) → (at : ℕ) (s : Place) (v : Value) → is_open (tree_of v) ≡ false → between_.in_types at (value_.tree_of (noted_value s v)) ≡ noted_around own (in_types at (tree_of v))
unfolding between_.in_types in_types noted_around noted_prefix
types_noted own at s v closed = ap (λ o. between_type at o) (ap between_.closed_arguments (tree_noted s v ∙ closed_noted s nowhere (tree_of v) closed) ∙ arguments_noted (tree_of v) closed)
  where
    between_type : ℕ → Option term_.Term → value_.Around
    between_type at o = record { scope = o; encoding = at; in_lambda = false; in_expansion = false; prefix = value_.outermost; showing = shown }

-- what surrounds the name and the types of an encoding
name_noted : (own passes : Bool) (at : ℕ) → noted_name_by passes at ≡ noted_around own (name_by passes at)
unfolding name_by noted_name_by passed_over wide_.passed_over in_name between_.in_name noted_around noted_scope noted_prefix
name_noted own true at = refl
name_noted own false at = refl

types_by_noted : (own passes : Bool) (at : ℕ) (s : Place) (v : Value) → ((passes && is_open (tree_of v)) ≡ false → is_open (tree_of v) ≡ false) →
    noted_types_by passes at (value_.tree_of (noted_value s v)) ≡ noted_around own (types_by passes at (tree_of v))
unfolding types_by noted_types_by passed_over wide_.passed_over noted_around noted_scope noted_prefix
types_by_noted own passes at s v closed =
    choose {A = Around} {B = value_.Around} (λ a b. b ≡ noted_around own a) (passes && is_open (tree_of v)) (passes && scope_.is_open (value_.tree_of (noted_value s v))) _ _ _ _
    (ap (λ o. passes && o) (ap scope_.is_open (tree_noted s v) ∙ open_noted s (tree_of v))) (λ is. refl) (λ is. types_noted own at s v (closed is))

name_settled : (passes : Bool) (at : ℕ) → Settled (name_by passes at)
unfolding name_by passed_over in_name
name_settled true at = λ l. refl
name_settled false at = λ l. refl

types_settled : (passes : Bool) (at : ℕ) (name : Term) → Settled (types_by passes at name)
unfolding types_by passed_over in_types
types_settled passes at name = either {A = Around} (λ a. Settled a) (passes && is_open name) _ _ (λ is l. refl) (λ is l. absurd (false≢true l))

name_seen : (passes : Bool) (at : ℕ) → IsSeen (name_by passes at)
unfolding name_by passed_over in_name is_at_literal
name_seen true at = refl
name_seen false at = refl

types_seen : (passes : Bool) (at : ℕ) (name : Term) → IsSeen (types_by passes at name)
unfolding types_by passed_over in_types is_at_literal
types_seen passes at name = either {A = Around} (λ a. IsSeen a) (passes && is_open name) _ _ (λ is. refl) (λ is. refl)

-- an encoding that is passed over is in a signature, and so is its name
passed_place : (own passes : Bool) (around : Around) (at : ℕ) → Settled around → (passes ≡ true → (own ≡ true) × (around.in_lambda ≡ true)) → passes ≡ true → around_place own (name_by passes at) ≡ around_place own around
unfolding name_by passed_over place_in
passed_place true true around at settled inside is = let l = (inside refl).1 in sym (own_place around (settled l) l)
passed_place false true around at settled inside is = absurd (false≢true (inside refl).0)
passed_place own false around at settled inside is = absurd (false≢true is)

types_by_place : (own passes : Bool) (at : ℕ) (name : Term) → (passes && is_open name) ≡ false → around_place own (types_by passes at name) ≡ place_in (arguments_of name) false
unfolding types_by
types_by_place own passes at name h =
    let there : Bool → Place = λ b. around_place own (elim b as (λ o. Around) [ true ↦ passed_over at | false ↦ in_types at name ]) in
    ap there h ∙ items_place own at name

one_value : (s : Place) (vs : List Value) (v : Value) → vs ≡ v ∷ [] → noted_values s vs ≡ noted_value s v ∷ []
unfolding noted_values
one_value s vs v is = ap (noted_values s) is

-- values of a name and of what follows it
pair_noted : (s r : Place) (vs : List Value) (us : List value_.Value) (ws : List Value) (zs : List value_.Value) (v w : Value) → vs ≡ v ∷ [] → ws ≡ w ∷ [] → us ≡ noted_values s vs → zs ≡ noted_values r ws →
    us ++ zs ≡ noted_value s v ∷ noted_value r w ∷ []
unfolding noted_values
pair_noted s r vs us ws zs v w e g i j = both (λ a b. a ++ b) (i ∙ ap (noted_values s) e) (j ∙ ap (noted_values r) g)

-- an encoding, or its name alone
encoding_value : (own passes : Bool) → (around : Around) (byte : ℕ) (s r : Place) (vs : List Value) (us : List value_.Value) (ws : List Value) (zs : List value_.Value) (v w : Value) → vs ≡ v ∷ [] → ws ≡ w ∷ [] →
    us ≡ noted_values s vs → zs ≡ noted_values r ws → (passes ≡ true → s ≡ around_place own around) → ((passes && is_open (tree_of v)) ≡ false → is_open (tree_of v) ≡ false) →
    ((passes && is_open (tree_of v)) ≡ false → r ≡ place_in (arguments_of (tree_of v)) false) →
    wide_.name_if (passes && scope_.is_open (value_.tree_of (value_.part (us ++ zs) 0))) (value_.part (us ++ zs) 0) (noted_.meaning Production.Encoding byte (noted_around own around) (us ++ zs))
    ≡ noted_value (around_place own around) (name_if (passes && is_open (tree_of (part (vs ++ ws) 0))) (part (vs ++ ws) 0) (meaning Production.Encoding byte around (vs ++ ws)))
unfolding name_if wide_.name_if part value_.part noted_value
encoding_value own passes around byte s r vs us ws zs v w e g i j same closed types =
    let p = around_place own around in
    let noted : List value_.Value → value_.Value =
    λ xs. wide_.name_if (passes && scope_.is_open (value_.tree_of (value_.part xs 0))) (value_.part xs 0) (noted_.meaning Production.Encoding byte (noted_around own around) xs) in
    let plain : List Value → value_.Value = λ xs. noted_value p (name_if (passes && is_open (tree_of (part xs 0))) (part xs 0) (meaning Production.Encoding byte around xs)) in
    ap noted (pair_noted s r vs us ws zs v w e g i j)
    ∙ choose {A = Value} {B = value_.Value} (λ a b. b ≡ noted_value p a) (passes && is_open (tree_of v)) (passes && scope_.is_open (value_.tree_of (noted_value s v))) _ _ _ _
    (ap (λ o. passes && o) (ap scope_.is_open (tree_noted s v) ∙ open_noted s (tree_of v)))
    (λ is. ap (λ t. value_.tree t true) (tree_noted s v) ∙ ap (λ o. value_.tree (annotate o (tree_of v)) true) (same (first_of_both passes (is_open (tree_of v)) is)))
    (λ is. ap (λ o. noted_.meaning Production.Encoding byte (noted_around own around) (noted_value s v ∷ noted_value o w ∷ [])) (types is) ∙ encoding_made own around byte s v w (closed is))
    ∙ sym (ap plain (both (λ a b. a ++ b) e g))

other_special_means : (own : Bool) → (around : Around) (byte : ℕ) (vs : List Value) (us : List value_.Value) (ws : List Value) (zs : List value_.Value) (v w : Value) → vs ≡ v ∷ [] → ws ≡ w ∷ [] → is_open (held w) ≡ false →
    us ≡ noted_values nowhere vs → zs ≡ noted_values nowhere ws →
    noted_.meaning Production.OtherSpecial byte (noted_around own around) (us ++ zs) ≡ noted_value (around_place own around) (meaning Production.OtherSpecial byte around (vs ++ ws))
unfolding meaning noted_.meaning part value_.part
other_special_means own around byte vs us ws zs v w e g closed i j =
    ap (noted_.meaning Production.OtherSpecial byte (noted_around own around)) (pair_noted nowhere nowhere vs us ws zs v w e g i j)
    ∙ value_closed nowhere (around_place own around) w closed
    ∙ sym (ap (λ xs. noted_value (around_place own around) (meaning Production.OtherSpecial byte around xs)) (both (λ a b. a ++ b) e g))

inner_closes : (p : Production) → opens p ≡ true → (byte : ℕ) (around : Around) (place : ℕ) (began : State) (vs : List Value) (x : State) → close p byte around place began vs x ≡ Ok (found (meaning p byte around vs) x)
unfolding opens close unfolding_.behind
inner_closes Production.Encoding o byte around place began vs x = refl
inner_closes Production.Special o byte around place began vs x = refl
inner_closes Production.OtherSpecial o byte around place began vs x = refl
inner_closes Production.Mark o byte around place began vs x = absurd (false≢true o)
inner_closes _ o byte around place began vs x = absurd (false≢true o)

noted_closes : (p : Production) → opens p ≡ true → (byte : ℕ) (around : value_.Around) (place : ℕ) (began : value_.State) (vs : List value_.Value) (x : value_.State) →
    unfolded_.close p byte around place began vs x ≡ Ok (found (noted_.meaning p byte around vs) x)
unfolding opens unfolded_.close unfolded_.behind
noted_closes Production.Encoding o byte around place began vs x = refl
noted_closes Production.Special o byte around place began vs x = refl
noted_closes Production.OtherSpecial o byte around place began vs x = refl
noted_closes Production.Mark o byte around place began vs x = absurd (false≢true o)
noted_closes _ o byte around place began vs x = absurd (false≢true o)

-- ## Either reading

module _ (way : Way) (keeps : KeepsClosed way) (noted_way : NotedWay) (ways : IsNotedBy way noted_way) where
  plain_noted : (k : ℕ) (rule : Rule) (taken : List ℕ) (parts : Forest) → AllTreesNoted way noted_way parts → (p : Production) → rule ≡ rule_of p → opens p ≡ false → (around : Around) (at : ℕ) (state : State) (other : value_.State) →
      k < wide.kinds → IsTree wide (OfKind k) (branch rule taken parts) → around.encoding ≤ at → (is_special_kind k ≡ true → Bare way.own around) →
      (way.own ≡ true → is_first (OfKind k) ≡ true → around.in_lambda ≡ true) → Settled around → IsSeen around → GoodPrefix (Bare way.own around) around.prefix → AllOld way.own around at state.candidates → Same way.own around state other →
      Alike (Many way.own (place_at way.own (OfKind k) around) around state other) (unfold_tree (reading_by way) around at (branch rule taken parts) state) (unfold_tree (reading_noted_by noted_way) (noted_around way.own around) at (branch rule taken parts) other)
  unfolding reading_by reading_noted_by noted_values is_nothing
  plain_noted k rule taken parts all p is plain around at state other lt tree le special first settled seen pre old same =
      let whole = Whole rule taken at around state in
      let noted = noted_open way.own whole other in
      let from = at + length taken in
      let s = parts_place way.own (production_at rule.number) around in
      let kinds = of_its_kind k rule taken lt tree.0 in
      let result = place_at way.own (OfKind k) around in
      let inner : way.own ≡ true → in_first (production_at rule.number) ≡ true → around.in_lambda ≡ true = λ own is_in. first own (kinds.first is_in) in
      let number : production_at rule.number ≡ p = ap (λ x. production_at x.number) is ∙ at_number p in
      let inside_ : StaysInside (production_at rule.number) = subst (λ q. StaysInside q) (sym number) (stays p plain) in
      let symbols = wide_sound.symbols k tree.0.byte rule lt tree.0.is_byte tree.0.found in
      let none : has_special (symbols_of rule) ≡ false = ap has_special (ap symbols_of is ∙ its_symbols p) ∙ no_special p plain in
      alike_bind (Moves way.own around state other) (Many way.own result around state other) (way.opening (production_at rule.number) around parts at state) (noted_way.opening (production_at rule.number) (noted_around way.own around) parts at other)
      (λ begun. unfold_forest (reading_by way) whole [] from parts begun >>= λ inner. way.close (production_at rule.number) (byte_of taken) around at state inner.value inner.state >>= alone)
      (λ begun. unfold_forest (reading_noted_by noted_way) noted [] from parts begun >>= λ inner. noted_way.close (production_at rule.number) (byte_of taken) (noted_around way.own around) at other inner.value inner.state >>= alone)
      (ways.begins (production_at rule.number) parts at around state other same)
      (λ x y x-is begun.
      let old1 = subst (λ cs. AllOld way.own around at cs) (sym (keeps.begins (production_at rule.number) around parts at state x x-is)) old in
      let same1 = same_moves way.own around state x other y same begun in
      alike_bind (Parts way.own (production_at rule.number) around x y) (Many way.own result around state other) (unfold_forest (reading_by way) whole [] from parts x) (unfold_forest (reading_noted_by noted_way) noted [] from parts y)
      (λ inner. way.close (production_at rule.number) (byte_of taken) around at state inner.value inner.state >>= alone)
      (λ inner. noted_way.close (production_at rule.number) (byte_of taken) (noted_around way.own around) at other inner.value inner.state >>= alone)
      (subst (λ us. Alike (Parts way.own (production_at rule.number) around x y) (unfold_forest (reading_by way) whole [] from parts x) (unfold_forest (reading_noted_by noted_way) noted us from parts y)) (parts_none (production_at rule.number) way.own s)
      (forest_noted way keeps noted_way ways parts all whole other (symbols_of rule) [] from x y inside_ (trees_.rule_apart p rule is) (rule_placed p rule is) inner symbols tree.1 (omega (arith, le))
      (λ has. omega (arith, le, takes_byte p rule k taken is tree.0 has)) none settled seen pre (read_none (Within way.own (production_at rule.number) around) (production_at rule.number) way.own)
      (old_later way.own around at from x.candidates (omega arith) old1) same1))
      (λ a b a-is many.
      let h = insides way keeps ways.sees p rule taken parts k around at state x a is plain lt tree le special seen pre old1 a-is in
      alike_bind (Yield way.own (production_at rule.number) around a.state b.state) (Many way.own result around state other) (way.close (production_at rule.number) (byte_of taken) around at state a.value a.state)
      (noted_way.close (production_at rule.number) (byte_of taken) (noted_around way.own around) at other b.value b.state) alone alone
      (subst (λ us. Alike (Yield way.own (production_at rule.number) around a.state b.state) (way.close (production_at rule.number) (byte_of taken) around at state a.value a.state)
      (noted_way.close (production_at rule.number) (byte_of taken) (noted_around way.own around) at other us b.state)) (sym many.values)
      (ways.comes (production_at rule.number) (byte_of taken) around at state other a.value a.state b.state (subst (λ q. Shut way.own q around a.value) (sym number) h) settled inner (same_moves way.own around x a.state y b.state same1 many.moves) same.packs))
      (λ u v u-is comes. record { values = ap (λ w. w ∷ []) (comes.value ∙ ap (λ o. noted_value o u.value) (yields_at way.own k (production_at rule.number) around kinds.declared)); moves = moves_then way.own around state x u.state other y v.state begun (moves_then way.own around x a.state u.state y b.state v.state many.moves comes.moves) })))

  -- the next part of a rule, where its inputs are known
  step : (Q : Found (List Value) State → Found (List value_.Value) value_.State → Type 0) (rule : Open State Around) (first : value_.State) (vs : List Value) (us : List value_.Value) (at : ℕ) (x : State) (y : value_.State)
      (t : Tree) (f : Forest) (n : Next Value State Around) (m : Next value_.Value value_.State value_.Around) →
      way.between (production_at rule.rule.number) rule.context rule.place vs x ≡ Ok n → noted_way.between (production_at rule.rule.number) (noted_around way.own rule.context) rule.place us y ≡ Ok m →
      Alike Q (unfold_tree (reading_by way) n.context at t n.state >>= λ part. unfold_forest (reading_by way) rule (n.values ++ part.value) (at + length (spell t)) f part.state)
      (unfold_tree (reading_noted_by noted_way) m.context at t m.state >>= λ part. unfold_forest (reading_noted_by noted_way) (noted_open way.own rule first) (m.values ++ part.value) (at + length (spell t)) f part.state) →
      Alike Q (unfold_forest (reading_by way) rule vs at (grown t f) x) (unfold_forest (reading_noted_by noted_way) (noted_open way.own rule first) us at (grown t f) y)
  unfolding reading_by reading_noted_by
  step Q rule first vs us at x y t f n m e g r =
      let onward : Next Value State Around → Result (Found (List Value) State) Refusal =
      λ next. unfold_tree (reading_by way) next.context at t next.state >>= λ part. unfold_forest (reading_by way) rule (next.values ++ part.value) (at + length (spell t)) f part.state in
      let other : Next value_.Value value_.State value_.Around → Result (Found (List value_.Value) value_.State) Refusal =
      λ next. unfold_tree (reading_noted_by noted_way) next.context at t next.state >>= λ part. unfold_forest (reading_noted_by noted_way) (noted_open way.own rule first) (next.values ++ part.value) (at + length (spell t)) f part.state in
      subst (λ u. Alike Q (u >>= onward) (noted_way.between (production_at rule.rule.number) (noted_around way.own rule.context) rule.place us y >>= other)) (sym e)
      (subst (λ w. Alike Q (onward n) (w >>= other)) (sym g) r)

  -- one part of an encoding, in which nothing is named
  named_part : (t : Tree) → TreeNoted way noted_way t → (x : Sym) (at from : ℕ) (state : State) (other : value_.State) → IsSymbol wide x → IsTree wide x t → is_encoding x ≡ false → declares x ≡ false → at ≤ from → AllOld way.own (in_name at) from state.candidates → Same way.own (in_name at) state other →
      Alike (Many way.own nowhere (in_name at) state other) (unfold_tree (reading_by way) (in_name at) from t state) (unfold_tree (reading_noted_by noted_way) (between_.in_name at) from t other)
  unfolding in_name between_.in_name noted_around noted_scope noted_prefix declares is_at_literal
  named_part t noted x at from state other known is plain named le old same =
      subst (λ s. Alike (Many way.own s (in_name at) state other) (unfold_tree (reading_by way) (in_name at) from t state) (unfold_tree (reading_noted_by noted_way) (between_.in_name at) from t other)) (plain_place way.own x (in_name at) (or_left (is_declaration x) (is_first x) named) ∙ name_place way.own at)
      (noted x (in_name at) from state other known is le (λ opening. absurd (true≢false (sym opening ∙ plain))) (λ special. (refl, λ o. refl))
      (λ own first. absurd (true≢false (sym first ∙ or_right (is_declaration x) (is_first x) named))) (λ l. absurd (false≢true l)) (λ other_. refl) tt old same)

  -- special names are read as in the ABI's reading
  plain_ends : (p : Production) → opens p ≡ true → differs p ≡ false → (around : Around) (place : ℕ) (a : Found (List Value) State) (b : Found (List value_.Value) value_.State) (byte : ℕ) (began : State) (first : value_.State) →
      noted_.meaning p byte (noted_around way.own around) b.value ≡ noted_value (around_place way.own around) (meaning p byte around a.value) →
      Alike (Ends way.own around a b) (way.close p byte around place began a.value a.state) (noted_way.close p byte (noted_around way.own around) place first b.value b.state)
  plain_ends p opening_ apart around place a b byte began first means =
      both_found (Ends way.own around a b) (way.close p byte around place began a.value a.state) (noted_way.close p byte (noted_around way.own around) place first b.value b.state) (found (meaning p byte around a.value) a.state)
      (found (noted_.meaning p byte (noted_around way.own around) b.value) b.state) (keeps.plain.close p apart byte around place began a.value a.state ∙ inner_closes p opening_ byte around place began a.value a.state)
      (ways.plain.close p apart byte (noted_around way.own around) place first b.value b.state ∙ noted_closes p opening_ byte (noted_around way.own around) place first b.value b.state)
      (record { value = means; state = refl; noted = refl })

  special_noted : (f : Forest) → AllTreesNoted way noted_way f → (rule : Open State Around) (first : value_.State) (from : ℕ) (x : State) (y : value_.State) → production_at rule.rule.number ≡ Production.Special → AreTrees wide (parts_of Production.Special) f →
      rule.context.encoding < rule.place → rule.place ≤ from → AllOld way.own rule.context rule.place x.candidates → Same way.own rule.context x y →
      Alike (Inner way noted_way Production.Special rule.context rule.place x y) (unfold_forest (reading_by way) rule [] from f x) (unfold_forest (reading_noted_by noted_way) (noted_open way.own rule first) [] from f y)
  unfolding differs parts_of number_of_kind between between_.between meaning noted_.meaning is_encoding declares is_declaration is_first nameless_ noted_nameless in_name noted_scope noted_values part opens
  special_noted nothing all rule first from x y is trees lt le old same = absurd trees
  special_noted (grown t (grown u f)) all rule first from x y is trees lt le old same = absurd trees.1
  special_noted (grown t nothing) all rule first from x y is trees lt le old same =
      let around = rule.context in
      let at = rule.place in
      let old0 = old_later way.own (in_name at) at from x.candidates le (trees_.old_inner way.own around at x.candidates lt old) in
      let same0 : Same way.own (in_name at) x y = record { packs = same.packs; all = all_within way.own around (in_name at) at x.candidates y.candidates refl lt old same.all } in
      step (Inner way noted_way Production.Special around at x y) rule first [] [] from x y t nothing (nameless_ at [] x) (noted_nameless at [] y) (ap (λ p. way.between p around at [] x) is ∙ keeps.plain.between Production.Special refl around at [] x) (ap (λ p. noted_way.between p (noted_around way.own around) at [] y) is ∙ ways.plain.between Production.Special refl (noted_around way.own around) at [] y)
      (alike_bind (Many way.own nowhere (in_name at) x y) (Inner way noted_way Production.Special around at x y) (unfold_tree (reading_by way) (in_name at) from t x) (unfold_tree (reading_noted_by noted_way) (between_.in_name at) from t y)
      (λ part. unfold_forest (reading_by way) rule ([] ++ part.value) (from + length (spell t)) nothing part.state) (λ part. unfold_forest (reading_noted_by noted_way) (noted_open way.own rule first) ([] ++ part.value) (from + length (spell t)) nothing part.state)
      (named_part t all.0 (OfKind SPECIAL) at from x y (trees_.known 5 (lit≤ tt)) trees.0 refl refl le old0 same0)
      (λ a b a-is many.
      let c = trees_.name_comes way keeps t (trees_.tree_good_by way keeps t) (OfKind SPECIAL) at from x a (trees_.known 5 (lit≤ tt)) trees.0 refl refl le old0 a-is in
      record {
        ends = λ byte began first_. plain_ends Production.Special refl refl around at a b byte began first_
            (ap (λ us. value_.part us 0) many.values ∙ part_noted nowhere a.value 0 ∙ value_closed nowhere (around_place way.own around) (part a.value 0) (subst (λ vs. is_open (held (part vs 0)) ≡ false) (sym c.is) (c.good.closed (refl, λ o. refl))));
        moves = moves_out way.own around (in_name at) at (from + length (spell t)) x a.state y b.state refl lt c.grows many.moves;
      }))

  -- a production that begins an encoding, and has two parts in which nothing is named
  two_noted : (p : Production) → opens p ≡ true → differs p ≡ false → (k l : Sym) → IsSymbol wide k → IsSymbol wide l → is_encoding k ≡ false → is_encoding l ≡ false → declares k ≡ false → declares l ≡ false →
      ((around : Around) (at : ℕ) (vs : List Value) (state : State) → way.between p around at vs state ≡ Ok (nameless_ at vs state)) →
      ((around : value_.Around) (at : ℕ) (vs : List value_.Value) (state : value_.State) → noted_way.between p around at vs state ≡ Ok (noted_nameless at vs state)) →
      ((at : ℕ) (around : Around) (byte : ℕ) (vs : List Value) (us : List value_.Value) (ws : List Value) (zs : List value_.Value) (v w : Value) → vs ≡ v ∷ [] → ws ≡ w ∷ [] → Good (Bare way.own (in_name at)) (held w) →
      us ≡ noted_values nowhere vs → zs ≡ noted_values nowhere ws →
      noted_.meaning p byte (noted_around way.own around) (us ++ zs) ≡ noted_value (around_place way.own around) (meaning p byte around (vs ++ ws))) →
      (f : Forest) → AllTreesNoted way noted_way f → (rule : Open State Around) (first : value_.State) (from : ℕ) (x : State) (y : value_.State) → production_at rule.rule.number ≡ p → AreTrees wide (k ∷ l ∷ []) f →
      rule.context.encoding < rule.place → rule.place ≤ from → AllOld way.own rule.context rule.place x.candidates → Same way.own rule.context x y →
      Alike (Inner way noted_way p rule.context rule.place x y) (unfold_forest (reading_by way) rule [] from f x) (unfold_forest (reading_noted_by noted_way) (noted_open way.own rule first) [] from f y)
  unfolding nameless_ noted_nameless in_name noted_scope noted_values
  two_noted p opening_ apart k l known_k known_l apart_k apart_l plain_k plain_l goes goes_noted means nothing all rule first from x y is trees lt le old same = absurd trees
  two_noted p opening_ apart k l known_k known_l apart_k apart_l plain_k plain_l goes goes_noted means (grown t nothing) all rule first from x y is trees lt le old same = absurd trees.1
  two_noted p opening_ apart k l known_k known_l apart_k apart_l plain_k plain_l goes goes_noted means (grown t (grown u (grown v f))) all rule first from x y is trees lt le old same = absurd trees.1.1
  two_noted p opening_ apart k l known_k known_l apart_k apart_l plain_k plain_l goes goes_noted means (grown t (grown u nothing)) all rule first from x y is trees lt le old same =
      let around = rule.context in
      let at = rule.place in
      let next = from + length (spell t) in
      let old0 = old_later way.own (in_name at) at from x.candidates le (trees_.old_inner way.own around at x.candidates lt old) in
      let same0 : Same way.own (in_name at) x y = record { packs = same.packs; all = all_within way.own around (in_name at) at x.candidates y.candidates refl lt old same.all } in
      step (Inner way noted_way p around at x y) rule first [] [] from x y t (grown u nothing) (nameless_ at [] x) (noted_nameless at [] y) (ap (λ p. way.between p around at [] x) is ∙ goes around at [] x) (ap (λ p. noted_way.between p (noted_around way.own around) at [] y) is ∙ goes_noted (noted_around way.own around) at [] y)
      (alike_bind (Many way.own nowhere (in_name at) x y) (Inner way noted_way p around at x y) (unfold_tree (reading_by way) (in_name at) from t x) (unfold_tree (reading_noted_by noted_way) (between_.in_name at) from t y)
      (λ part. unfold_forest (reading_by way) rule ([] ++ part.value) next (grown u nothing) part.state) (λ part. unfold_forest (reading_noted_by noted_way) (noted_open way.own rule first) ([] ++ part.value) next (grown u nothing) part.state)
      (named_part t all.0 k at from x y known_k trees.0 apart_k plain_k le old0 same0)
      (λ a b a-is many.
      let c = trees_.name_comes way keeps t (trees_.tree_good_by way keeps t) k at from x a known_k trees.0 apart_k plain_k le old0 a-is in
      let old1 = old_grows way.own (in_name at) from next x a.state (omega arith) old0 c.grows in
      let same1 = same_moves way.own (in_name at) x a.state y b.state same0 many.moves in
      step (Inner way noted_way p around at x y) rule first a.value b.value next a.state b.state u nothing (nameless_ at a.value a.state) (noted_nameless at b.value b.state)
      (ap (λ p. way.between p around at a.value a.state) is ∙ goes around at a.value a.state)
      (ap (λ p. noted_way.between p (noted_around way.own around) at b.value b.state) is ∙ goes_noted (noted_around way.own around) at b.value b.state)
      (alike_bind (Many way.own nowhere (in_name at) a.state b.state) (Inner way noted_way p around at x y) (unfold_tree (reading_by way) (in_name at) next u a.state) (unfold_tree (reading_noted_by noted_way) (between_.in_name at) next u b.state)
      (λ part. unfold_forest (reading_by way) rule (a.value ++ part.value) (next + length (spell u)) nothing part.state) (λ part. unfold_forest (reading_noted_by noted_way) (noted_open way.own rule first) (b.value ++ part.value) (next + length (spell u)) nothing part.state)
      (named_part u all.1.0 l at next a.state b.state known_l trees.1.0 apart_l plain_l (omega (arith, le)) old1 same1)
      (λ d e d-is more.
      let g = trees_.name_comes way keeps u (trees_.tree_good_by way keeps u) l at next a.state d known_l trees.1.0 apart_l plain_l (omega (arith, le)) old1 d-is in
      record {
        ends = λ byte began first_. plain_ends p opening_ apart around at (found (a.value ++ d.value) d.state) (found (b.value ++ e.value) e.state) byte began first_
            (means at around byte a.value b.value d.value e.value c.value g.value c.is g.is g.good many.values more.values);
        moves = moves_then way.own around x a.state d.state y b.state e.state (moves_out way.own around (in_name at) at next x a.state y b.state refl lt c.grows many.moves)
            (moves_out way.own around (in_name at) at (next + length (spell u)) a.state d.state b.state e.state refl lt g.grows more.moves);
      }))))

  other_special_noted : (f : Forest) → AllTreesNoted way noted_way f → (rule : Open State Around) (first : value_.State) (from : ℕ) (x : State) (y : value_.State) → production_at rule.rule.number ≡ Production.OtherSpecial → AreTrees wide (parts_of Production.OtherSpecial) f →
      rule.context.encoding < rule.place → rule.place ≤ from → AllOld way.own rule.context rule.place x.candidates → Same way.own rule.context x y →
      Alike (Inner way noted_way Production.OtherSpecial rule.context rule.place x y) (unfold_forest (reading_by way) rule [] from f x) (unfold_forest (reading_noted_by noted_way) (noted_open way.own rule first) [] from f y)
  unfolding differs parts_of number_of_kind between between_.between is_encoding declares is_declaration is_first nameless_ noted_nameless in_name opens
  other_special_noted = two_noted Production.OtherSpecial refl refl (OfKind SPECIAL_MARK) (OfKind SPECIAL_AFTER_G) (trees_.known SPECIAL_MARK (lit≤ tt)) (trees_.known SPECIAL_AFTER_G (lit≤ tt)) refl refl refl refl
      (keeps.plain.between Production.OtherSpecial refl) (ways.plain.between Production.OtherSpecial refl) (λ at around byte vs us ws zs v w e g good. other_special_means way.own around byte vs us ws zs v w e g (good.closed (refl, λ o. refl)))

  encoding_noted_ : (f : Forest) → AllTreesNoted way noted_way f → (rule : Open State Around) (first : value_.State) (from : ℕ) (x : State) (y : value_.State) → production_at rule.rule.number ≡ Production.Encoding → AreTrees wide (parts_of Production.Encoding) f →
      rule.context.encoding < rule.place → rule.place ≤ from → AllOld way.own rule.context rule.place x.candidates → Same way.own rule.context x y → Settled rule.context →
      Alike (Inner way noted_way Production.Encoding rule.context rule.place x y) (unfold_forest (reading_by way) rule [] from f x) (unfold_forest (reading_noted_by noted_way) (noted_open way.own rule first) [] from f y)
  unfolding differs parts_of number_of_kind between between_.between is_encoding is_special is_special_kind declares is_declaration is_first place_at nameless_ noted_nameless in_name in_types noted_scope noted_values
  encoding_noted_ nothing all rule first from x y is trees lt le old same settled = absurd trees
  encoding_noted_ (grown t nothing) all rule first from x y is trees lt le old same settled = absurd trees.1
  encoding_noted_ (grown t (grown u (grown v f))) all rule first from x y is trees lt le old same settled = absurd trees.1.1
  encoding_noted_ (grown t (grown u nothing)) all rule first from x y is trees lt le old same settled =
      let around = rule.context in
      let at = rule.place in
      let other = noted_around way.own around in
      let next = from + length (spell t) in
      let passes = way.passes around in
      let inner = name_by passes at in
      let s = around_place way.own inner in
      let old0 = old_later way.own inner at from x.candidates le (trees_.old_within way.own around inner at x.candidates (trees_.name_at passes at) lt old) in
      let same0 : Same way.own inner x y = record { packs = same.packs; all = all_within way.own around inner at x.candidates y.candidates (trees_.name_at passes at) lt old same.all } in
      let n : Next Value State Around = record { context = inner; values = []; state = x } in
      let m : Next value_.Value value_.State value_.Around = record { context = noted_around way.own inner; values = []; state = y } in
      let named : value_.Around → Result (Next value_.Value value_.State value_.Around) Refusal = λ c. Ok (record { context = c; values = []; state = y }) in
      step (Inner way noted_way Production.Encoding around at x y) rule first [] [] from x y t (grown u nothing) n m (ap (λ p. way.between p around at [] x) is ∙ keeps.plain.name around at x)
      (ap (λ p. noted_way.between p other at [] y) is ∙ ways.plain.name other at y ∙ ap named (ap (λ b. noted_name_by b at) (ways.passes around) ∙ name_noted way.own passes at))
      (alike_bind (Many way.own s inner x y) (Inner way noted_way Production.Encoding around at x y) (unfold_tree (reading_by way) inner from t x) (unfold_tree (reading_noted_by noted_way) (noted_around way.own inner) from t y)
      (λ part. unfold_forest (reading_by way) rule ([] ++ part.value) next (grown u nothing) part.state) (λ part. unfold_forest (reading_noted_by noted_way) (noted_open way.own rule first) ([] ++ part.value) next (grown u nothing) part.state)
      (all.0 (OfKind COMPLETE_NAME) inner from x y (trees_.known 8 (lit≤ tt)) trees.0 (omega (arith, trees_.name_at passes at, le)) (λ opening. absurd (false≢true opening)) (λ special. absurd (false≢true special)) (λ own first. absurd (false≢true first)) (name_settled passes at)
      (λ plain. name_seen passes at) (trees_.name_first way.own passes at) old0 same0)
      (λ a b a-is many.
      let c = trees_.tree_comes way.own (OfKind COMPLETE_NAME) inner next x a (λ own. refl)
      (trees_.tree_good_by way keeps t (OfKind COMPLETE_NAME) inner from x a (trees_.known 8 (lit≤ tt)) trees.0 (omega (arith, trees_.name_at passes at, le)) (λ opening. absurd (false≢true opening)) (trees_.name_first way.own passes at) old0 a-is) in
      let name = tree_of c.value in
      let within_ = types_by passes at name in
      let there = trees_.types_at passes at name in
      let closed : (passes && is_open name) ≡ false → is_open name ≡ false = λ h. trees_.name_closed way.own passes at name h (good_tree (Bare way.own inner) c.value c.good) in
      let old2 = trees_.old_types_by way.own around inner within_ at from next x a.state (trees_.name_at passes at) there (trees_.name_bare passes at) lt (omega (arith, le)) old c.grows in
      let new : AllNew way.own inner next many.moves.more = subst (λ cs. AllNew way.own inner next cs) (cancel x.candidates c.grows.more many.moves.more (sym c.grows.is ∙ many.moves.is)) c.grows.each in
      let all2 : AllNoted way.own within_ (x.candidates ++ many.moves.more) (y.candidates ++ many.moves.others) =
      all_append way.own within_ x.candidates many.moves.more y.candidates many.moves.others (all_within way.own around within_ at x.candidates y.candidates there lt old same.all)
      (all_types way.own inner within_ next many.moves.more many.moves.others (trees_.name_at passes at ∙ sym there) (trees_.name_bare passes at) new many.moves.each) in
      let same2 : Same way.own within_ a.state b.state = record {
        packs = many.moves.packs;
        all = subst (λ cs. AllNoted way.own within_ cs b.state.candidates) (sym many.moves.is) (subst (λ ds. AllNoted way.own within_ (x.candidates ++ many.moves.more) ds) (sym many.moves.so) all2);
      } in
      let one : b.value ≡ noted_value s c.value ∷ [] = many.values ∙ one_value s a.value c.value c.is in
      let n2 : Next Value State Around = record { context = within_; values = a.value; state = a.state } in
      let m2 : Next value_.Value value_.State value_.Around = record { context = noted_around way.own within_; values = b.value; state = b.state } in
      let goes : List Value → Result (Next Value State Around) Refusal = λ vs. Ok (record { context = within_; values = vs; state = a.state }) in
      let surrounded : value_.Around → Result (Next value_.Value value_.State value_.Around) Refusal = λ k. Ok (record { context = k; values = noted_value s c.value ∷ []; state = b.state }) in
      let goes_too : List value_.Value → Result (Next value_.Value value_.State value_.Around) Refusal = λ us. Ok (record { context = noted_around way.own within_; values = us; state = b.state }) in
      step (Inner way noted_way Production.Encoding around at x y) rule first a.value b.value next a.state b.state u nothing n2 m2
      (ap (λ p. way.between p around at a.value a.state) is ∙ ap (λ vs. way.between Production.Encoding around at vs a.state) c.is ∙ keeps.plain.types around at c.value a.state ∙ sym (ap goes c.is))
      (ap (λ p. noted_way.between p other at b.value b.state) is ∙ ap (λ us. noted_way.between Production.Encoding other at us b.state) one ∙ ways.plain.types other at (noted_value s c.value) b.state
      ∙ ap surrounded (ap (λ q. noted_types_by q at (value_.tree_of (noted_value s c.value))) (ways.passes around) ∙ types_by_noted way.own passes at s c.value closed) ∙ sym (ap goes_too one))
      (alike_bind (Many way.own (around_place way.own within_) within_ a.state b.state) (Inner way noted_way Production.Encoding around at x y) (unfold_tree (reading_by way) within_ next u a.state)
      (unfold_tree (reading_noted_by noted_way) (noted_around way.own within_) next u b.state) (λ part. unfold_forest (reading_by way) rule (a.value ++ part.value) (next + length (spell u)) nothing part.state)
      (λ part. unfold_forest (reading_noted_by noted_way) (noted_open way.own rule first) (b.value ++ part.value) (next + length (spell u)) nothing part.state)
      (all.1.0 (OfKind ITEMS) within_ next a.state b.state (trees_.known ITEMS (lit≤ tt)) trees.1.0 (omega (arith, there, le)) (λ opening. absurd (false≢true opening)) (λ special. absurd (false≢true special)) (λ own first. absurd (false≢true first)) (types_settled passes at name)
      (λ plain. types_seen passes at name) (trees_.types_first way.own passes at name) old2 same2)
      (λ d e d-is more.
      let g = trees_.tree_comes way.own (OfKind ITEMS) within_ (next + length (spell u)) a.state d (λ own. refl)
      (trees_.tree_good_by way keeps u (OfKind ITEMS) within_ next a.state d (trees_.known ITEMS (lit≤ tt)) trees.1.0 (omega (arith, there, le)) (λ opening. absurd (false≢true opening)) (trees_.types_first way.own passes at name) old2 d-is) in
      let pass : passes ≡ true → s ≡ around_place way.own around = λ h. passed_place way.own passes around at settled (λ q. keeps.plain.passing around q) h in
      let said : Bool → ℕ → value_.Value =
      λ q byte. wide_.name_if (q && scope_.is_open (value_.tree_of (value_.part (b.value ++ e.value) 0))) (value_.part (b.value ++ e.value) 0) (noted_.meaning Production.Encoding byte other (b.value ++ e.value)) in
      record {
        ends = λ byte began first_. both_found (Ends way.own around (found (a.value ++ d.value) d.state) (found (b.value ++ e.value) e.state)) (way.close Production.Encoding byte around at began (a.value ++ d.value) d.state)
            (noted_way.close Production.Encoding byte other at first_ (b.value ++ e.value) e.state) _ _ (keeps.plain.encoding byte around at began (a.value ++ d.value) d.state) (ways.plain.encoding byte other at first_ (b.value ++ e.value) e.state)
            (record {
              value = ap (λ q. said q byte) (ways.passes around)
                  ∙ encoding_value way.own passes around byte s (around_place way.own within_) a.value b.value d.value e.value c.value g.value c.is g.is many.values more.values pass closed (λ h. types_by_place way.own passes at name h);
              state = refl;
              noted = refl;
            });
        moves = moves_then way.own around x a.state d.state y b.state e.state (moves_out way.own around inner at next x a.state y b.state (trees_.name_at passes at) lt c.grows many.moves)
            (moves_out way.own around within_ at (next + length (spell u)) a.state d.state b.state e.state there lt g.grows more.moves);
      }))))

  inner_noted : (p : Production) → opens p ≡ true → (f : Forest) → AllTreesNoted way noted_way f → (rule : Open State Around) (first : value_.State) (from : ℕ) (x : State) (y : value_.State) → production_at rule.rule.number ≡ p → AreTrees wide (parts_of p) f →
      rule.context.encoding < rule.place → rule.place ≤ from → AllOld way.own rule.context rule.place x.candidates → Same way.own rule.context x y → Settled rule.context →
      Alike (Inner way noted_way p rule.context rule.place x y) (unfold_forest (reading_by way) rule [] from f x) (unfold_forest (reading_noted_by noted_way) (noted_open way.own rule first) [] from f y)
  unfolding opens
  inner_noted Production.Encoding o = encoding_noted_
  inner_noted Production.Special o = λ f all rule first from x y is trees lt le old same settled. special_noted f all rule first from x y is trees lt le old same
  inner_noted Production.OtherSpecial o = λ f all rule first from x y is trees lt le old same settled. other_special_noted f all rule first from x y is trees lt le old same
  inner_noted Production.Mark o = absurd (false≢true o)
  inner_noted _ o = absurd (false≢true o)

  encoded_noted : (k : ℕ) (rule : Rule) (taken : List ℕ) (parts : Forest) → AllTreesNoted way noted_way parts → (p : Production) → rule ≡ rule_of p → opens p ≡ true → (around : Around) (at : ℕ) (state : State) (other : value_.State) →
      IsTree wide (OfKind k) (branch rule taken parts) → around.encoding < at → Settled around → AllOld way.own around at state.candidates → Same way.own around state other →
      Alike (Many way.own (around_place way.own around) around state other) (unfold_tree (reading_by way) around at (branch rule taken parts) state) (unfold_tree (reading_noted_by noted_way) (noted_around way.own around) at (branch rule taken parts) other)
  unfolding reading_by reading_noted_by noted_values
  encoded_noted k rule taken parts all p is opening_ around at state other tree less settled old same =
      let whole = Whole rule taken at around state in
      let noted = noted_open way.own whole other in
      let from = at + length taken in
      let byte = byte_of taken in
      let number : production_at rule.number ≡ p = ap (λ x. production_at x.number) is ∙ at_number p in
      let trees = subst (λ xs. AreTrees wide xs parts) (ap symbols_of is ∙ its_symbols p) tree.1 in
      alike_bind (Moves way.own around state other) (Many way.own (around_place way.own around) around state other) (way.opening (production_at rule.number) around parts at state) (noted_way.opening (production_at rule.number) (noted_around way.own around) parts at other)
      (λ begun. unfold_forest (reading_by way) whole [] from parts begun >>= λ inner. way.close (production_at rule.number) byte around at state inner.value inner.state >>= alone)
      (λ begun. unfold_forest (reading_noted_by noted_way) noted [] from parts begun >>= λ inner. noted_way.close (production_at rule.number) byte (noted_around way.own around) at other inner.value inner.state >>= alone)
      (ways.begins (production_at rule.number) parts at around state other same)
      (λ x y x-is begun.
      let old1 = subst (λ cs. AllOld way.own around at cs) (sym (keeps.begins (production_at rule.number) around parts at state x x-is)) old in
      let same1 = same_moves way.own around state x other y same begun in
      alike_bind (Inner way noted_way p around at x y) (Many way.own (around_place way.own around) around state other) (unfold_forest (reading_by way) whole [] from parts x) (unfold_forest (reading_noted_by noted_way) noted [] from parts y)
      (λ inner. way.close (production_at rule.number) byte around at state inner.value inner.state >>= alone)
      (λ inner. noted_way.close (production_at rule.number) byte (noted_around way.own around) at other inner.value inner.state >>= alone)
      (inner_noted p opening_ parts all whole other from x y number trees less (omega arith) old1 same1 settled)
      (λ a b a-is inner.
      alike_bind (Ends way.own around a b) (Many way.own (around_place way.own around) around state other) (way.close (production_at rule.number) byte around at state a.value a.state)
      (noted_way.close (production_at rule.number) byte (noted_around way.own around) at other b.value b.state) alone alone
      (subst (λ q. Alike (Ends way.own around a b) (way.close q byte around at state a.value a.state) (noted_way.close q byte (noted_around way.own around) at other b.value b.state)) (sym number) (inner.ends byte state other))
      (λ u v u-is ended.
      let moves1 : Moves way.own around x y u.state v.state = subst (λ z. Moves way.own around x y u.state z) (sym ended.noted) (subst (λ z. Moves way.own around x y z b.state) (sym ended.state) inner.moves) in
      record { values = ap (λ w. w ∷ []) ended.value; moves = moves_then way.own around state x u.state other y v.state begun moves1 })))

  branch_noted : (rule : Rule) (taken : List ℕ) (parts : Forest) → AllTreesNoted way noted_way parts → TreeNoted way noted_way (branch rule taken parts)
  unfolding is_encoding is_special
  branch_noted rule taken parts all (OfKind k) around at state other lt is le inside special first settled seen pre old same =
      let t = taken_rule k rule taken lt is.0 in
      elim (cases_Bool (opens t.production)) [
        | inl opening_ ↦ subst (λ o. Alike (Many way.own o around state other) (unfold_tree (reading_by way) around at (branch rule taken parts) state) (unfold_tree (reading_noted_by noted_way) (noted_around way.own around) at (branch rule taken parts) other))
            (sym (plain_place way.own (OfKind k) around (encoding_kind k rule taken t.production lt is.0 t.is opening_)))
            (encoded_noted k rule taken parts all t.production t.is opening_ around at state other is (inside (t.encoding opening_)) settled old same)
        | inr plain ↦ plain_noted k rule taken parts all t.production t.is plain around at state other lt is le special first settled (seen (plain_kind k rule taken t.production lt is.0 t.is plain)) pre old same
      ]
  branch_noted rule taken parts all _ around at state other lt is le inside special first settled seen pre old same = absurd is

  mutual
    unfolding reading_by reading_noted_by noted_values noted_value

    tree_noted_ : (t : Tree) → TreeNoted way noted_way t
    tree_noted_ (branch rule taken parts) = branch_noted rule taken parts (trees_noted parts)
    tree_noted_ empty = λ x around at state other lt is le inside special first settled seen pre old same. record { values = refl; moves = moves_none way.own around state state other other refl refl same.packs }
    tree_noted_ (token t) = λ x around at state other lt is le inside special first settled seen pre old same. record { values = refl; moves = moves_none way.own around state state other other refl refl same.packs }
    tree_noted_ (fixed byte) = λ x around at state other lt is le inside special first settled seen pre old same. record { values = refl; moves = moves_none way.own around state state other other refl refl same.packs }

    trees_noted : (f : Forest) → AllTreesNoted way noted_way f
    trees_noted nothing = tt
    trees_noted (grown t f) = (tree_noted_ t, trees_noted f)

-- ## Each reading

first_noted : (vs : List Value) → unfolded_.first_tree (noted_values nowhere vs) ≡ annotate nowhere (unfolding_.first_tree vs)
unfolding unfolded_.first_tree unfolding_.first_tree noted_values annotate
first_noted [] = refl
first_noted (v ∷ vs) = tree_noted nowhere v

result_noted : (own : Bool) → (x y : State) (z : value_.State) (r : Result (Found (List Value) State) Refusal) (q : Result (Found (List value_.Value) value_.State) Refusal) → Alike (Many own nowhere unfolding_.first_around x z) r q →
    (q >>= λ whole. Ok (unfolded_.first_tree whole.value)) ≡ noted_tree (r >>= λ whole. Ok (unfolding_.first_tree whole.value))
unfolding noted_tree unfolding_.first_around noted_scope
result_noted own x y z (Ok a) (Ok b) many = ap Ok (ap unfolded_.first_tree many.values ∙ first_noted a.value)
result_noted own x y z (Err e) (Err d) many = ap Err many
result_noted own x y z (Ok a) (Err d) many = absurd many
result_noted own x y z (Err e) (Ok b) many = absurd many

-- Unfolding with arguments gives the result of unfolding without them: the same refusal, or the same tree with its
-- arguments.
pub unfold_noted : (shape : Tree) → IsTree wide (OfKind SYMBOL) shape → unfolded_.unfold_cpp shape ≡ noted_tree (unfolding_.unfold_cpp shape)
unfolding cpp unfolded_.cpp reading_by reading_noted_by abi_way abi_noted unfolded_.unfold_cpp unfolding_.unfold_cpp unfolding_.first_around unfolding_.first_state unfolded_.first_around unfolded_.first_state is_encoding is_special is_special_kind is_declaration is_first is_at_literal place_at noted_around noted_scope noted_prefix place_in
unfold_noted shape is =
    result_noted false unfolding_.first_state unfolding_.first_state unfolded_.first_state (unfold_tree cpp unfolding_.first_around 0 shape unfolding_.first_state) (unfold_tree unfolded_.cpp unfolded_.first_around 0 shape unfolded_.first_state)
    (tree_noted_ abi_way abi_keeps abi_noted abi_is_noted shape (OfKind SYMBOL) unfolding_.first_around 0 unfolding_.first_state unfolded_.first_state (trees_.known 0 (lit≤ tt)) is (omega arith) (λ opening. absurd (false≢true opening)) (λ special. absurd (false≢true special)) (λ own first. absurd (false≢true first)) (λ l. absurd (false≢true l)) (λ plain. refl) tt tt
    (record { packs = (refl, refl); all = tt }))

-- The wide grammar, too, gives the same result with arguments as without them.
pub wide_unfold_noted : (shape : Tree) → IsTree wide (OfKind SYMBOL) shape → wide_.unfold_wide shape ≡ noted_tree (unfold_wide shape)
unfolding cpp_wide wide_.cpp_wide reading_by reading_noted_by wide_way wide_noted wide_.unfold_wide unfold_wide unfolding_.first_around unfolding_.first_state unfolded_.first_around unfolded_.first_state is_encoding is_special is_special_kind is_declaration is_first is_at_literal place_at noted_around noted_scope noted_prefix place_in
wide_unfold_noted shape is =
    result_noted true unfolding_.first_state unfolding_.first_state unfolded_.first_state (unfold_tree cpp_wide unfolding_.first_around 0 shape unfolding_.first_state) (unfold_tree wide_.cpp_wide unfolded_.first_around 0 shape unfolded_.first_state)
    (tree_noted_ wide_way wide_keeps wide_noted wide_is_noted shape (OfKind SYMBOL) unfolding_.first_around 0 unfolding_.first_state unfolded_.first_state (trees_.known 0 (lit≤ tt)) is (omega arith) (λ opening. absurd (false≢true opening)) (λ special. absurd (false≢true special)) (λ own first. absurd (false≢true first)) (λ l. absurd (false≢true l)) (λ plain. refl) tt tt
    (record { packs = (refl, refl); all = tt }))

-- The answer may be read from either tree.
pub same_answer : (d : Detail) (limit : ℕ) (shape : Tree) → IsTree wide (OfKind SYMBOL) shape → noted_answer d limit (unfolded_.unfold_cpp shape) ≡ answer_within d limit (unfolding_.unfold_cpp shape)
same_answer d limit shape is = ap (noted_answer d limit) (unfold_noted shape is) ∙ answer_noted d limit (unfolding_.unfold_cpp shape)

pub wide_same_answer : (d : Detail) (limit : ℕ) (shape : Tree) → IsTree wide (OfKind SYMBOL) shape → noted_answer d limit (wide_.unfold_wide shape) ≡ answer_within d limit (unfold_wide shape)
wide_same_answer d limit shape is = ap (noted_answer d limit) (wide_unfold_noted shape is) ∙ answer_noted d limit (unfold_wide shape)

-- ## Candidates

all_as_many : (own : Bool) → (around : Around) (cs : List Candidate) (ds : List value_.Candidate) → AllNoted own around cs ds → length ds ≡ length cs
all_as_many own around [] [] all = refl
all_as_many own around (c ∷ cs) (d ∷ ds) all = ap suc (all_as_many own around cs ds all.1)
all_as_many own around [] (d ∷ ds) all = absurd all
all_as_many own around (c ∷ cs) [] all = absurd all

-- a symbol's reading with arguments, for a reading without them: equally many trees become candidates
pub record ReadWithArguments (shape : Tree) (read : Found (List Value) State) : Type 0 where
  pub other : Found (List value_.Value) value_.State
  pub is : unfold_tree unfolded_.cpp unfolded_.first_around 0 shape unfolded_.first_state ≡ Ok other
  pub candidates : length other.state.candidates ≡ length read.state.candidates

pub read_with_arguments : (shape : Tree) (read : Found (List Value) State) → IsTree wide (OfKind SYMBOL) shape
    → unfold_tree cpp unfolding_.first_around 0 shape unfolding_.first_state ≡ Ok read → ReadWithArguments shape read
unfolding cpp unfolded_.cpp reading_by reading_noted_by abi_way abi_noted unfolding_.first_around unfolding_.first_state unfolded_.first_around unfolded_.first_state is_encoding is_special is_special_kind is_declaration is_first is_at_literal place_at noted_around noted_scope noted_prefix place_in
read_with_arguments shape read is e =
    go (unfold_tree unfolded_.cpp unfolded_.first_around 0 shape unfolded_.first_state) refl
    (subst (λ r. Alike (Many false nowhere unfolding_.first_around unfolding_.first_state unfolded_.first_state) r (unfold_tree unfolded_.cpp unfolded_.first_around 0 shape unfolded_.first_state)) e
    (tree_noted_ abi_way abi_keeps abi_noted abi_is_noted shape (OfKind SYMBOL) unfolding_.first_around 0 unfolding_.first_state unfolded_.first_state (trees_.known 0 (lit≤ tt)) is (omega arith) (λ opening. absurd (false≢true opening)) (λ special. absurd (false≢true special)) (λ own first. absurd (false≢true first)) (λ l. absurd (false≢true l)) (λ plain. refl) tt tt
    (record { packs = (refl, refl); all = tt })))
  where
    go : (q : Result (Found (List value_.Value) value_.State) Refusal) → unfold_tree unfolded_.cpp unfolded_.first_around 0 shape unfolded_.first_state ≡ q
        → Alike (Many false nowhere unfolding_.first_around unfolding_.first_state unfolded_.first_state) (Ok read) q → ReadWithArguments shape read
    go (Err d) same alike = absurd alike
    go (Ok other) same alike =
        let m = alike.moves in
        record { other = other; is = same; candidates = ap length m.so ∙ all_as_many false unfolding_.first_around m.more m.others m.each ∙ sym (ap length m.is) }
