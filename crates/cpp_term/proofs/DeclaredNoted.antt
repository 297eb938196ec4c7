-- Declarations name parameters that are declared with them. So they are annotated as in a signature, wherever they are read.
use Rattle.cpp_term.proofs.Basics.{◌≡◌, refl, ap, sym, ◌∙◌, subst, ℕ, List, [], ◌∷◌, ◌++◌, Bool, true, false, not, ◌||◌, ◌&&◌, ◌⊎◌, inl, inr, ◌<◌, None, Result, Ok, Err, true≢false, false≢true, Refusal, Rule, Sym, Kind as OfKind, Byte, symbols_of, Tree, branch, empty, token, fixed, TakesRule, IsTree, Found, Next, found, unfold_tree, Production, Operation, number_of_kind, parts_of, wide_alternatives, wide, rule_of, State, Around, Value, tree_of, part, in_signature, between, listed_value, meaning, close, production_at, between_wide, close_wide, each_passes, chosen_rule, taken_passes, implied, StaysInside, ok_same, is_encoding, at_number, its_symbols, is_declaration, is_first, skips, hides, is_nothing, some_values, same_skipped, none_hidden, first_of_both, second_of_both, all_pass, has_signature, Way, reading_by, Place, around_place, place_in, in_own, annotate, noted_value, noted_values, noted_around}
use Rattle.cpp_grammar.specs.declared.kind.Kind.{Kind}
use Rattle.cpp_grammar.specs.Values as leaf_
use Rattle.cpp_grammar.specs.Unfolding as unfolding_
use Rattle.cpp_term.specs.Values as value_
use Rattle.cpp_term.specs.Between as between_
use Rattle.cpp_term.specs.Meaning as noted_
use Rattle.cpp_term.specs.Unfolding as unfolded_
use Rattle.cpp_term.specs.Rescoping as wide_
use Rattle.cpp_term.proofs.Notes.{both}
use Rattle.cpp_term.proofs.MeaningNoted.{Inside, Shut, tree_part, meaning_noted}
use Rattle.cpp_term.proofs.StatesNoted.{Alongside, Settled, own_place, Alike, Same, Moves, moves_none, Comes}
use Rattle.cpp_term.proofs.Passing.{is_literal}
use Rattle.cpp_term.proofs.BetweenNoted.{InScope, is_quiet, is_declared, is_alone, MayGo, parts_place, Goes, between_noted, wide_between_noted, close_noted, wide_close_noted}

-- ## Kinds and productions

-- the productions with a part of the kind of a lambda's first type, except a lambda
unfoldable pub in_first : Production → Bool
in_first Production.DeclaredFirst = true
in_first Production.FirstWithT = true
in_first _ = false

unfoldable pub is_lambda : Production → Bool
is_lambda Production.Lambda = true
is_lambda _ = false

unfoldable pub is_byte : Sym → Bool
is_byte (Byte b) = true
is_byte _ = false

unfoldable pub same_bool : Bool → Bool → Bool
same_bool true b = b
same_bool false b = not b

same_bool_is : (a b : Bool) → same_bool a b ≡ true → a ≡ b
unfolding same_bool
same_bool_is true b e = sym e
same_bool_is false true e = absurd (false≢true e)
same_bool_is false false e = refl

-- the productions of a kind are all declarations, or none is
pub declared_kinds : (kind : Kind) → each_passes (λ p. same_bool (is_declared p) (is_declaration (OfKind (number_of_kind kind))) && (not (in_first p) || is_first (OfKind (number_of_kind kind)))) (wide_alternatives kind) ≡ true
unfolding same_bool is_declared is_declaration in_first is_first number_of_kind wide_alternatives each_passes
declared_kinds Kind.Symbol = refl
declared_kinds _ = refl

-- what is known of the production of a tree
pub record OfItsKind (k : ℕ) (p : Production) : Type 0 where
  pub declared : is_declared p ≡ is_declaration (OfKind k)
  pub first : in_first p ≡ true → is_first (OfKind k) ≡ true

pub of_its_kind : (k : ℕ) (rule : Rule) (taken : List ℕ) → k < wide.kinds → TakesRule wide k rule taken → OfItsKind k (production_at rule.number)
of_its_kind k rule taken lt takes =
    let c = chosen_rule k rule taken lt takes in
    let passes = taken_passes (λ n p. same_bool (is_declared p) (is_declaration (OfKind n)) && (not (in_first p) || is_first (OfKind n))) declared_kinds k rule c in
    let a = same_bool (is_declared c.production) (is_declaration (OfKind k)) in
    let b = not (in_first c.production) || is_first (OfKind k) in
    let same : c.production ≡ production_at rule.number = sym (ap (λ x. production_at x.number) c.is ∙ at_number c.production) in
    subst (λ p. OfItsKind k p) same
    (record { declared = same_bool_is (is_declared c.production) (is_declaration (OfKind k)) (first_of_both a b passes); first = implied (in_first c.production) (is_first (OfKind k)) (second_of_both a b passes) })

-- a production has declarations as parts only in signatures, or where their values aren't used
unfoldable pub part_placed : Production → (hidden : Bool) → Sym → Bool
part_placed p hidden x =
    (elim hidden [
      | true ↦ is_declaration x
      | false ↦ elim (is_quiet p) [ true ↦ is_declaration x || (is_byte x || is_first x) | false ↦ not (is_declaration x) ]
    ]) && (not (is_first x) || (is_lambda p || in_first p))

-- no production with a single part has a later part, and the later part of an encoding's literal is that encoding
unfoldable pub later_placed : Production → (first : Bool) → Sym → Bool
later_placed p first x = first || (not (is_alone p) && (not (is_literal p) || is_encoding x))

unfoldable pub parts_placed : Production → (first : Bool) → List Sym → Bool
parts_placed p first [] = true
parts_placed p first (x ∷ xs) = (part_placed p (first && skips p) x && later_placed p first x) && parts_placed p false xs

all_placed : (p : Production) → parts_placed p true (parts_of p) ≡ true
unfolding parts_placed part_placed later_placed is_alone is_literal is_encoding skips is_declaration is_quiet is_byte is_first is_lambda in_first parts_of number_of_kind
all_placed Production.Mark = refl
all_placed (Production.Operation Operation.ExpressionC) = refl
all_placed _ = refl

pub rule_placed : (p : Production) (rule : Rule) → rule ≡ rule_of p → parts_placed (production_at rule.number) true (symbols_of rule) ≡ true
rule_placed p rule is =
    ap (λ q. parts_placed q true (symbols_of rule)) (ap (λ x. production_at x.number) is ∙ at_number p) ∙ ap (parts_placed p true) (ap symbols_of is ∙ its_symbols p) ∙ all_placed p

-- the parts after the one that was read are placed as well
pub left_placed : (p : Production) (first : Bool) (vs us : List Value) (x : Sym) (xs : List Sym) (value : Value) → us ≡ value ∷ [] → parts_placed p first (x ∷ xs) ≡ true → parts_placed p (is_nothing (vs ++ us)) xs ≡ true
unfolding parts_placed
left_placed p first vs us x xs value is placed =
    ap (λ b. parts_placed p b xs) (ap (λ ws. is_nothing (vs ++ ws)) is ∙ some_values vs value) ∙ second_of_both (part_placed p (first && skips p) x && later_placed p first x) (parts_placed p false xs) placed

pub next_placed : (p : Production) (first : Bool) (x : Sym) (xs : List Sym) → parts_placed p first (x ∷ xs) ≡ true → part_placed p (first && skips p) x ≡ true
unfolding parts_placed
next_placed p first x xs placed =
    first_of_both (part_placed p (first && skips p) x) (later_placed p first x) (first_of_both (part_placed p (first && skips p) x && later_placed p first x) (parts_placed p false xs) placed)

pub next_later : (p : Production) (first : Bool) (x : Sym) (xs : List Sym) → parts_placed p first (x ∷ xs) ≡ true → later_placed p first x ≡ true
unfolding parts_placed
next_later p first x xs placed =
    second_of_both (part_placed p (first && skips p) x) (later_placed p first x) (first_of_both (part_placed p (first && skips p) x && later_placed p first x) (parts_placed p false xs) placed)

pub may_go : (p : Production) (vs : List Value) (x : Sym) → later_placed p (is_nothing vs) x ≡ true → MayGo p vs
unfolding later_placed
may_go p vs x placed = go (is_nothing vs) (not (is_alone p)) (not (is_literal p) || is_encoding x) placed
  where
    go : (first alone_ literal : Bool) → (first || (alone_ && literal)) ≡ true → (first || alone_) ≡ true
    go true a l h = refl
    go false true l h = refl
    go false false l h = h

pub literal_next : (p : Production) (first : Bool) (x : Sym) → later_placed p first x ≡ true → first ≡ false → is_literal p ≡ true → is_encoding x ≡ true
unfolding later_placed
literal_next p first x placed later literal = go first (not (is_alone p)) (is_literal p) (is_encoding x) placed later literal
  where
    go : (f a l e : Bool) → (f || (a && (not l || e))) ≡ true → f ≡ false → l ≡ true → e ≡ true
    go true a l e h later_ is = absurd (true≢false later_)
    go false true true e h later_ is = h
    go false true false e h later_ is = absurd (false≢true is)
    go false false l e h later_ is = absurd (false≢true h)

-- ## Places

-- where a part of this kind is annotated
unfoldable pub place_at : (own : Bool) → Sym → Around → Place
place_at own x around = elim (is_declaration x && own) [ true ↦ in_own | false ↦ around_place own around ]

-- where the value of a production is annotated
unfoldable pub yield_place : (own : Bool) → Production → Around → Place
yield_place own p around = elim (is_declared p && own) [ true ↦ in_own | false ↦ around_place own around ]

never_own : (b : Bool) (s r : Place) → elim (b && false) [ true ↦ s | false ↦ r ] ≡ r
never_own true s r = refl
never_own false s r = refl

pub yields_at : (own : Bool) (k : ℕ) (p : Production) (around : Around) → is_declared p ≡ is_declaration (OfKind k) → yield_place own p around ≡ place_at own (OfKind k) around
unfolding yield_place place_at
yields_at own k p around same = ap (λ b. elim (b && own) [ true ↦ in_own | false ↦ around_place own around ]) same

pub plain_place : (own : Bool) (x : Sym) (around : Around) → is_declaration x ≡ false → place_at own x around ≡ around_place own around
unfolding place_at
plain_place own x around plain = ap (λ b. elim (b && own) [ true ↦ in_own | false ↦ around_place own around ]) plain

-- the values of the parts of a production, annotated
unfoldable pub noted_parts : Production → (own : Bool) → Place → List Value → List value_.Value
noted_parts Production.DeclaredArgument true s (v ∷ vs) = noted_value in_own v ∷ noted_values s vs
noted_parts p own s vs = noted_values s vs

pub parts_abi : (p : Production) (s : Place) (vs : List Value) → noted_parts p false s vs ≡ noted_values s vs
unfolding noted_parts
parts_abi Production.DeclaredArgument s vs = refl
parts_abi _ s vs = refl

pub parts_none : (p : Production) (own : Bool) (s : Place) → noted_parts p own s [] ≡ []
unfolding noted_parts noted_values
parts_none Production.DeclaredArgument true s = refl
parts_none Production.DeclaredArgument false s = refl
parts_none _ own s = refl

values_then : (s : Place) (vs : List Value) (v : Value) (w : value_.Value) → w ≡ noted_value s v → noted_values s vs ++ (w ∷ []) ≡ noted_values s (vs ++ (v ∷ []))
unfolding noted_values
values_then s [] v w e = ap (λ x. x ∷ []) e
values_then s (u ∷ vs) v w e = ap (λ ws. noted_value s u ∷ ws) (values_then s vs v w e)

-- annotating one more value appends it to the annotated values
pub parts_then : (p : Production) (own : Bool) (s : Place) (vs : List Value) (v : Value) (w : value_.Value) → (hides p own vs ≡ true → w ≡ noted_value in_own v) → (hides p own vs ≡ false → w ≡ noted_value s v) →
    noted_parts p own s vs ++ (w ∷ []) ≡ noted_parts p own s (vs ++ (v ∷ []))
unfolding noted_parts noted_values hides
parts_then Production.DeclaredArgument true s [] v w hidden used = ap (λ x. x ∷ []) (hidden refl)
parts_then Production.DeclaredArgument true s (u ∷ vs) v w hidden used = ap (λ ws. noted_value in_own u ∷ ws) (values_then s vs v w (used refl))
parts_then Production.DeclaredArgument false s vs v w hidden used = values_then s vs v w (used refl)
parts_then p own s vs v w hidden used = values_then s vs v w (used refl)

-- ## Before a part

-- results that are alike by one relation are alike by a weaker one
pub alike_map : {A B : Type 0} (R Q : A → B → Type 0) (x : Result A Refusal) (y : Result B Refusal) → ((a : A) (b : B) → x ≡ Ok a → R a b → Q a b) → Alike R x y → Alike Q x y
alike_map R Q (Ok a) (Ok b) f r = f a b refl r
alike_map R Q (Err e) (Err d) f r = r
alike_map R Q (Ok a) (Err d) f r = absurd r
alike_map R Q (Err e) (Ok b) f r = absurd r

-- the inputs of the next part, with arguments and without
pub record Onward (own : Bool) (p : Production) (around : Around) (x : State) (y : value_.State) (n : Next Value State Around) (m : Next value_.Value value_.State value_.Around) : Type 0 where
  pub values : m.values ≡ noted_parts p own (parts_place own p around) n.values
  pub context : m.context ≡ noted_around own n.context
  pub moves : Moves own around x y n.state m.state
  pub scope : InScope around n.context
  pub place : (around_place own n.context ≡ parts_place own p around) ⊎ (((n.context.scope ≡ None) × (own ≡ false)) ⊎ ((own ≡ true) × (is_quiet p ≡ true)))
  pub lambda : is_lambda p ≡ true → n.context.in_lambda ≡ true

onward_by : (own : Bool) (p : Production) (around : Around) (x : State) (y : value_.State) (r : Result (Next Value State Around) Refusal) (q : Result (Next value_.Value value_.State value_.Around) Refusal) →
    (is_lambda p ≡ true → (n : Next Value State Around) → r ≡ Ok n → n.context.in_lambda ≡ true) → ((vs : List Value) → noted_parts p own (parts_place own p around) vs ≡ noted_values (parts_place own p around) vs) →
    Alike (Goes own (parts_place own p around) around x y) r q → Alike (Onward own p around x y) r q
onward_by own p around x y r q inside same goes =
    alike_map (Goes own (parts_place own p around) around x y) (Onward own p around x y) r q
    (λ n m is g. record {
      values = g.values ∙ sym (same n.values);
      context = g.context;
      moves = g.moves;
      scope = g.scope;
      place = elim g.place [ inl here ↦ inl here | inr bare ↦ inr (inl bare) ];
      lambda = λ l. inside l n is;
    }) goes

quiet_onward : (own : Bool) (p : Production) (around : Around) (x : State) (y : value_.State) (vs : List Value) → is_quiet p ≡ true → is_lambda p ≡ false → Alongside x y →
    Onward own p around x y (record { context = around; values = vs; state = x }) (record { context = noted_around own around; values = noted_parts p own (parts_place own p around) vs; state = y })
unfolding parts_place
quiet_onward own p around x y vs quiet plain packs = record {
  values = refl;
  context = refl;
  moves = moves_none own around x x y y refl refl packs;
  scope = inl (refl, refl);
  place = place_ own;
  lambda = λ l. absurd (true≢false (sym l ∙ plain));
}
  where
    abi_place : around_place false around ≡ parts_place false p around
    abi_place = sym (never_own (has_signature p) in_own (around_place false around))

    place_ : (o : Bool) → (around_place o around ≡ parts_place o p around) ⊎ (((around.scope ≡ None) × (o ≡ false)) ⊎ ((o ≡ true) × (is_quiet p ≡ true)))
    place_ true = inr (inr (refl, quiet))
    place_ false = inl abi_place

skipped_onward : (own : Bool) (around : Around) (x : State) (y : value_.State) (vs : List Value) → Alongside x y →
    Onward own Production.DeclaredArgument around x y (record { context = around; values = vs; state = x })
    (record { context = noted_around own around; values = noted_parts Production.DeclaredArgument own (parts_place own Production.DeclaredArgument around) vs; state = y })
unfolding parts_place has_signature is_lambda
skipped_onward own around x y vs packs =
    record { values = refl; context = refl; moves = moves_none own around x x y y refl refl packs; scope = inl (refl, refl); place = inl refl; lambda = λ l. absurd (false≢true l) }

-- a lambda's parts are in its signature
lambda_inside : (p : Production) (around : Around) (place : ℕ) (vs : List Value) (x : State) → is_lambda p ≡ true → (n : Next Value State Around) → between p around place vs x ≡ Ok n → n.context.in_lambda ≡ true
unfolding is_lambda between all_pass in_signature
lambda_inside Production.Lambda around place vs x h n e = sym (ap (λ m. m.context.in_lambda) (ok_same _ n e))
lambda_inside _ around place vs x h n e = absurd (false≢true h)

wide_lambda_inside : (p : Production) (around : Around) (place : ℕ) (vs : List Value) (x : State) → is_lambda p ≡ true → (n : Next Value State Around) → between_wide p around place vs x ≡ Ok n → n.context.in_lambda ≡ true
unfolding is_lambda between_wide
wide_lambda_inside Production.Lambda around place vs x h n e = lambda_inside Production.Lambda around place vs x refl n e
wide_lambda_inside _ around place vs x h n e = absurd (false≢true h)

pub abi_goes : (production : Production) (around : Around) (place : ℕ) (vs : List Value) (x : State) (y : value_.State) → StaysInside production → MayGo production vs → Settled around → Same false around x y →
    Alike (Onward false production around x y) (between production around place vs x) (between_.between production (noted_around false around) place (noted_parts production false (parts_place false production around) vs) y)
unfolding between between_.between all_pass is_quiet is_lambda noted_parts noted_values
abi_goes Production.TemplateOf around place vs x y stays may settled same = quiet_onward false Production.TemplateOf around x y vs refl refl same.packs
abi_goes Production.PackOf around place vs x y stays may settled same = quiet_onward false Production.PackOf around x y vs refl refl same.packs
abi_goes Production.Declarations around place vs x y stays may settled same = quiet_onward false Production.Declarations around x y vs refl refl same.packs
abi_goes Production.FirstWithT around place vs x y stays may settled same = quiet_onward false Production.FirstWithT around x y vs refl refl same.packs
abi_goes Production.DeclaredFirst around place [] x y stays may settled same = refl
abi_goes Production.DeclaredFirst around place (v ∷ vs) x y stays may settled same = quiet_onward false Production.DeclaredFirst around x y (v ∷ vs) refl refl same.packs
abi_goes p around place vs x y stays may settled same =
    onward_by false p around x y (between p around place vs x) (between_.between p (noted_around false around) place (noted_values (parts_place false p around) vs) y) (lambda_inside p around place vs x) (λ us. refl)
    (between_noted false p around place vs x y stays refl may same.packs)

pub wide_goes : (production : Production) (around : Around) (place : ℕ) (vs : List Value) (x : State) (y : value_.State) → StaysInside production → MayGo production vs → Settled around → Same true around x y →
    Alike (Onward true production around x y) (between_wide production around place vs x) (wide_.between_wide production (noted_around true around) place (noted_parts production true (parts_place true production around) vs) y)
unfolding between_wide wide_.between_wide between between_.between all_pass is_quiet is_lambda noted_parts noted_values
wide_goes Production.DeclaredArgument around place vs x y stays may settled same = skipped_onward true around x y vs same.packs
wide_goes Production.TemplateOf around place vs x y stays may settled same = quiet_onward true Production.TemplateOf around x y vs refl refl same.packs
wide_goes Production.PackOf around place vs x y stays may settled same = quiet_onward true Production.PackOf around x y vs refl refl same.packs
wide_goes Production.Declarations around place vs x y stays may settled same = quiet_onward true Production.Declarations around x y vs refl refl same.packs
wide_goes Production.FirstWithT around place vs x y stays may settled same = quiet_onward true Production.FirstWithT around x y vs refl refl same.packs
wide_goes Production.DeclaredFirst around place [] x y stays may settled same = quiet_onward true Production.DeclaredFirst around x y [] refl refl same.packs
wide_goes Production.DeclaredFirst around place (v ∷ vs) x y stays may settled same = quiet_onward true Production.DeclaredFirst around x y (v ∷ vs) refl refl same.packs
wide_goes p around place vs x y stays may settled same =
    onward_by true p around x y (between_wide p around place vs x) (wide_.between_wide p (noted_around true around) place (noted_values (parts_place true p around) vs) y) (wide_lambda_inside p around place vs x) (λ us. refl)
    (wide_between_noted p around place vs x y stays refl may settled same)

-- ## After the parts of a production

-- the value of a production, with arguments and without
pub record Yield (own : Bool) (p : Production) (around : Around) (x : State) (y : value_.State) (a : Found Value State) (b : Found value_.Value value_.State) : Type 0 where
  pub value : b.value ≡ noted_value (yield_place own p around) a.value
  pub moves : Moves own around x y a.state b.state

pub abi_closes : (production : Production) (byte : ℕ) (around : Around) (place : ℕ) (began : State) (first : value_.State) (vs : List Value) (x : State) (y : value_.State) → Inside production vs →
    Settled around → Same false around x y → Alongside began first →
    Alike (Yield false production around x y) (close production byte around place began vs x) (unfolded_.close production byte (noted_around false around) place first (noted_parts production false (parts_place false production around) vs) y)
unfolding yield_place
abi_closes p byte around place began first vs x y h settled same e =
    subst (λ us. Alike (Yield false p around x y) (close p byte around place began vs x) (unfolded_.close p byte (noted_around false around) place first us y)) (sym (parts_abi p (parts_place false p around) vs))
    (alike_map (Comes false around x y) (Yield false p around x y) (close p byte around place began vs x) (unfolded_.close p byte (noted_around false around) place first (noted_values (parts_place false p around) vs) y)
    (λ a b is c. record { value = c.value ∙ ap (λ s. noted_value s a.value) (sym (never_own (is_declared p) in_own (around_place false around))); moves = c.moves })
    (close_noted p byte around place began first vs x y h settled same e))

-- in a signature, the values of the parts are annotated at the same place as the value of the production
first_value : (p : Production) (byte : ℕ) (around : Around) (vs : List Value) → Inside p vs → Settled around → around.in_lambda ≡ true →
    noted_.meaning p byte (noted_around true around) (noted_values in_own vs) ≡ noted_value (around_place true around) (meaning p byte around vs)
first_value p byte around vs h settled l =
    subst (λ s. noted_.meaning p byte (noted_around true around) (noted_values s vs) ≡ noted_value (around_place true around) (meaning p byte around vs)) (own_place around (settled l) l) (meaning_noted true p byte around vs h)

pub wide_closes : (production : Production) (byte : ℕ) (around : Around) (place : ℕ) (began : State) (first : value_.State) (vs : List Value) (x : State) (y : value_.State) → Shut true production around vs →
    Settled around → (in_first production ≡ true → around.in_lambda ≡ true) → Same true around x y → Alongside began first →
    Alike (Yield true production around x y) (close_wide production byte around place began vs x) (wide_.close_wide production byte (noted_around true around) place first (noted_parts production true (parts_place true production around) vs) y)
unfolding close unfolded_.close close_wide wide_.close_wide tree_of value_.tree_of parts_place has_signature meaning noted_.meaning unfolding_.behind unfolded_.behind yield_place is_declared in_first is_quiet noted_parts noted_values noted_value annotate in_signature place_in part value_.part listed_value noted_.listed_value
wide_closes Production.TypeOf byte around place began first vs x y h settled inside same e = record { value = refl; moves = moves_none true around x x y y refl refl same.packs }
wide_closes Production.ValueOf byte around place began first vs x y h settled inside same e = record { value = meaning_noted true Production.ValueOf byte (in_signature around) vs tt; moves = moves_none true around x x y y refl refl same.packs }
wide_closes Production.OfConcept byte around place began first vs x y h settled inside same e = record { value = meaning_noted true Production.OfConcept byte (in_signature around) vs tt; moves = moves_none true around x x y y refl refl same.packs }
wide_closes Production.TemplateOf byte around place began first vs x y h settled inside same e = record { value = meaning_noted true Production.TemplateOf byte (in_signature around) vs tt; moves = moves_none true around x x y y refl refl same.packs }
wide_closes Production.PackOf byte around place began first vs x y h settled inside same e = record { value = meaning_noted true Production.PackOf byte (in_signature around) vs tt; moves = moves_none true around x x y y refl refl same.packs }
wide_closes Production.Declarations byte around place began first vs x y h settled inside same e = record { value = meaning_noted true Production.Declarations byte (in_signature around) vs tt; moves = moves_none true around x x y y refl refl same.packs }
wide_closes Production.DeclaredFirst byte around place began first vs x y h settled inside same e = record { value = first_value Production.DeclaredFirst byte around vs tt settled (inside refl); moves = moves_none true around x x y y refl refl same.packs }
wide_closes Production.FirstWithT byte around place began first vs x y h settled inside same e = record { value = first_value Production.FirstWithT byte around vs tt settled (inside refl); moves = moves_none true around x x y y refl refl same.packs }
wide_closes Production.DeclaredArgument byte around place began first [] x y h settled inside same e = record { value = refl; moves = moves_none true around x x y y refl refl same.packs }
wide_closes Production.DeclaredArgument byte around place began first (v ∷ vs) x y h settled inside same e =
    record { value = ap (λ t. value_.tree t true) (tree_part (around_place true around) vs 0); moves = moves_none true around x x y y refl refl same.packs }
wide_closes p byte around place began first vs x y h settled inside same e =
    alike_map (Comes true around x y) (Yield true p around x y) (close_wide p byte around place began vs x) (wide_.close_wide p byte (noted_around true around) place first (noted_values (parts_place true p around) vs) y)
    (λ a b is c. record { value = c.value; moves = c.moves }) (wide_close_noted p byte around place began first vs x y h refl refl settled same e)

-- ## From a part to what contains it

-- where the value of a part is annotated, if it is used: at the place of the production's parts, or anywhere
pub data Placed (own : Bool) (s : Place) (x : Sym) (inner : Around) : Type 0 where
  there : place_at own x inner ≡ s → Placed own s x inner
  alone : inner.scope ≡ None → own ≡ false → Placed own s x inner
  no_tree : is_byte x ≡ true → Placed own s x inner

quiet_own : (p : Production) (around : Around) → is_quiet p ≡ true → parts_place true p around ≡ in_own
unfolding is_quiet parts_place has_signature
quiet_own Production.TemplateOf around h = refl
quiet_own Production.PackOf around h = refl
quiet_own Production.Declarations around h = refl
quiet_own Production.DeclaredFirst around h = refl
quiet_own Production.FirstWithT around h = refl
quiet_own _ around h = absurd (false≢true h)

hidden_is : (p : Production) (own : Bool) (vs : List Value) → hides p own vs ≡ true → ((is_nothing vs && skips p) ≡ true) × (own ≡ true)
unfolding hides is_nothing skips
hidden_is Production.DeclaredArgument true [] h = (refl, refl)
hidden_is Production.DeclaredArgument true (v ∷ vs) h = absurd (false≢true h)
hidden_is Production.DeclaredArgument false vs h = absurd (false≢true h)
hidden_is p own vs h = absurd (false≢true h)

-- the place of a part whose value isn't used
pub hidden_placed : (p : Production) (own : Bool) (old new : List Value) (x : Sym) (inner : Around) → part_placed p (is_nothing old && skips p) x ≡ true → (skips p ≡ true → new ≡ old) → hides p own new ≡ true → place_at own x inner ≡ in_own
unfolding part_placed place_at
hidden_placed p own old new x inner placed same hidden =
    let is = hidden_is p own new hidden in
    let flag : (is_nothing old && skips p) ≡ true = same_skipped p new old same ∙ is.0 in
    let declared : is_declaration x ≡ true = first_of_both (is_declaration x) (not (is_first x) || (is_lambda p || in_first p)) (sym (ap (λ b. part_placed p b x) flag) ∙ placed) in
    both (λ b o. elim (b && o) [ true ↦ in_own | false ↦ around_place own inner ]) declared is.1

part_of : (p : Production) (x : Sym) → part_placed p false x ≡ true → (elim (is_quiet p) as (λ b. Bool) [ true ↦ is_declaration x || (is_byte x || is_first x) | false ↦ not (is_declaration x) ]) ≡ true
unfolding part_placed
part_of p x placed = first_of_both (elim (is_quiet p) as (λ b. Bool) [ true ↦ is_declaration x || (is_byte x || is_first x) | false ↦ not (is_declaration x) ]) (not (is_first x) || (is_lambda p || in_first p)) placed

-- the place of a part whose value is used
pub used_placed : (p : Production) (own : Bool) (around inner : Around) (old new : List Value) (x : Sym) → part_placed p (is_nothing old && skips p) x ≡ true → (skips p ≡ true → new ≡ old) → hides p own new ≡ false →
    (around_place own inner ≡ parts_place own p around) ⊎ (((inner.scope ≡ None) × (own ≡ false)) ⊎ ((own ≡ true) × (is_quiet p ≡ true))) → Settled inner → (own ≡ true → is_first x ≡ true → inner.in_lambda ≡ true) →
    Placed own (parts_place own p around) x inner
unfolding place_at
used_placed p false around inner old new x placed same used (inl same_place) settled inside = there (never_own (is_declaration x) in_own (around_place false inner) ∙ same_place)
used_placed p false around inner old new x placed same used (inr (inl abi)) settled inside = alone abi.0 refl
used_placed p false around inner old new x placed same used (inr (inr quiet)) settled inside = absurd (false≢true quiet.0)
used_placed p true around inner old new x placed same used place settled inside =
    go (is_quiet p) refl (is_declaration x) refl (part_of p x (sym (ap (λ b. part_placed p b x) flag) ∙ placed))
  where
    flag : (is_nothing old && skips p) ≡ false
    flag = same_skipped p new old same ∙ none_hidden p true new refl used

    declared : is_declaration x ≡ true → place_at true x inner ≡ in_own
    declared is = ap (λ b. elim (b && true) [ true ↦ in_own | false ↦ around_place true inner ]) is

    first : (b f : Bool) → is_byte x ≡ b → is_first x ≡ f → (b || f) ≡ true → is_quiet p ≡ true → is_declaration x ≡ false → Placed true (parts_place true p around) x inner
    first true f is is_ h quiet plain = no_tree is
    first false true is is_ h quiet plain = let l = inside refl is_ in there (plain_place true x inner plain ∙ own_place inner (settled l) l ∙ sym (quiet_own p around quiet))
    first false false is is_ h quiet plain = absurd (false≢true h)

    go : (q : Bool) → is_quiet p ≡ q → (d : Bool) → is_declaration x ≡ d → (elim q as (λ b. Bool) [ true ↦ d || (is_byte x || is_first x) | false ↦ not d ]) ≡ true → Placed true (parts_place true p around) x inner
    go true quiet true is h = there (declared is ∙ sym (quiet_own p around quiet))
    go true quiet false is h = first (is_byte x) (is_first x) refl refl h quiet is
    go false loud true is h = absurd (false≢true h)
    go false loud false is h = elim place [
      | inl same_place ↦ there (plain_place true x inner is ∙ same_place)
      | inr (inl abi) ↦ absurd (true≢false abi.1)
      | inr (inr quiet) ↦ absurd (true≢false (sym quiet.1 ∙ loud))
    ]

-- a lambda's first type is read in its signature
pub first_inside : (p : Production) (own hidden : Bool) (around inner : Around) (x : Sym) → part_placed p hidden x ≡ true → InScope around inner → (own ≡ true → in_first p ≡ true → around.in_lambda ≡ true) →
    (is_lambda p ≡ true → inner.in_lambda ≡ true) → own ≡ true → is_first x ≡ true → inner.in_lambda ≡ true
unfolding part_placed
first_inside p own hidden around inner x placed scope inside lambda o first =
    go (is_lambda p) (in_first p) refl refl
    (implied (is_first x) (is_lambda p || in_first p)
    (second_of_both (elim hidden as (λ b. Bool) [
      | true ↦ is_declaration x
      | false ↦ elim (is_quiet p) as (λ b. Bool) [ true ↦ is_declaration x || (is_byte x || is_first x) | false ↦ not (is_declaration x) ]
    ]) (not (is_first x) || (is_lambda p || in_first p)) placed) first)
  where
    go : (l f : Bool) → is_lambda p ≡ l → in_first p ≡ f → (l || f) ≡ true → inner.in_lambda ≡ true
    go true f is is_ h = lambda is
    go false true is is_ h = elim scope [ inl same ↦ same.1 ∙ inside o is_ | inr within ↦ within.1 ]
    go false false is is_ h = absurd (false≢true h)

-- the value of a byte is no tree
pub byte_values : (w : Way) (x : Sym) (t : Tree) (s r : Place) (inner : Around) (at : ℕ) (state : State) (a : Found (List Value) State) → is_byte x ≡ true → IsTree wide x t → unfold_tree (reading_by w) inner at t state ≡ Ok a → noted_values s a.value ≡ noted_values r a.value
unfolding is_byte reading_by noted_values noted_value
byte_values w (Byte b) (fixed c) s r inner at state a h is e = subst (λ f. noted_values s f.value ≡ noted_values r f.value) (ok_same (found (leaf_.nothing_there ∷ []) state) a e) refl
byte_values w (Byte b) (branch rule taken parts) s r inner at state a h is e = absurd is
byte_values w (Byte b) empty s r inner at state a h is e = absurd is
byte_values w (Byte b) (token t) s r inner at state a h is e = absurd is
byte_values w _ t s r inner at state a h is e = absurd (false≢true h)
