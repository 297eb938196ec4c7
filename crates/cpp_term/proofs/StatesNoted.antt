-- The state that is passed from byte to byte, annotated: the candidates of an encoding by the encoding's scope, and closed
-- candidates in any way.
use Rattle.cpp_term.proofs.Basics.{◌≡◌, refl, ap, sym, ◌∙◌, subst, ℕ, zero, suc, List, [], ◌∷◌, ◌++◌, Bool, true, false, not, ◌||◌, ◌&&◌, nat_eq, nat_lt, slice_get, Option, Some, None, Result, Ok, Err, eqb-true, true≢false, false≢true, and_parts, append_assoc, append-nil, Refusal, BadReference, Found, ◌>>=◌, found, Term, holder, parameter, function_type, operation, Counted, by_all, by_newer, Lists, longer_list, shorter_list, both_lists, no_list, Expected, Counting, Around, prefix_tree, prefix_listed, Value, State, Candidate, tree_of, is_listed, appended, appended_by, is_function_type, with_type, with_unqualified, with_prefix, with_packs, packs_in, is_module, substituted, parameter_named, with_holder, is_before_holder, is_by_newer, is_by_all, is_by_some, is_in_list, named_in, named_by_both, joined, counted_so_far, fits, can_be_named, is_prefix_at, is_qualified_at, has_head, head_at, may_be, left_by, left_at, with_lists, listed_by, noting, is_foreign, in_scope, under_scope, with_free, restated, substituted_wide, numbered, reargued, given_for, Place, nowhere, around_place, place_in, in_own, in_arguments, argument_in, annotate, noted_scope, noted_value, noted_prefix, noted_around}
use Rattle.cpp_grammar.specs.Scope.{count, element, is_list, has_pack, is_open, length_if_pack, pack_length, Free, none_free, one_free, several_free, free_in}
use Rattle.cpp_grammar.specs.Values as leaf_
use Rattle.cpp_grammar.specs.Rescoping as rescoping_
use Rattle.cpp_term.specs.Term as term_
use Rattle.cpp_term.specs.Scope as scope_
use Rattle.cpp_term.specs.Values as value_
use Rattle.cpp_term.specs.References as noted_
use Rattle.cpp_term.specs.Rescoping as wide_
use Rattle.cpp_term.specs.Items as item_
use Rattle.cpp_term.proofs.Reargued.{given_same, given_element}
use Rattle.cpp_term.proofs.Notes.{both, choose, count_noted, element_noted, pack_noted, open_noted, closed_noted, length_noted, packs_noted, NameThis, renoted, free_noted}
use Rattle.cpp_term.proofs.SeenNoted.{is_list_noted}
use Rattle.cpp_term.proofs.AwaitedNoted.{head_noted}
use Rattle.cpp_term.proofs.MeaningNoted.{three, tree_noted, listed_noted, prefix_tree_noted, prefix_listed_noted}

-- ## Results

-- two results are the same refusal, or have values that are related
abbrev pub Alike : {A B : Type 0} → (A → B → Type 0) → Result A Refusal → Result B Refusal → Type 0
Alike R (Ok a) (Ok b) = R a b
Alike R (Err e) (Err f) = f ≡ e
Alike R _ _ = ⊥

pub alike_bind : {A B C D : Type 0} (R : A → B → Type 0) (Q : C → D → Type 0) (x : Result A Refusal) (y : Result B Refusal) (f : A → Result C Refusal) (g : B → Result D Refusal) →
    Alike R x y → ((a : A) (b : B) → x ≡ Ok a → R a b → Alike Q (f a) (g b)) → Alike Q (x >>= f) (y >>= g)
alike_bind R Q (Ok a) (Ok b) f g r next = next a b refl r
alike_bind R Q (Err e) (Err d) f g r next = r
alike_bind R Q (Ok a) (Err d) f g r next = absurd r
alike_bind R Q (Err e) (Ok b) f g r next = absurd r

-- ## Candidates

-- a candidate with its arguments, in these surroundings
pub record IsNoted (own : Bool) (around : Around) (c : Candidate) (d : value_.Candidate) : Type 0 where
  pub encoding : d.encoding ≡ c.encoding
  -- the scope by which the candidate was annotated
  pub by : Place
  pub like : d.tree ≡ annotate by c.tree
  pub closed : is_open c.tree ≡ false → d.tree ≡ annotate nowhere c.tree
  pub in_lambda : d.in_lambda ≡ c.in_lambda
  pub counted : d.counted ≡ c.counted
  pub here : c.encoding ≡ around.encoding → around.in_lambda ≡ false → (own ≡ true → c.in_lambda ≡ false) → d.tree ≡ annotate (around_place own around) c.tree

abbrev pub AllNoted : (own : Bool) → Around → List Candidate → List value_.Candidate → Type 0
AllNoted own around [] [] = Unit {0}
AllNoted own around (c ∷ cs) (d ∷ ds) = IsNoted own around c d × AllNoted own around cs ds
AllNoted own around _ _ = ⊥

-- two states with packs of one length, whose candidates are counted alike
abbrev pub Alongside : State → value_.State → Type 0
Alongside x y = (y.packs ≡ x.packs) × (y.counting ≡ x.counting)

-- two states that are alike: one is the other with arguments
pub record Same (own : Bool) (around : Around) (x : State) (y : value_.State) : Type 0 where
  pub packs : Alongside x y
  pub all : AllNoted own around x.candidates y.candidates

-- two states become two others, to which the same candidates were appended
pub record Moves (own : Bool) (around : Around) (x : State) (y : value_.State) (later : State) (noted : value_.State) : Type 0 where
  pub more : List Candidate
  pub others : List value_.Candidate
  pub is : later.candidates ≡ x.candidates ++ more
  pub so : noted.candidates ≡ y.candidates ++ others
  pub each : AllNoted own around more others
  pub packs : Alongside later noted

pub all_append : (own : Bool) (around : Around) (cs es : List Candidate) (ds fs : List value_.Candidate) → AllNoted own around cs ds → AllNoted own around es fs → AllNoted own around (cs ++ es) (ds ++ fs)
all_append own around [] es [] fs f g = g
all_append own around (c ∷ cs) es (d ∷ ds) fs f g = (f.0, all_append own around cs es ds fs f.1 g)
all_append own around [] es (d ∷ ds) fs f g = absurd f
all_append own around (c ∷ cs) es [] fs f g = absurd f

pub same_moves : (own : Bool) (around : Around) (x later : State) (y noted : value_.State) → Same own around x y → Moves own around x y later noted → Same own around later noted
same_moves own around x later y noted same m = record {
  packs = m.packs;
  all = subst (λ cs. AllNoted own around cs noted.candidates) (sym m.is) (subst (λ ds. AllNoted own around (x.candidates ++ m.more) ds) (sym m.so) (all_append own around x.candidates m.more y.candidates m.others same.all m.each));
}

pub moves_none : (own : Bool) (around : Around) (x later : State) (y noted : value_.State) → later.candidates ≡ x.candidates → noted.candidates ≡ y.candidates → Alongside later noted → Moves own around x y later noted
moves_none own around x later y noted e g packs = record { more = []; others = []; is = e ∙ sym (append-nil x.candidates); so = g ∙ sym (append-nil y.candidates); each = tt; packs = packs }

pub moves_then : (own : Bool) (around : Around) (x u w : State) (y v z : value_.State) → Moves own around x y u v → Moves own around u v w z → Moves own around x y w z
moves_then own around x u w y v z m n = record {
  more = m.more ++ n.more;
  others = m.others ++ n.others;
  is = n.is ∙ ap (λ cs. cs ++ n.more) m.is ∙ append_assoc x.candidates m.more n.more;
  so = n.so ∙ ap (λ cs. cs ++ n.others) m.so ∙ append_assoc y.candidates m.others n.others;
  each = all_append own around m.more n.more m.others n.others m.each n.each;
  packs = n.packs;
}

pub more_moves : (counted : Counted) (own : Bool) (around : Around) (t : Term) (u : term_.Term) (x : State) (y : value_.State) → Alongside x y → u ≡ annotate (around_place own around) t →
    Moves own around x y (appended_by counted around t x) (noted_.appended_by counted (noted_around own around) u y)
unfolding noted_around
more_moves counted own around t u x y packs is = record {
  more = record { tree = t; encoding = around.encoding; in_lambda = around.in_lambda; counted = counted } ∷ [];
  others = record { tree = u; encoding = around.encoding; in_lambda = around.in_lambda; counted = counted } ∷ [];
  is = refl;
  so = refl;
  each = (record { encoding = refl; by = around_place own around; like = is; closed = λ h. is ∙ closed_noted (around_place own around) nowhere t h; in_lambda = refl; counted = refl; here = λ e f g. is }, tt);
  packs = packs;
}

pub one_moves : (own : Bool) (around : Around) (t : Term) (u : term_.Term) (x : State) (y : value_.State) → Alongside x y → u ≡ annotate (around_place own around) t →
    Moves own around x y (appended around t x) (noted_.appended (noted_around own around) u y)
unfolding appended noted_.appended
one_moves own around t u x y packs is = more_moves by_all own around t u x y packs is

pub held_moves : (own : Bool) (around : Around) (t : Term) (u : term_.Term) (x : State) (y : value_.State) → Alongside x y → u ≡ annotate (around_place own around) t →
    Moves own around x y (with_holder around t x) (wide_.with_holder (noted_around own around) u y)
unfolding with_holder wide_.with_holder noted_around
held_moves own around t u x y packs is =
    let s = around_place own around in
    let onward : (a : State) (b : value_.State) → Moves own around x y a b → Moves own around x y (appended_by by_newer around t a) (noted_.appended_by by_newer (noted_around own around) u b) =
    λ a b m. moves_then own around x a (appended_by by_newer around t a) y b (noted_.appended_by by_newer (noted_around own around) u b) m (more_moves by_newer own around t u a b m.packs is) in
    choose (λ a b. Moves own around x y (appended_by by_newer around t a) (noted_.appended_by by_newer (noted_around own around) u b)) (prefix_listed around.prefix) (value_.prefix_listed (noted_prefix s around.prefix)) _ _ _ _ (prefix_listed_noted s around.prefix)
    (λ h. onward _ _ (one_moves own around t u x y packs is)) (λ h. onward x y (moves_none own around x x y y refl refl packs))

-- ## Types and prefixes

function_type_noted : (s : Place) (t : Term) → noted_.is_function_type (annotate s t) ≡ is_function_type t
unfolding noted_.is_function_type is_function_type annotate
function_type_noted s (function_type c_linkage noexcept ref returned parameters) = refl
function_type_noted s _ = refl

pub type_moves : (own : Bool) (around : Around) (v : Value) (x : State) (y : value_.State) → Alongside x y →
    Moves own around x y (with_type around v x) (noted_.with_type (noted_around own around) (noted_value (around_place own around) v) y)
unfolding with_type noted_.with_type
type_moves own around v x y packs =
    let s = around_place own around in
    choose (Moves own around x y) (is_listed v) (value_.is_listed (noted_value s v)) _ _ _ _ (listed_noted s v)
    (λ h. moves_none own around x x y y refl refl packs) (λ h. one_moves own around (tree_of v) (value_.tree_of (noted_value s v)) x y packs (tree_noted s v))

pub unqualified_moves : (own : Bool) (around : Around) (v : Value) (x : State) (y : value_.State) → Alongside x y →
    Moves own around x y (with_unqualified around v x) (noted_.with_unqualified (noted_around own around) (noted_value (around_place own around) v) y)
unfolding with_unqualified noted_.with_unqualified
unqualified_moves own around v x y packs =
    let s = around_place own around in
    choose (Moves own around x y) (is_function_type (tree_of v)) (noted_.is_function_type (value_.tree_of (noted_value s v))) _ _ _ _
    (ap noted_.is_function_type (tree_noted s v) ∙ function_type_noted s (tree_of v))
    (λ h. moves_none own around x x y y refl refl packs) (λ h. type_moves own around v x y packs)

pub prefix_moves : (own : Bool) (around : Around) (x : State) (y : value_.State) → Alongside x y → Moves own around x y (with_prefix around x) (noted_.with_prefix (noted_around own around) y)
unfolding with_prefix noted_.with_prefix noted_around
prefix_moves own around x y packs =
    let s = around_place own around in
    let p = around.prefix in
    let t = value_.prefix_tree (noted_prefix s p) in
    choose (Moves own around x y) (prefix_listed p) (value_.prefix_listed (noted_prefix s p)) _ _ _ _ (prefix_listed_noted s p)
    (λ h. moves_none own around x x y y refl refl packs) (λ h. one_moves own around (prefix_tree p) t x y packs (prefix_tree_noted s p))

-- ## References

-- the candidates stay, and the packs are the same
pub record Kept (x : State) (y : value_.State) (a : State) (b : value_.State) : Type 0 where
  pub is : a.candidates ≡ x.candidates
  pub so : b.candidates ≡ y.candidates
  pub packs : Alongside a b

packs_kept : (place : ℕ) (inside : Bool) (o : Option ℕ) (x : State) (y : value_.State) → Alongside x y → Alike (Kept x y) (with_packs place inside o x) (noted_.with_packs place inside o y)
unfolding with_packs noted_.with_packs
packs_kept place inside None x y e = record { is = refl; so = refl; packs = e }
packs_kept place false (Some m) x y e = refl
packs_kept place true (Some m) x y e = go y.packs x.packs e.0
  where
    go : (q p : Option ℕ) → q ≡ p → Alike (Kept x y)
        (elim p [ None ↦ Ok (record x { packs = Some m }) | Some n ↦ elim (nat_eq m n) [ true ↦ Ok x | false ↦ Err (BadReference place) ] ])
        (elim q [ None ↦ Ok (record y { packs = Some m }) | Some n ↦ elim (nat_eq m n) [ true ↦ Ok y | false ↦ Err (BadReference place) ] ])
    go None None f = record { is = refl; so = refl; packs = (refl, e.1) }
    go (Some n) (Some k) f =
        let same : n ≡ k = cc in
        choose (Alike (Kept x y)) (nat_eq m k) (nat_eq m n) _ _ _ _ (ap (nat_eq m) same) (λ h. record { is = refl; so = refl; packs = e }) (λ h. refl)
    go None (Some k) f = absurd cc
    go (Some n) None f = absurd cc

abbrev pub AreNoted : (own : Bool) → Around → Option Candidate → Option value_.Candidate → Type 0
AreNoted own around None None = Unit {0}
AreNoted own around (Some c) (Some d) = IsNoted own around c d
AreNoted own around _ _ = ⊥

pub get_noted : (own : Bool) (around : Around) (cs : List Candidate) (ds : List value_.Candidate) (n : ℕ) → AllNoted own around cs ds → AreNoted own around (slice_get cs n) (slice_get ds n)
get_noted own around [] [] n all = tt
get_noted own around (c ∷ cs) (d ∷ ds) zero all = all.0
get_noted own around (c ∷ cs) (d ∷ ds) (suc n) all = get_noted own around cs ds n all.1
get_noted own around [] (d ∷ ds) n all = absurd all
get_noted own around (c ∷ cs) [] n all = absurd all

-- the value of a part, with arguments and without
pub record Comes (own : Bool) (around : Around) (x : State) (y : value_.State) (a : Found Value State) (b : Found value_.Value value_.State) : Type 0 where
  pub value : b.value ≡ noted_value (around_place own around) a.value
  pub moves : Moves own around x y a.state b.state

-- A candidate that may be named here has its arguments by the scope here: if it is open, it was made outside of any signature
-- whose parameters are the lambda's own.
abbrev pub IsOutside : (own : Bool) → Option Candidate → Type 0
IsOutside own None = Unit {0}
IsOutside own (Some c) = is_open c.tree ≡ true → own ≡ true → c.in_lambda ≡ false

noted_here : (own : Bool) (around : Around) (c : Candidate) (d : value_.Candidate) → IsNoted own around c d → (is_open c.tree ≡ true → own ≡ true → c.in_lambda ≡ false) → (is_open c.tree && (around.in_lambda || not (nat_eq c.encoding around.encoding))) ≡ false →
    d.tree ≡ annotate (around_place own around) c.tree
noted_here own around c d n outside e = go (is_open c.tree) around.in_lambda (nat_eq c.encoding around.encoding) refl refl refl e
  where
    go : (o l same : Bool) → is_open c.tree ≡ o → around.in_lambda ≡ l → nat_eq c.encoding around.encoding ≡ same → (o && (l || not same)) ≡ false → d.tree ≡ annotate (around_place own around) c.tree
    go false l same is-open is-lambda is-same h = n.closed is-open ∙ closed_noted nowhere (around_place own around) c.tree is-open
    go true true same is-open is-lambda is-same h = absurd cc
    go true false false is-open is-lambda is-same h = absurd cc
    go true false true is-open is-lambda is-same h = n.here (eqb-true c.encoding around.encoding is-same) is-lambda (outside is-open)

-- a tree that a reference names, once the tree's packs are as long as the earlier ones
found_noted : (own : Bool) (around : Around) (place : ℕ) (t : Term) (u : term_.Term) (m n : Option ℕ) (x : State) (y : value_.State) → u ≡ annotate (around_place own around) t → n ≡ m →
    Alongside x y → Alike (Comes own around x y)
    (with_packs place around.in_expansion m x >>= λ z. Ok (found (leaf_.tree t true) z)) (noted_.with_packs place around.in_expansion n y >>= λ z. Ok (found (value_.tree u true) z))
unfolding noted_value
found_noted own around place t u m n x y is e packs = subst (λ n. Alike (Comes own around x y)
    (with_packs place around.in_expansion m x >>= λ z. Ok (found (leaf_.tree t true) z)) (noted_.with_packs place around.in_expansion n y >>= λ z. Ok (found (value_.tree u true) z))) (sym e)
    (alike_bind (Kept x y) (Comes own around x y) (with_packs place around.in_expansion m x) (noted_.with_packs place around.in_expansion m y) (λ z. Ok (found (leaf_.tree t true) z))
    (λ z. Ok (found (value_.tree u true) z))
    (packs_kept place around.in_expansion m x y packs) (λ a b h kept. record { value = ap (λ v. value_.tree v true) is; moves = moves_none own around x a y b kept.is kept.so kept.packs }))

-- what is done with the arguments of the scope, if there are any
with_arguments : {A B : Type 0} (R : A → B → Type 0) (place : ℕ) (o : Option Term) (f : Term → Result A Refusal) (g : term_.Term → Result B Refusal) →
    ((arguments : Term) → o ≡ Some arguments → Alike R (f arguments) (g (annotate nowhere arguments))) →
    Alike R (elim o [ None ↦ Err (BadReference place) | Some arguments ↦ f arguments ]) (elim (noted_scope o) [ None ↦ Err (BadReference place) | Some arguments ↦ g arguments ])
unfolding noted_scope
with_arguments R place None f g each = refl
with_arguments R place (Some arguments) f g each = each arguments refl

pub module_noted : (s : Place) (t : Term) → noted_.is_module (annotate s t) ≡ is_module t
unfolding noted_.is_module is_module annotate
module_noted s (operation one two u w) = refl
module_noted s _ = refl

or_second : (b c : Bool) → (b || c) ≡ false → c ≡ false
or_second true c h = absurd (true≢false h)
or_second false c h = h

pub substituted_noted : (own : Bool) (around : Around) (place : ℕ) (o : Option Candidate) (p : Option value_.Candidate) (x : State) (y : value_.State) → Alongside x y → AreNoted own around o p → IsOutside own o →
    Alike (Comes own around x y) (substituted around place o x) (noted_.substituted (noted_around own around) place p y)
unfolding substituted noted_.substituted noted_around noted_value
substituted_noted own around place None None x y packs n outside = refl
substituted_noted own around place None (Some d) x y packs n outside = absurd n
substituted_noted own around place (Some c) None x y packs n outside = absurd n
substituted_noted own around place (Some c) (Some d) x y packs n outside =
    choose (Alike (Comes own around x y)) (is_module c.tree || (is_open c.tree && (around.in_lambda || not (nat_eq c.encoding around.encoding))))
    (noted_.is_module d.tree || (scope_.is_open d.tree && (around.in_lambda || not (nat_eq d.encoding around.encoding)))) _ _ _ _
    (three (λ m a k. m || (a && (around.in_lambda || not (nat_eq k around.encoding)))) (ap noted_.is_module n.like ∙ module_noted n.by c.tree) (ap scope_.is_open n.like ∙ open_noted n.by c.tree) n.encoding) (λ h. refl)
    (λ h.
    let is = noted_here own around c d n outside (or_second (is_module c.tree) (is_open c.tree && (around.in_lambda || not (nat_eq c.encoding around.encoding))) h) in
    found_noted own around place c.tree d.tree (packs_in around.scope c.tree) (scope_.pack_length d.tree) x y is
    (ap scope_.pack_length is ∙ packs_noted around.scope (own && around.in_lambda) c.tree) packs)

pub named_here : (own : Bool) (around : Around) (k : ℕ) (arguments : Term) → around.scope ≡ Some arguments → term_.parameter k (scope_.element (annotate nowhere arguments) k) ≡ annotate (around_place own around) (parameter k)
unfolding annotate argument_in place_in
named_here own around k arguments scope = ap (λ o. annotate (place_in o (own && around.in_lambda)) (parameter k)) (sym scope)

-- a parameter that is named, as a candidate
pub parameter_noted : (own : Bool) (around : Around) (place k : ℕ) (x : State) (y : value_.State) → Alongside x y →
    Alike (Moves own around x y) (parameter_named around place k x) (noted_.parameter_named (noted_around own around) place k y)
unfolding parameter_named noted_.parameter_named noted_around noted_scope
parameter_noted own around place k x y packs =
    with_arguments (Moves own around x y) place around.scope _ _ (λ arguments scope.
    choose (Alike (Moves own around x y)) (nat_lt k (count arguments)) (nat_lt k (scope_.count (annotate nowhere arguments))) _ _ _ _ (ap (nat_lt k) (count_noted nowhere arguments))
    (λ h. onward (length_if_pack (element arguments k)) (scope_.length_if_pack (scope_.element (annotate nowhere arguments) k))
    (ap scope_.length_if_pack (element_noted nowhere arguments k) ∙ length_noted nowhere (element arguments k)) (term_.parameter k (scope_.element (annotate nowhere arguments) k))
    (named_here own around k arguments scope)) (λ h. refl))
  where
    onward : (m n : Option ℕ) → n ≡ m → (u : term_.Term) → u ≡ annotate (around_place own around) (parameter k) → Alike (Moves own around x y)
        (with_packs place around.in_expansion m x >>= λ z. Ok (appended around (parameter k) z)) (noted_.with_packs place around.in_expansion n y >>= λ z. Ok (noted_.appended (noted_around own around) u z))
    onward m n e u is = subst (λ n. Alike (Moves own around x y)
        (with_packs place around.in_expansion m x >>= λ z. Ok (appended around (parameter k) z)) (noted_.with_packs place around.in_expansion n y >>= λ z. Ok (noted_.appended (noted_around own around) u z))) (sym e)
        (alike_bind (Kept x y) (Moves own around x y) (with_packs place around.in_expansion m x) (noted_.with_packs place around.in_expansion m y) (λ z. Ok (appended around (parameter k) z)) (λ z. Ok (noted_.appended (noted_around own around) u z))
        (packs_kept place around.in_expansion m x y packs)
        (λ a b h kept. moves_then own around x a (appended around (parameter k) a) y b (noted_.appended (noted_around own around) u b) (moves_none own around x a y b kept.is kept.so kept.packs) (one_moves own around (parameter k) u a b kept.packs is)))

-- ## The reading of the wide grammar

foreign_noted : (around : Around) (c : Candidate) (d : value_.Candidate) → IsNoted true around c d → wide_.is_foreign (noted_around true around) d ≡ is_foreign around c
unfolding wide_.is_foreign is_foreign noted_around
foreign_noted around c d n =
    three (λ a l k. a && (around.in_lambda || (l || not (nat_eq k around.encoding)))) (ap scope_.is_open n.like ∙ open_noted n.by c.tree) n.in_lambda n.encoding

-- no arguments are named in a signature
abbrev pub Settled : Around → Type 0
Settled around = around.in_lambda ≡ true → around.scope ≡ None

meant_by : (around : Around) (by : Place) (t : Term) (k : ℕ) → free_in t ≡ one_free k → (arguments : Term) → scope_.is_list (scope_.element (annotate nowhere arguments) k) ≡ false →
    reargued (Some (scope_.element (annotate nowhere arguments) k)) (annotate by t) ≡ annotate (place_in (Some arguments) false) t
unfolding place_in argument_in
meant_by around by t k one arguments alone =
    let a : term_.Term = scope_.element (annotate nowhere arguments) k in
    renoted (in_arguments (annotate nowhere arguments)) by a t (subst (λ f. NameThis (in_arguments (annotate nowhere arguments)) a f) (sym one) (sym (given_same a k alone)))

-- a tree under the scope, if the scope has an argument for each of the tree's parameters, and no pack
meant_under : (by : Place) (t : Term) (m : ℕ) → free_in t ≡ several_free m → (arguments : Term) → nat_lt m (scope_.count (annotate nowhere arguments)) ≡ true → scope_.has_pack (annotate nowhere arguments) ≡ false →
    reargued (Some (annotate nowhere arguments)) (annotate by t) ≡ annotate (place_in (Some arguments) false) t
unfolding place_in argument_in
meant_under by t m several arguments less none =
    let a : term_.Term = annotate nowhere arguments in
    renoted (in_arguments a) by a t (subst (λ f. NameThis (in_arguments a) a f) (sym several) (λ k. sym (given_element a m k less none)))

not_no : (b : Bool) → not b ≡ true → b ≡ false
not_no true e = absurd (true≢false (sym e))
not_no false e = refl

scope_place : (around : Around) (arguments : Term) → around.scope ≡ Some arguments → place_in (Some arguments) false ≡ around_place true around
unfolding place_in
scope_place around arguments scope = ap (λ o. place_in o around.in_lambda) (sym scope)

pub own_place : (around : Around) → around.scope ≡ None → around.in_lambda ≡ true → around_place true around ≡ in_own
unfolding place_in
own_place around none inside_ = both place_in none inside_

in_scope_noted : (around : Around) (place : ℕ) (by : Place) (t : Term) (k : ℕ) (x : State) (y : value_.State) → free_in t ≡ one_free k → Alongside x y →
    Alike (Comes true around x y) (in_scope around place t k x) (wide_.in_scope (noted_around true around) place (annotate by t) k y)
unfolding in_scope wide_.in_scope noted_around noted_scope noted_value packs_in
in_scope_noted around place by t k x y one packs =
    with_arguments (Comes true around x y) place around.scope _ _ (λ arguments scope.
    let a : term_.Term = scope_.element (annotate nowhere arguments) k in
    let same : (nat_lt k (scope_.count (annotate nowhere arguments)) && not (scope_.is_list a)) ≡ (nat_lt k (count arguments) && not (is_list (element arguments k))) =
    both (λ n b. nat_lt k n && not b) (count_noted nowhere arguments) (ap scope_.is_list (element_noted nowhere arguments k) ∙ is_list_noted nowhere (element arguments k)) in
    choose (Alike (Comes true around x y)) (nat_lt k (count arguments) && not (is_list (element arguments k)))
    (nat_lt k (scope_.count (annotate nowhere arguments)) && not (scope_.is_list a)) _ _ _ _ same
    (λ h.
    let is = meant_by around by t k one arguments (not_no (scope_.is_list a) (and_parts (nat_lt k (scope_.count (annotate nowhere arguments))) (not (scope_.is_list a)) (same ∙ h)).1) in
    found_noted true around place t (reargued (Some a) (annotate by t)) (pack_length arguments t) (scope_.pack_length (reargued (Some a) (annotate by t))) x y
    (is ∙ ap (λ s. annotate s t) (scope_place around arguments scope)) (ap scope_.pack_length is ∙ packs_noted (Some arguments) false t) packs) (λ h. refl))

under_scope_noted : (around : Around) (place : ℕ) (by : Place) (t : Term) (m : ℕ) (x : State) (y : value_.State) → free_in t ≡ several_free m → Alongside x y →
    Alike (Comes true around x y) (under_scope around place t m x) (wide_.under_scope (noted_around true around) place (annotate by t) m y)
unfolding under_scope wide_.under_scope noted_around noted_scope noted_value
under_scope_noted around place by t m x y several packs =
    with_arguments (Comes true around x y) place around.scope _ _ (λ arguments scope.
    let given : term_.Term = annotate nowhere arguments in
    let same : (nat_lt m (scope_.count given) && not (scope_.has_pack given)) ≡ (nat_lt m (count arguments) && not (has_pack arguments)) =
    both (λ n b. nat_lt m n && not b) (count_noted nowhere arguments) (pack_noted nowhere arguments) in
    choose (Alike (Comes true around x y)) (nat_lt m (count arguments) && not (has_pack arguments)) (nat_lt m (scope_.count given) && not (scope_.has_pack given)) _ _ _ _ same
    (λ h.
    let parts = and_parts (nat_lt m (scope_.count given)) (not (scope_.has_pack given)) (same ∙ h) in
    record {
      value = ap (λ u. value_.tree u true) (meant_under by t m several arguments parts.0 (not_no (scope_.has_pack given) parts.1) ∙ ap (λ s. annotate s t) (scope_place around arguments scope));
      moves = moves_none true around x x y y refl refl packs;
    }) (λ h. refl))

own_names : (f : Free) → NameThis in_own item_.auto f
unfolding argument_in given_for
own_names none_free = tt
own_names (one_free k) = refl
own_names (several_free m) = λ k. refl

free_noted_bad : (f : Free) (around : Around) (place : ℕ) (by : Place) (t : Term) (x : State) (y : value_.State) → free_in t ≡ f → Alongside x y →
    Alike (Comes true around x y) (with_free f around place t x) (wide_.with_free f (noted_around true around) place (annotate by t) y)
unfolding with_free wide_.with_free
free_noted_bad none_free around place by t x y e packs = refl
free_noted_bad (one_free k) around place by t x y e packs = in_scope_noted around place by t k x y e packs
free_noted_bad (several_free m) around place by t x y e packs = under_scope_noted around place by t m x y e packs

restated_noted : (around : Around) (place : ℕ) (by : Place) (t : Term) (x : State) (y : value_.State) → Settled around → Alongside x y →
    Alike (Comes true around x y) (restated around place t x) (wide_.restated (noted_around true around) place (annotate by t) y)
unfolding restated wide_.restated noted_around noted_value
restated_noted around place by t x y settled packs =
    choose (Alike (Comes true around x y)) around.in_lambda around.in_lambda _ _ _ _ refl (λ is. record { value = ap (λ u. value_.tree u true) (inside_ is); moves = moves_none true around x x y y refl refl packs })
    (λ is. subst (λ f. Alike (Comes true around x y) (with_free (free_in t) around place t x) (wide_.with_free f (noted_around true around) place (annotate by t) y)) (sym (free_noted by t))
    (free_noted_bad (free_in t) around place by t x y refl packs))
  where
    inside_ : around.in_lambda ≡ true → reargued (Some item_.auto) (annotate by t) ≡ annotate (around_place true around) t
    inside_ l = renoted in_own by item_.auto t (own_names (free_in t)) ∙ ap (λ s. annotate s t) (sym (own_place around (settled l) l))

wide_substituted_noted : (around : Around) (place : ℕ) (o : Option Candidate) (p : Option value_.Candidate) (x : State) (y : value_.State) → Settled around → Alongside x y → AreNoted true around o p →
    Alike (Comes true around x y) (substituted_wide around place o x) (wide_.substituted_wide (noted_around true around) place p y)
unfolding substituted_wide wide_.substituted_wide is_foreign
wide_substituted_noted around place None None x y settled packs n = refl
wide_substituted_noted around place None (Some d) x y settled packs n = absurd n
wide_substituted_noted around place (Some c) None x y settled packs n = absurd n
wide_substituted_noted around place (Some c) (Some d) x y settled packs n =
    choose (Alike (Comes true around x y)) (is_foreign around c) (wide_.is_foreign (noted_around true around) d) _ _ _ _ (foreign_noted around c d n)
    (λ is. subst (λ u. Alike (Comes true around x y) (restated around place c.tree x) (wide_.restated (noted_around true around) place u y)) (sym n.like)
    (restated_noted around place n.by c.tree x y settled packs))
    (λ is. substituted_noted true around place (Some c) (Some d) x y packs n (λ opens o. outside (is_open c.tree) around.in_lambda c.in_lambda (not (nat_eq c.encoding around.encoding)) is opens))
  where
    outside : (o l m other : Bool) → (o && (l || (m || other))) ≡ false → o ≡ true → m ≡ false
    outside true false false other h opens = refl
    outside true false true other h opens = absurd (true≢false h)
    outside true true m other h opens = absurd (true≢false h)
    outside false l m other h opens = absurd (false≢true opens)

newer_noted : (own : Bool) (around : Around) (cs : List Candidate) (ds : List value_.Candidate) → AllNoted own around cs ds → wide_.is_before_holder ds ≡ is_before_holder cs
unfolding is_before_holder wide_.is_before_holder
newer_noted own around [] [] all = refl
newer_noted own around (c ∷ cs) (d ∷ ds) all = ap is_by_newer all.0.counted
newer_noted own around [] (d ∷ ds) all = absurd all
newer_noted own around (c ∷ cs) [] all = absurd all

listed_alike : (is_shorter own : Bool) (around : Around) (c : Candidate) (d : value_.Candidate) (cs : List Candidate) (ds : List value_.Candidate) → d.counted ≡ c.counted → AllNoted own around cs ds →
    wide_.is_in_list is_shorter d ds ≡ is_in_list is_shorter c cs
unfolding is_in_list wide_.is_in_list
listed_alike is_shorter own around c d cs ds counted all = both (λ b k. not b && (not is_shorter || is_by_all k)) (newer_noted own around cs ds all) counted

place_noted : (is_shorter own : Bool) (around : Around) (cs : List Candidate) (ds : List value_.Candidate) (number : ℕ) → AllNoted own around cs ds → wide_.place_in is_shorter ds number ≡ rescoping_.place_in is_shorter cs number
unfolding rescoping_.place_in wide_.place_in
place_noted is_shorter own around [] [] number all = refl
place_noted is_shorter own around (c ∷ cs) (d ∷ ds) zero all =
    both (λ b k. elim b [ false ↦ suc k | true ↦ zero ]) (listed_alike is_shorter own around c d cs ds all.0.counted all.1) (place_noted is_shorter own around cs ds zero all.1)
place_noted is_shorter own around (c ∷ cs) (d ∷ ds) (suc number) all =
    three (λ b k n. elim b [ false ↦ suc k | true ↦ suc n ]) (listed_alike is_shorter own around c d cs ds all.0.counted all.1) (place_noted is_shorter own around cs ds (suc number) all.1) (place_noted is_shorter own around cs ds number all.1)
place_noted is_shorter own around [] (d ∷ ds) number all = absurd all
place_noted is_shorter own around (c ∷ cs) [] number all = absurd all

named_in_noted : (is_shorter own : Bool) (around : Around) (cs : List Candidate) (ds : List value_.Candidate) (number : ℕ) → AllNoted own around cs ds → AreNoted own around (named_in is_shorter cs number) (wide_.named_in is_shorter ds number)
unfolding named_in wide_.named_in
named_in_noted is_shorter own around cs ds number all =
    subst (λ n. AreNoted own around (slice_get cs (rescoping_.place_in is_shorter cs number)) (slice_get ds n)) (sym (place_noted is_shorter own around cs ds number all)) (get_noted own around cs ds (rescoping_.place_in is_shorter cs number) all)

pub both_named_noted : (own : Bool) (around : Around) (cs : List Candidate) (ds : List value_.Candidate) (number : ℕ) → AllNoted own around cs ds → AreNoted own around (named_by_both cs number) (wide_.named_by_both ds number)
unfolding named_by_both wide_.named_by_both
both_named_noted own around cs ds number all =
    choose (AreNoted own around) (nat_eq (rescoping_.place_in false cs number) (rescoping_.place_in true cs number)) (nat_eq (wide_.place_in false ds number) (wide_.place_in true ds number)) _ _ _ _
    (both nat_eq (place_noted false own around cs ds number all) (place_noted true own around cs ds number all)) (λ h. named_in_noted false own around cs ds number all) (λ h. tt)

counted_noted : (own : Bool) (around : Around) (before : Counted) (cs : List Candidate) (ds : List value_.Candidate) → AllNoted own around cs ds → wide_.counted_so_far before ds ≡ counted_so_far before cs
unfolding counted_so_far wide_.counted_so_far
counted_noted own around before [] [] all = refl
counted_noted own around before (c ∷ cs) (d ∷ ds) all =
    ap (λ k. wide_.counted_so_far (joined before k) ds) all.0.counted ∙ counted_noted own around (joined before c.counted) cs ds all.1
counted_noted own around before [] (d ∷ ds) all = absurd all
counted_noted own around before (c ∷ cs) [] all = absurd all

fits_noted : (is_prefix is_qualified : Bool) (s : Place) (t : Term) → wide_.fits is_prefix is_qualified (annotate s t) ≡ fits is_prefix is_qualified t
unfolding fits wide_.fits annotate
fits_noted is_prefix is_qualified s (holder name) = refl
fits_noted is_prefix is_qualified s _ = refl

can_noted : (own : Bool) (around : Around) (expected : Expected) (place : ℕ) (o : Option Candidate) (p : Option value_.Candidate) → AreNoted own around o p → wide_.can_be_named expected place p ≡ can_be_named expected place o
unfolding can_be_named wide_.can_be_named
can_noted own around expected place None None n = refl
can_noted own around expected place (Some c) (Some d) n =
    ap (wide_.fits (is_prefix_at place expected) (is_qualified_at place expected)) n.like ∙ fits_noted (is_prefix_at place expected) (is_qualified_at place expected) n.by c.tree
can_noted own around expected place None (Some d) n = absurd n
can_noted own around expected place (Some c) None n = absurd n

has_noted : (own : Bool) (around : Around) (expected : Expected) (place : ℕ) (o : Option Candidate) (p : Option value_.Candidate) → AreNoted own around o p → wide_.has_head expected place p ≡ has_head expected place o
unfolding has_head wide_.has_head
has_noted own around expected place None None n = refl
has_noted own around expected place (Some c) (Some d) n = ap (λ t. may_be (head_at place expected) (wide_.head_of t)) n.like ∙ ap (may_be (head_at place expected)) (head_noted n.by c.tree)
has_noted own around expected place None (Some d) n = absurd n
has_noted own around expected place (Some c) None n = absurd n

left_noted : (own : Bool) (around : Around) (place number : ℕ) (x : State) (y : value_.State) → Same own around x y → wide_.left_at place number y ≡ left_at place number x
unfolding left_at wide_.left_at
left_noted own around place number x y same =
    let can : (is_shorter : Bool) → wide_.can_be_named y.counting.expected place (wide_.named_in is_shorter y.candidates number) ≡ can_be_named x.counting.expected place (named_in is_shorter x.candidates number) =
    λ is_shorter. ap (λ g. wide_.can_be_named g.expected place (wide_.named_in is_shorter y.candidates number)) same.packs.1
    ∙ can_noted own around x.counting.expected place (named_in is_shorter x.candidates number) (wide_.named_in is_shorter y.candidates number) (named_in_noted is_shorter own around x.candidates y.candidates number same.all) in
    let has : (is_shorter : Bool) → wide_.has_head y.counting.expected place (wide_.named_in is_shorter y.candidates number) ≡ has_head x.counting.expected place (named_in is_shorter x.candidates number) =
    λ is_shorter. ap (λ g. wide_.has_head g.expected place (wide_.named_in is_shorter y.candidates number)) same.packs.1
    ∙ has_noted own around x.counting.expected place (named_in is_shorter x.candidates number) (wide_.named_in is_shorter y.candidates number) (named_in_noted is_shorter own around x.candidates y.candidates number same.all) in
    let longer : Bool = can_be_named x.counting.expected place (named_in false x.candidates number) in
    let shorter : Bool = can_be_named x.counting.expected place (named_in true x.candidates number) in
    both (λ k l. elim (is_by_some k) [ true ↦ no_list | false ↦ l ]) (counted_noted own around by_all x.candidates y.candidates same.all)
    (three (λ g a b. left_by g.lists a b (wide_.has_head y.counting.expected place (wide_.named_in false y.candidates number)) (wide_.has_head y.counting.expected place (wide_.named_in true y.candidates number))) same.packs.1 (can false) (can true)
    ∙ both (λ a b. left_by x.counting.lists longer shorter a b) (has false) (has true))

listed_by_noted : (lists : Lists) (around : Around) (place number : ℕ) (x : State) (y : value_.State) → Settled around → Same true around x y →
    Alike (Comes true around x y) (listed_by lists around place number x) (wide_.listed_by lists (noted_around true around) place number y)
unfolding listed_by wide_.listed_by
listed_by_noted longer_list around place number x y settled same =
    wide_substituted_noted around place (named_in false x.candidates number) (wide_.named_in false y.candidates number) x y settled same.packs (named_in_noted false true around x.candidates y.candidates number same.all)
listed_by_noted shorter_list around place number x y settled same =
    wide_substituted_noted around place (named_in true x.candidates number) (wide_.named_in true y.candidates number) x y settled same.packs (named_in_noted true true around x.candidates y.candidates number same.all)
listed_by_noted both_lists around place number x y settled same = refl
listed_by_noted no_list around place number x y settled same = refl

-- a number names the same candidate with arguments and without
pub wide_numbered_noted : (around : Around) (place number : ℕ) (x : State) (y : value_.State) → Settled around → Same true around x y →
    Alike (Comes true around x y) (numbered around place number x) (wide_.numbered (noted_around true around) place number y)
unfolding numbered wide_.numbered with_lists wide_.with_lists
wide_numbered_noted around place number x y settled same =
    let cs = x.candidates in
    let ds = y.candidates in
    choose (Alike (Comes true around x y)) (nat_eq (rescoping_.place_in false cs number) (rescoping_.place_in true cs number)) (nat_eq (wide_.place_in false ds number) (wide_.place_in true ds number)) _ _ _ _
    (both nat_eq (place_noted false true around cs ds number same.all) (place_noted true true around cs ds number same.all))
    (λ h. wide_substituted_noted around place (named_in false cs number) (wide_.named_in false ds number) x y settled same.packs (named_in_noted false true around cs ds number same.all))
    (λ h. apart (left_at place number x) (wide_.left_at place number y) (left_noted true around place number x y same))
  where
    narrowed : (lists : Lists) → Same true around (with_lists lists x) (wide_.with_lists lists y)
    narrowed lists = record { packs = (same.packs.0, ap {A = Counting} (λ g. record g { lists = lists }) same.packs.1); all = same.all }

    apart : (lists others : Lists) → others ≡ lists → Alike (Comes true around x y) (listed_by lists around place number (with_lists lists x)) (wide_.listed_by others (noted_around true around) place number (wide_.with_lists others y))
    apart lists others is =
        subst (λ l. Alike (Comes true around x y) (listed_by lists around place number (with_lists lists x)) (wide_.listed_by l (noted_around true around) place number (wide_.with_lists l y))) (sym is)
        (same_comes (listed_by lists around place number (with_lists lists x)) (wide_.listed_by lists (noted_around true around) place number (wide_.with_lists lists y))
        (listed_by_noted lists around place number (with_lists lists x) (wide_.with_lists lists y) settled (narrowed lists)))
      where
        -- the candidates are those of the earlier states
        same_comes : (a : Result (Found Value State) Refusal) (b : Result (Found value_.Value value_.State) Refusal) → Alike (Comes true around (with_lists lists x) (wide_.with_lists lists y)) a b → Alike (Comes true around x y) a b
        same_comes (Ok a) (Ok b) r = record { value = r.value; moves = record { more = r.moves.more; others = r.moves.others; is = r.moves.is; so = r.moves.so; each = r.moves.each; packs = r.moves.packs } }
        same_comes (Err e) (Err f) r = r
        same_comes (Ok a) (Err f) r = absurd r
        same_comes (Err e) (Ok b) r = absurd r

pub noting_moves : (own : Bool) (around : Around) (c d : Counting) (x : State) (y : value_.State) → d ≡ c → Same own around x y → Moves own around x y (noting c x) (wide_.noting d y)
unfolding noting wide_.noting
noting_moves own around c d x y is same =
    choose (Moves own around x y) (is_by_all (counted_so_far by_all x.candidates)) (is_by_all (wide_.counted_so_far by_all y.candidates)) _ _ _ _ (ap is_by_all (counted_noted own around by_all x.candidates y.candidates same.all))
    (λ h. moves_none own around x x y y refl refl same.packs)
    (λ h. moves_none own around x (record x { counting = c }) y (record y { counting = d }) refl refl (same.packs.0, is))
