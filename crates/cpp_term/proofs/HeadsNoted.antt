-- What annotating keeps in a context: packs, arguments, heads, and which elements are empty.
use Rattle.cpp_term.proofs.Basics.{◌≡◌, refl, ap, sym, ◌∙◌, cond, ℕ, Bool, true, false, ◌&&◌, Option, Some, None, Term, parameter, rvalue, qualified, expansion, pack, list, absent, declaring, element, arguments_of, Free, none_free, one_free, several_free, free_in, pack_length, Signature, in_none, undeclared, declared_in, Context, auto, indexed, own_argument, argument, Head, lref, collapsed, head_with, head_closed, head, packs_of, is_none_of, is_empty, packs_in, given_for, reargued, bare, Place, nowhere, in_own, in_declared, place_of, place_in, place_within, argument_in, annotate, context_place, noted_context}
use Rattle.cpp_term.specs.Term as term_
use Rattle.cpp_term.specs.Scope as scope_
use Rattle.cpp_term.specs.Items as item_
use Rattle.cpp_term.proofs.Reargued.{pack_reargued}
use Rattle.cpp_term.proofs.Notes.{both, element_noted, types_place, NameThis, renoted, packs_noted}

-- ## Packs

-- what the parameters in an encoding's types name
pub within_types : (name : Term) → place_of (scope_.arguments_of (annotate nowhere name)) ≡ place_within (arguments_of name) in_none
unfolding place_in place_within
within_types name = types_place name ∙ same (arguments_of name)
  where
    same : (o : Option Term) → place_in o false ≡ place_within o in_none
    same None = refl
    same (Some arguments) = refl

-- a tree that is re-read under a signature that declares parameters is annotated under that signature
pub declared_noted : (heads parameters t : Term) → reargued (Some (annotate in_own (declaring heads parameters))) (annotate in_own t) ≡ annotate (in_declared (annotate in_own (declaring heads parameters))) t
unfolding annotate argument_in given_for
declared_noted heads parameters t = renoted (in_declared s) in_own s t (names (free_in t))
  where
    s : term_.Term
    s = term_.declaring (annotate in_own heads) (annotate in_own parameters)

    names : (x : Free) → NameThis (in_declared s) s x
    names none_free = tt
    names (one_free k) = refl
    names (several_free m) = λ k. refl

cond_none : (b : Bool) → ◌≡◌ {A = Option ℕ} (cond b None None) None
cond_none true = refl
cond_none false = refl

-- without a scope, no tree has packs in any signature
packs_within : (s : Signature) (t : Term) → scope_.pack_length (annotate (place_within None s) t) ≡ None
unfolding place_within place_in packs_in annotate scope_.length_if_pack
packs_within in_none t = packs_noted None false t
packs_within undeclared t = packs_noted None true t
packs_within (declared_in heads parameters) t =
    ap scope_.pack_length (sym (declared_noted heads parameters t)) ∙ pack_reargued (annotate in_own (declaring heads parameters)) (annotate in_own t) ∙ cond_none (bare (annotate in_own t))

pub packs_of_noted : (c : Context) (t : Term) → item_.packs_of (noted_context c) (annotate (context_place c) t) ≡ packs_of c t
unfolding packs_of item_.packs_of packs_in place_in place_within
packs_of_noted c t = go c.scope
  where
    go : (o : Option Term) → scope_.pack_length (annotate (place_within o c.in_signature) t) ≡ elim o [ None ↦ None | Some arguments ↦ pack_length arguments t ]
    go None = packs_within c.in_signature t
    go (Some arguments) = packs_noted (Some arguments) false t

-- ## Arguments and heads

pub indexed_noted : (s : Place) (index : Option ℕ) (t : Term) → item_.indexed index (annotate s t) ≡ annotate s (indexed index t)
unfolding item_.indexed indexed annotate
indexed_noted s None t = refl
indexed_noted s (Some i) (pack elements) = element_noted s elements i
indexed_noted s (Some i) _ = refl

-- an argument of a scope; if it is a pack, the pack's element at the index
pub argument_noted : (index : Option ℕ) (arguments : Term) (k : ℕ) → item_.indexed index (scope_.element (annotate nowhere arguments) k) ≡ annotate nowhere (indexed index (element arguments k))
argument_noted index arguments k = ap (item_.indexed index) (element_noted nowhere arguments k) ∙ indexed_noted nowhere index (element arguments k)

collapsed_twice : (h : Head) → collapsed h ≡ collapsed (collapsed h)
unfolding collapsed
collapsed_twice lref = refl
collapsed_twice _ = refl

collapsed_head : (index : Option ℕ) (x : item_.HeadClass) → item_.head_of_class index (item_.collapsed_class x) ≡ collapsed (item_.head_of_class index x)
unfolding item_.head_of_class item_.collapsed_class
collapsed_head index (item_.known h) = refl
collapsed_head index (item_.of_element elements) = refl
collapsed_head index (item_.collapsed_of_element elements) = collapsed_twice (item_.element_head index elements)

collapsed_plain : (x : item_.HeadClass) → item_.plain_class (item_.collapsed_class x) ≡ collapsed (item_.plain_class x)
unfolding item_.plain_class item_.collapsed_class collapsed
collapsed_plain (item_.known h) = refl
collapsed_plain (item_.of_element elements) = refl
collapsed_plain (item_.collapsed_of_element elements) = refl

-- the head of a tree in which nothing is named
closed_head : (index : Option ℕ) (t : Term) → item_.head_of_class index (item_.class_of (annotate nowhere t)) ≡ head_closed t
unfolding item_.class_of item_.head_of_class head_closed head_with annotate argument_in
closed_head index (rvalue t) = collapsed_head index (item_.class_of (annotate nowhere t)) ∙ ap collapsed (closed_head index t)
closed_head index (qualified q t) = closed_head index t
closed_head index (parameter k) = refl
closed_head index _ = refl

plain_head_noted : (t : Term) → item_.plain_class (item_.class_of (annotate nowhere t)) ≡ head_closed t
unfolding item_.class_of item_.plain_class head_closed head_with annotate argument_in
plain_head_noted (rvalue t) = collapsed_plain (item_.class_of (annotate nowhere t)) ∙ ap collapsed (plain_head_noted t)
plain_head_noted (qualified q t) = plain_head_noted t
plain_head_noted (parameter k) = refl
plain_head_noted _ = refl

element_head_noted : (index : Option ℕ) (elements : Term) → item_.element_head index (annotate nowhere elements) ≡ head_closed (indexed index (pack elements))
unfolding item_.element_head indexed head_closed item_.head_of_class head_with item_.class_of annotate
element_head_noted None elements = refl
element_head_noted (Some i) elements = ap (λ t. item_.plain_class (item_.class_of t)) (element_noted nowhere elements i) ∙ plain_head_noted (element elements i)

parameter_head : (index : Option ℕ) (k : ℕ) (t : Term) → item_.head_of_class index (item_.class_of (term_.parameter k (annotate nowhere t))) ≡ head_closed (indexed index t)
unfolding item_.class_of indexed annotate item_.head_of_class
parameter_head index k (pack elements) = element_head_noted index elements
parameter_head None k t = closed_head None t
parameter_head (Some i) k t = closed_head (Some i) t

head_named : (c : Context) (k : ℕ) → item_.head_of_class c.index (item_.class_of (term_.parameter k (argument_in (context_place c) k))) ≡ head_closed (argument c k)
unfolding argument indexed argument_in annotate place_within own_argument item_.class_of item_.head_of_class head_closed head_with
head_named c k = go c.scope
  where
    none : (index : Option ℕ) (s : Signature) → item_.head_of_class index (item_.class_of (term_.parameter k (argument_in (place_within None s) k))) ≡ head_closed (own_argument s)
    none None undeclared = parameter_head None k auto
    none (Some i) undeclared = parameter_head (Some i) k auto
    none None in_none = parameter_head None k absent
    none (Some i) in_none = parameter_head (Some i) k absent
    none index (declared_in heads parameters) = refl

    go : (o : Option Term) → item_.head_of_class c.index (item_.class_of (term_.parameter k (argument_in (place_within o c.in_signature) k))) ≡ head_closed (elim o [
      | None ↦ own_argument c.in_signature
      | Some arguments ↦ indexed c.index (element arguments k)
    ])
    go None = none c.index c.in_signature
    go (Some arguments) =
        ap (λ a. item_.head_of_class c.index (item_.class_of (term_.parameter k a))) (element_noted nowhere arguments k) ∙ parameter_head c.index k (element arguments k)

pub head_noted : (c : Context) (t : Term) → item_.head (noted_context c) (annotate (context_place c) t) ≡ head c t
unfolding item_.head head noted_context item_.class_of item_.head_of_class head_with annotate
head_noted c (rvalue t) = collapsed_head c.index (item_.class_of (annotate (context_place c) t)) ∙ ap collapsed (head_noted c t)
head_noted c (qualified q t) = head_noted c t
head_noted c (parameter k) = head_named c k
head_noted c _ = refl

pub empty_noted : (c : Context) (t : Term) → item_.is_empty (noted_context c) (annotate (context_place c) t) ≡ is_empty c t
unfolding item_.is_empty is_empty annotate
empty_noted c (expansion pattern) = ap is_none_of (packs_of_noted c pattern)
empty_noted c (pack elements) = empty_noted c elements
empty_noted c (list e rest) = both (λ x y. x && y) (empty_noted c e) (empty_noted c rest)
empty_noted c _ = refl
