-- Types that are made of another type (pointers, references and constant types), and parameters that name such a type.
use Rattle.cpp_direct.proofs.Basics.{absent, arguments_of, as_item, attached_parts, before_piece, closing_right, component_parts, declaring, Detail, element, function_type, has_arguments, is_function_type, is_module, is_open, is_plain_integer, is_void, last_piece, left_parts, length_if_pack, lvalue, marked_parts, nil, not_empty, opening_text, operation, pack_length, parameter, parameter_parts, parts_in, piece_parts, pointer, prefix_item, qualified, qualified_left, qualified_right, qualifier_text, Qualifiers, reference_parts, right_parts, rvalue, says, Term, text_part, types_of, text, IsElementIn, Prints, PrintsAround, PrintsIn, PrintsGiven, PrintsAs, Names, IsGiven, AreSingle, EndsAsInteger, joined_to, written_of, IsUnmarked, unmarked_parts, written_in, closed, Form, left, right, low, Context, Head, lref, collapsed, head_with, head, is_reference, is_funarr, is_empty, argument, head_closed, indexed, own_argument, ◌≡◌, refl, ap, ◌∙◌, ℕ, ◌+◌, ◌*◌, ◌≤◌, List, [], ◌∷◌, ◌++◌, length, Bool, true, false, nat_eq, None, arith, codes, length-append, sym, subst, append-nil, Some, text_of, cost_of}
use Rattle.cpp_direct.proofs.PrintedParts.{text_shown, cost_shown, alone_shown, first_cost_shown}
use Rattle.cpp_direct.specs.Prints.{Named}
use Rattle.cpp_grammar.specs.Items.{piece}
use Prim.Native.String.{String}

marked : (c : Context) (t : Term) (mark : String) → is_funarr (head c t) ≡ false → marked_parts c t mark ≡ as_item left c t ∷ says mark ∷ []
unfolding marked_parts
marked c t mark e = rw (e, marked_parts) refl

reference : (c : Context) (form : Form) (t : Term) (mark : String) → is_reference (head c t) ≡ false → is_funarr (head c t) ≡ false
    → reference_parts c form t mark ≡ as_item left c t ∷ says mark ∷ []
unfolding reference_parts marked_parts
reference c form t mark e f = rw (e, reference_parts) (marked c t mark f)

closing : (c : Context) (t : Term) → is_funarr (head c t) ≡ false → closing_right c t ≡ as_item right c t ∷ []
unfolding closing_right
closing c t e = rw (e, closing_right) refl

-- a tree that prints as a prefix before colons is no module
pub no-module : (t : Term) → ((c : Context) (p : Term) → component_parts c t p ≡ joined_to left c c t p) → is_module t ≡ false
unfolding is_module component_parts attached_parts before_piece
no-module (operation a b x y) joined = go (nat_eq a 87) (nat_eq b 64) x (joined closed nil)
  where
    go : (first second : Bool) (x : Term) → elim first [
      | true ↦ elim second [ true ↦ attached_parts closed x nil y | false ↦ attached_parts closed absent nil (operation a b x y) ]
      | false ↦ prefix_item closed (operation a b x y) ∷ says "::" ∷ as_item piece closed nil ∷ []
    ] ≡ joined_to left closed closed (operation a b x y) nil → first ≡ false
    go false second x e = refl
    go true false x e = cc e
    go true true absent e = cc e
    go true true _ e = cc e
no-module _ joined = refl

-- What prints anywhere prints in a context.
pub prints-in : {detail : Detail} (c : Context) (extra : ℕ) (t : Term) (b : List ℕ) (r : Bool) → Prints detail t b r → PrintsIn detail c extra t b r
prints-in c extra t b r p = record {
  left_text = p.left_text c;
  right_text = p.right_text c;
  cost = omega (arith, p.cost c);
  is_reference_head = p.is_reference_head c;
  is_funarr_head = p.is_funarr_head c;
  filled = p.filled c;
  no_function = p.no_function;
  void = p.void;
  some = omega (arith, p.cost c);
}

-- A tree that prints in each context prints anywhere, if it is closed and names no packs.
pub made-prints : {detail : Detail} (t : Term) (b : List ℕ) (r : Bool) → ((c : Context) → PrintsIn detail c 0 t b r) → is_open t ≡ false
    → ((scope : Term) → pack_length scope t ≡ None)
    → length_if_pack t ≡ None → ((c : Context) (p : Term) → component_parts c t p ≡ joined_to left c c t p) → opening_text (last_piece t) ≡ codes "<"
    → (is_plain_integer t ≡ true → EndsAsInteger b)
    → (r ≡ true → (c : Context) → 2 + cost_of (written_of detail left c t) + cost_of (written_of detail right c t) ≤ 4 * length b) → Prints detail t b r
made-prints t b r h is_closed packless no_pack as_prefix opening integer reference_cost = record {
  left_text = λ c. (h c).left_text;
  right_text = λ c. (h c).right_text;
  cost = λ c. omega (arith, (h c).cost);
  is_reference_head = λ c. (h c).is_reference_head;
  is_funarr_head = λ c. (h c).is_funarr_head;
  filled = λ c. (h c).filled;
  is_closed = is_closed;
  packless = packless;
  no_function = (h closed).no_function;
  no_pack = no_pack;
  reference_cost = reference_cost;
  as_prefix = as_prefix;
  opening = opening;
  void = (h closed).void;
  integer = integer;
}

-- A tree that prints in each context where parameters name arguments with these texts prints as `PrintsGiven` says.
pub made-given : {detail : Detail} (names : Names) (t : Term) (b : List ℕ) (r : Bool) → ((c : Context) → IsGiven detail names c → PrintsIn detail c 3 t b r)
    → ((arguments : Term) → AreSingle names arguments → pack_length arguments t ≡ None) → is_function_type t ≡ false → length_if_pack t ≡ None
    → ((c : Context) (p : Term) → component_parts c t p ≡ joined_to left c c t p) → opening_text (last_piece t) ≡ codes "<" → PrintsGiven detail names t b r
made-given names t b r prints packless no_function no_pack as_prefix opening =
    record { prints = prints; packless = packless; no_function = no_function; no_pack = no_pack; as_prefix = as_prefix; opening = opening }

-- ## Where parameters name arguments with these texts

-- What prints anywhere prints where parameters name arguments with these texts.
pub prints-given : {detail : Detail} (names : Names) (t : Term) (b : List ℕ) (r : Bool) → Prints detail t b r → PrintsGiven detail names t b r
prints-given names t b r p =
    made-given names t b r (λ c given. prints-in c 3 t b r p) (λ arguments single. p.packless arguments) p.no_function p.no_pack p.as_prefix p.opening

pub prints-as : (detail : Detail) (names : Names) (is_dependent : Bool) (t : Term) (b : List ℕ) (r : Bool) → Prints detail t b r
    → PrintsAs detail names is_dependent t b r
prints-as detail names false t b r p = p
prints-as detail names true t b r p = prints-given names t b r p

pub prints-as-given : (detail : Detail) (names : Names) (is_dependent : Bool) (t : Term) (b : List ℕ) (r : Bool) → PrintsAs detail names is_dependent t b r
    → PrintsGiven detail names t b r
prints-as-given detail names false t b r p = prints-given names t b r p
prints-as-given detail names true t b r p = p

-- In a context where parameters name arguments with these texts, a tree prints its text.
pub as-in : (detail : Detail) (names : Names) (is_dependent : Bool) (c : Context) (t : Term) (b : List ℕ) (r : Bool) → IsGiven detail names c
    → PrintsAs detail names is_dependent t b r → PrintsIn detail c 3 t b r
as-in detail names is_dependent c t b r given p = (prints-as-given detail names is_dependent t b r p).prints c given

-- If a function's arguments have these texts, parameters in the function's types name arguments with these texts.
pub types-given : {detail : Detail} (names : Names) (name all : Term) → arguments_of name ≡ Some all
    → ((k : ℕ) (n : Named) → names k ≡ Some n → (own : Term) × (element all k ≡ own) × Prints detail own n.bytes n.reference) → IsGiven detail names (types_of name)
unfolding argument types_of indexed
types-given {detail} names name all e known k n is =
    let own = known k n is in
    let there : argument (types_of name) k ≡ own.0 = rw e own.1 in
    subst (λ t. Prints detail t n.bytes n.reference) (sym there) own.2

-- ## Marks

-- A type prints the left text of another type, a mark, and then the right text of that other type.
record IsMarked (detail : Detail) (c : Context) (t made : Term) (mark : List ℕ) : Type 0 where
  pub left_is : parts_in detail c left made ≡ as_item left c t ∷ text mark ∷ []
  pub right_is : parts_in detail c right made ≡ as_item right c t ∷ []
  pub written : written_in detail c left made ≡ unmarked_parts (has_arguments detail) (parts_in detail c left made)
  pub plain : IsUnmarked mark
  pub some : 1 ≤ length mark

marked-cost : {detail : Detail} (c : Context) (t made : Term) (mark : List ℕ) → IsMarked detail c t made mark
    → cost_of (written_of detail left c made) + cost_of (written_of detail right c made)
    ≡ cost_of (written_of detail left c t) + cost_of (written_of detail right c t) + 2 + length mark
unfolding not_empty
marked-cost {detail} c t made mark m = omega (
  arith,
  first_cost_shown detail mark [],
  cost_shown detail left c made (as_item left c t ∷ text mark ∷ []) m.left_is m.written,
  cost_shown detail right c made (as_item right c t ∷ []) m.right_is refl,
)

-- a marked type prints the type and its mark in a context
marked-in : {detail : Detail} (c : Context) (extra : ℕ) (t made : Term) (mark b : List ℕ) (r q : Bool) → PrintsIn detail c extra t b r → IsMarked detail c t made mark
    → is_reference (head c made) ≡ q → is_funarr (head c made) ≡ false → is_empty c made ≡ false → is_function_type made ≡ false → is_void made ≡ false
    → PrintsIn detail c extra made (b ++ mark) q
unfolding not_empty
marked-in {detail} c extra t made mark b r q p m reference_is no_function_head filled no_function no_void = record {
  left_text = text_shown detail left c made (as_item left c t ∷ text mark ∷ []) m.left_is m.written
      ∙ ap (λ l. text_of (written_of detail left c t) ++ l) (alone_shown detail mark m.plain) ∙ ap (λ l. l ++ mark) p.left_text;
  right_text = text_shown detail right c made (as_item right c t ∷ []) m.right_is refl ∙ ap (λ l. l ++ []) p.right_text;
  cost = omega (arith, p.cost, marked-cost c t made mark m, m.some, length-append b mark);
  is_reference_head = reference_is;
  is_funarr_head = no_function_head;
  filled = filled;
  no_function = no_function;
  void = λ e. cc (sym no_void ∙ e);
  some = omega (arith, m.some, length-append b mark);
}

-- a marked type prints the type and its mark wherever the type prints
marked-as : (detail : Detail) (names : Names) (is_dependent : Bool) (t made : Term) (mark b : List ℕ) (r q : Bool)
    → ((c : Context) (extra : ℕ) → PrintsIn detail c extra t b r → IsMarked detail c t made mark)
    → ((c : Context) (extra : ℕ) → PrintsIn detail c extra t b r → (is_reference (head c made) ≡ q) × (is_funarr (head c made) ≡ false))
    → ((c : Context) → is_empty c made ≡ false) → is_function_type made ≡ false → is_void made ≡ false → is_open made ≡ is_open t
    → ((arguments : Term) → pack_length arguments made ≡ pack_length arguments t) → length_if_pack made ≡ None
    → ((c : Context) (p : Term) → component_parts c made p ≡ joined_to left c c made p) → opening_text (last_piece made) ≡ codes "<" → is_plain_integer made ≡ false
    → PrintsAs detail names is_dependent t b r → PrintsAs detail names is_dependent made (b ++ mark) q
marked-as detail names is_dependent t made mark b r q marks heads filled no_function no_void open_is packs_are no_pack as_prefix opening no_integer p = go is_dependent p
  where
    marked_in : (c : Context) (extra : ℕ) → PrintsIn detail c extra t b r → PrintsIn detail c extra made (b ++ mark) q
    marked_in c extra h =
        marked-in c extra t made mark b r q h (marks c extra h) (heads c extra h).0 (heads c extra h).1 (filled c) no_function no_void

    go : (d : Bool) → PrintsAs detail names d t b r → PrintsAs detail names d made (b ++ mark) q
    go false p =
        made-prints made (b ++ mark) q (λ c. marked_in c 0 (prints-in c 0 t b r p)) (open_is ∙ p.is_closed) (λ arguments. packs_are arguments ∙ p.packless arguments)
        no_pack as_prefix opening (λ e. cc (sym no_integer ∙ e))
        (λ e c. let m = marks c 0 (prints-in c 0 t b r p) in omega (arith, p.cost c, m.some, length-append b mark, marked-cost c t made mark m))
    go true p =
        made-given names made (b ++ mark) q (λ c given. marked_in c 3 (p.prints c given)) (λ arguments single. packs_are arguments ∙ p.packless arguments single)
        no_function no_pack as_prefix opening

-- A pointer prints its type and a star.
pointer-marks : (detail : Detail) (c : Context) (t : Term) → is_funarr (head c t) ≡ false → IsMarked detail c t (pointer t) (codes "*")
unfolding parts_in left_parts right_parts
pointer-marks detail c t e = record { left_is = marked c t "*" e; right_is = closing c t e; written = refl; plain = refl; some = omega arith }

pub pointer-as : (detail : Detail) (names : Names) (is_dependent : Bool) (t : Term) (b : List ℕ) (r : Bool) → PrintsAs detail names is_dependent t b r
    → PrintsAs detail names is_dependent (pointer t) (b ++ codes "*") false
unfolding head head_with is_reference is_funarr is_empty is_function_type is_void is_open pack_length length_if_pack prefix_item component_parts last_piece opening_text is_plain_integer
pointer-as detail names is_dependent t b r p =
    marked-as detail names is_dependent t (pointer t) (codes "*") b r false (λ c extra h. pointer-marks detail c t h.is_funarr_head) (λ c extra h. (refl, refl)) (λ c. refl)
    refl refl refl (λ arguments. refl) refl (λ c p. refl) refl refl p

-- An lvalue reference prints its type, which is no reference, and its mark.
lvalue-marks : (detail : Detail) (c : Context) (t : Term) → is_reference (head c t) ≡ false → is_funarr (head c t) ≡ false → IsMarked detail c t (lvalue t) (codes "&")
unfolding parts_in left_parts right_parts
lvalue-marks detail c t e f = record { left_is = reference c low t "&" e f; right_is = closing c t f; written = refl; plain = refl; some = omega arith }

pub lvalue-as : (detail : Detail) (names : Names) (is_dependent : Bool) (t : Term) (b : List ℕ) → PrintsAs detail names is_dependent t b false
    → PrintsAs detail names is_dependent (lvalue t) (b ++ codes "&") true
unfolding head head_with is_reference is_funarr is_empty is_function_type is_void is_open pack_length length_if_pack prefix_item component_parts last_piece opening_text is_plain_integer
lvalue-as detail names is_dependent t b p =
    marked-as detail names is_dependent t (lvalue t) (codes "&") b false true (λ c extra h. lvalue-marks detail c t h.is_reference_head h.is_funarr_head) (λ c extra h. (refl, refl)) (λ c. refl)
    refl refl refl (λ arguments. refl) refl (λ c p. refl) refl refl p

pub lvalue-in : {detail : Detail} (c : Context) (extra : ℕ) (t : Term) (b : List ℕ) → PrintsIn detail c extra t b false
    → PrintsIn detail c extra (lvalue t) (b ++ codes "&") true
unfolding head head_with is_reference is_funarr is_empty is_function_type is_void
lvalue-in {detail} c extra t b p =
    marked-in c extra t (lvalue t) (codes "&") b false true p (lvalue-marks detail c t p.is_reference_head p.is_funarr_head) refl refl refl refl refl

collapsed-refers : (h : Head) → is_reference (collapsed h) ≡ true
unfolding is_reference collapsed
collapsed-refers lref = refl
collapsed-refers _ = refl

collapsed-no_function : (h : Head) → is_funarr (collapsed h) ≡ false
unfolding is_funarr collapsed
collapsed-no_function lref = refl
collapsed-no_function _ = refl

-- An rvalue reference prints its type, which is no reference, and its mark, too.
rvalue-marks : (detail : Detail) (c : Context) (t : Term) → is_reference (head c t) ≡ false → is_funarr (head c t) ≡ false → IsMarked detail c t (rvalue t) (codes "&&")
unfolding parts_in left_parts right_parts
rvalue-marks detail c t e f = record { left_is = reference c left t "&&" e f; right_is = closing c t f; written = refl; plain = refl; some = omega arith }

pub rvalue-in : {detail : Detail} (c : Context) (extra : ℕ) (t : Term) (b : List ℕ) → PrintsIn detail c extra t b false
    → PrintsIn detail c extra (rvalue t) (b ++ codes "&&") true
unfolding head head_with is_empty is_function_type is_void
rvalue-in {detail} c extra t b p =
    marked-in c extra t (rvalue t) (codes "&&") b false true p (rvalue-marks detail c t p.is_reference_head p.is_funarr_head)
    (collapsed-refers (head c t)) (collapsed-no_function (head c t)) refl refl refl

pub rvalue-as : (detail : Detail) (names : Names) (is_dependent : Bool) (t : Term) (b : List ℕ) → PrintsAs detail names is_dependent t b false
    → PrintsAs detail names is_dependent (rvalue t) (b ++ codes "&&") true
unfolding head head_with is_empty is_function_type is_void is_open pack_length length_if_pack prefix_item component_parts last_piece opening_text is_plain_integer
rvalue-as detail names is_dependent t b p =
    marked-as detail names is_dependent t (rvalue t) (codes "&&") b false true (λ c extra h. rvalue-marks detail c t h.is_reference_head h.is_funarr_head) (λ c extra h. (collapsed-refers (head c t), collapsed-no_function (head c t))) (λ c. refl)
    refl refl refl (λ arguments. refl) refl (λ c p. refl) refl refl p

-- the qualifiers of a type that is declared const
abbrev pub constant : Qualifiers
constant = record { restrict = false; volatile = false; const = true }

qualified_left-is : (c : Context) (t : Term) → is_function_type t ≡ false → is_reference (head c t) ≡ false → is_funarr (head c t) ≡ false
    → qualified_left c constant t ≡ as_item left c t ∷ says " const" ∷ []
unfolding qualified_left is_function_type length_if_pack text_part qualifier_text
qualified_left-is c (function_type linkage noexcept ref returned parameters) e f g = cc e
qualified_left-is c t e f g = rw (f, g, qualified_left) refl

qualified_right-is : (c : Context) (t : Term) → is_function_type t ≡ false → qualified_right c constant t ≡ as_item right c t ∷ []
unfolding qualified_right is_function_type length_if_pack
qualified_right-is c (function_type linkage noexcept ref returned parameters) e = cc e
qualified_right-is c t e = refl

-- A constant type, which is no reference, prints the word const after its type.
const-marks : (detail : Detail) (c : Context) (t : Term) → is_function_type t ≡ false → is_reference (head c t) ≡ false → is_funarr (head c t) ≡ false
    → IsMarked detail c t (qualified constant t) (codes " const")
unfolding parts_in left_parts right_parts
const-marks detail c t d e f = record { left_is = qualified_left-is c t d e f; right_is = qualified_right-is c t d; written = refl; plain = refl; some = omega arith }

pub const-in : {detail : Detail} (c : Context) (extra : ℕ) (t : Term) (b : List ℕ) → PrintsIn detail c extra t b false
    → PrintsIn detail c extra (qualified constant t) (b ++ codes " const") false
unfolding head head_with is_empty is_function_type is_void
const-in {detail} c extra t b p =
    marked-in c extra t (qualified constant t) (codes " const") b false false p (const-marks detail c t p.no_function p.is_reference_head p.is_funarr_head)
    p.is_reference_head p.is_funarr_head refl refl refl

pub const-as : (detail : Detail) (names : Names) (is_dependent : Bool) (t : Term) (b : List ℕ) → PrintsAs detail names is_dependent t b false
    → PrintsAs detail names is_dependent (qualified constant t) (b ++ codes " const") false
unfolding head head_with is_empty is_function_type is_void is_open pack_length length_if_pack prefix_item component_parts last_piece opening_text is_plain_integer
const-as detail names is_dependent t b p =
    marked-as detail names is_dependent t (qualified constant t) (codes " const") b false false (λ c extra h. const-marks detail c t h.no_function h.is_reference_head h.is_funarr_head) (λ c extra h. (h.is_reference_head, h.is_funarr_head)) (λ c. refl)
    refl refl refl (λ arguments. refl) refl (λ c p. refl) refl refl p

-- ## Parameters

-- The declarations of a lambda's parameters print nothing. So a parameter that names a tree with a text has this tree
-- as its one part.
named : {detail : Detail} (form : Form) (k : ℕ) (a : Term) (b : List ℕ) (r : Bool) → Prints detail a b r → parameter_parts form k a ≡ as_item form closed a ∷ []
unfolding parameter_parts parts_in left_parts not_empty piece_parts
named {detail} form k (declaring heads parameters) b r p =
    let none : b ≡ [] = sym (p.left_text closed) ∙ text_shown detail left closed (declaring heads parameters) [] refl refl in
    absurd (omega (arith, p.cost closed, ap length none))
named form k _ b r p = refl

-- A parameter prints the argument that it names.
pub parameter-in : {detail : Detail} (c : Context) (k : ℕ) (b : List ℕ) (r : Bool) → Prints detail (argument c k) b r → PrintsIn detail c 3 (parameter k) b r
unfolding parts_in left_parts right_parts not_empty head head_closed head_with argument own_argument is_reference is_funarr is_empty is_function_type is_void
parameter-in {detail} c k b r p =
    let t = parameter k in
    let a = argument c k in
    record {
      left_text = text_shown detail left c t (as_item left closed a ∷ []) (named left k a b r p) refl ∙ append-nil (text_of (written_of detail left closed a)) ∙ p.left_text closed;
      right_text = text_shown detail right c t (as_item right closed a ∷ []) (named right k a b r p) refl ∙ append-nil (text_of (written_of detail right closed a)) ∙ p.right_text closed;
      cost = omega (
        arith,
        p.cost closed,
        cost_shown detail left c t (as_item left closed a ∷ []) (named left k a b r p) refl,
        cost_shown detail right c t (as_item right closed a ∷ []) (named right k a b r p) refl,
      );
      is_reference_head = p.is_reference_head closed;
      is_funarr_head = p.is_funarr_head closed;
      filled = refl;
      no_function = refl;
      void = λ e. cc e;
      some = omega (arith, p.cost closed);
    }

-- A parameter prints its argument where the argument has this text.
pub parameter-given : {detail : Detail} (names : Names) (k : ℕ) (n : Named) → names k ≡ Some n → PrintsGiven detail names (parameter k) n.bytes n.reference
unfolding pack_length is_function_type length_if_pack prefix_item component_parts last_piece opening_text
parameter-given names k n e =
    made-given names (parameter k) n.bytes n.reference (λ c given. parameter-in c k n.bytes n.reference (given k n e))
    (λ arguments single. single k n e) refl refl (λ c p. refl) refl

-- An rvalue reference to a reference prints what that reference prints.
pub rvalue-again : {detail : Detail} (c : Context) (k : ℕ) (b : List ℕ) → Prints detail (argument c k) b true → PrintsIn detail c 3 (rvalue (parameter k)) b true
unfolding parts_in left_parts right_parts not_empty head head_closed head_with argument own_argument is_empty is_function_type is_void reference_parts closing_right
rvalue-again {detail} c k b p =
    let u = parameter k in
    let a = argument c k in
    let inner = parameter-in c k b true p in
    let ps = as_item left c u ∷ [] in
    let is : reference_parts c left u "&&" ≡ ps = rw (p.is_reference_head closed, reference_parts) refl in
    record {
      left_text = text_shown detail left c (rvalue u) ps is refl ∙ append-nil (text_of (written_of detail left c u)) ∙ inner.left_text;
      right_text = text_shown detail right c (rvalue u) (as_item right c u ∷ []) (closing c u inner.is_funarr_head) refl ∙ append-nil (text_of (written_of detail right c u)) ∙ inner.right_text;
      cost = omega (
        arith,
        p.reference_cost refl closed,
        cost_shown detail left c u (as_item left closed a ∷ []) (named left k a b true p) refl,
        cost_shown detail right c u (as_item right closed a ∷ []) (named right k a b true p) refl,
        cost_shown detail left c (rvalue u) ps is refl,
        cost_shown detail right c (rvalue u) (as_item right c u ∷ []) (closing c u inner.is_funarr_head) refl,
      );
      is_reference_head = collapsed-refers (head c u);
      is_funarr_head = collapsed-no_function (head c u);
      filled = refl;
      no_function = refl;
      void = λ e. cc e;
      some = inner.some;
    }

-- Likewise where the argument has this text.
pub rvalue-given : {detail : Detail} (names : Names) (k : ℕ) (b : List ℕ) → names k ≡ Some (record { bytes = b; reference = true })
    → PrintsGiven detail names (rvalue (parameter k)) b true
unfolding pack_length is_function_type length_if_pack prefix_item component_parts last_piece opening_text
rvalue-given names k b e =
    let n : Named = record { bytes = b; reference = true } in
    made-given names (rvalue (parameter k)) b true (λ c given. rvalue-again c k b (given k n e)) (λ arguments single. single k n e) refl refl (λ c p. refl) refl

-- ## Parameters that name a reference with text on both sides of a name

named-around : {detail : Detail} (form : Form) (k : ℕ) (a : Term) (b : List ℕ) → PrintsAround detail a b → parameter_parts form k a ≡ as_item form closed a ∷ []
unfolding parameter_parts head head_with is_reference
named-around form k (declaring heads parameters) b p = cc (p.is_reference_head closed)
named-around form k _ b p = refl

-- A parameter prints a reference with text on both sides of a name.
pub parameter-around : {detail : Detail} (c : Context) (k : ℕ) (b : List ℕ) → PrintsAround detail (argument c k) b → IsElementIn detail c 3 (parameter k) b
unfolding parts_in left_parts right_parts not_empty is_empty is_void
parameter-around {detail} c k b p =
    let t = parameter k in
    let a = argument c k in
    let before = text_shown detail left c t (as_item left closed a ∷ []) (named-around left k a b p) refl ∙ append-nil (text_of (written_of detail left closed a)) in
    let behind = text_shown detail right c t (as_item right closed a ∷ []) (named-around right k a b p) refl ∙ append-nil (text_of (written_of detail right closed a)) in
    record {
      both_texts = ap (λ l. l ++ text_of (written_of detail right c t)) before ∙ ap (λ l. text_of (written_of detail left closed a) ++ l) behind ∙ p.both_texts closed;
      cost = omega (
        arith,
        p.cost closed,
        cost_shown detail left c t (as_item left closed a ∷ []) (named-around left k a b p) refl,
        cost_shown detail right c t (as_item right closed a ∷ []) (named-around right k a b p) refl,
      );
      filled = refl;
      void = λ e. cc e;
    }

-- An rvalue reference to a parameter that names a reference with text on both sides prints that reference.
pub rvalue-around : {detail : Detail} (c : Context) (k : ℕ) (b : List ℕ) → PrintsAround detail (argument c k) b → IsElementIn detail c 3 (rvalue (parameter k)) b
unfolding parts_in left_parts right_parts not_empty head head_closed head_with argument own_argument is_empty is_void reference_parts closing_right
rvalue-around {detail} c k b p =
    let u = parameter k in
    let a = argument c k in
    let ps = as_item left c u ∷ [] in
    let is : reference_parts c left u "&&" ≡ ps = rw (p.is_reference_head closed, reference_parts) refl in
    let shut = closing c u (p.is_funarr_head closed) in
    let before = text_shown detail left c (rvalue u) ps is refl ∙ append-nil (text_of (written_of detail left c u)) in
    let behind = text_shown detail right c (rvalue u) (as_item right c u ∷ []) shut refl ∙ append-nil (text_of (written_of detail right c u)) in
    record {
      both_texts = ap (λ l. l ++ text_of (written_of detail right c (rvalue u))) before ∙ ap (λ l. text_of (written_of detail left c u) ++ l) behind
          ∙ (parameter-around c k b p).both_texts;
      cost = omega (
        arith,
        p.cost closed,
        cost_shown detail left c u (as_item left closed a ∷ []) (named-around left k a b p) refl,
        cost_shown detail right c u (as_item right closed a ∷ []) (named-around right k a b p) refl,
        cost_shown detail left c (rvalue u) ps is refl,
        cost_shown detail right c (rvalue u) (as_item right c u ∷ []) shut refl,
      );
      filled = refl;
      void = λ e. cc e;
    }
