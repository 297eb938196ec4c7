-- A pressed spelling has at most the bytes of its tree and those of the components that it spells out.
use Rattle.cpp_press_laws.proofs.Basics.{◌≡◌, ℕ, zero, suc, ◌+◌, ◌-◌, ◌<◌, ◌≤◌, length, List, [], ◌∷◌, ◌++◌, Option, Some, None, Bool, true, false, refl, arith, sym, subst, length-append, cond, codes, ◌&&◌, ◌and◌, text, nothing, digit36, Divides, digits-count, RefQualifier, any_value, lvalue_only, rvalue_only, explicit_object, Term, symbol, function, object, special, thunk, of_name, construction, clone, alone, in_std, within, instance, local, holder, tagged, of_default, abbreviation, parameter, source, operator, literal_operator, constructor, destructor, inheriting, lambda, generic_lambda, unnamed, string_literal, conversion, builtin, sized_float, constrained, vendor, pointer, lvalue, rvalue, array, bounded, member_pointer, function_type, qualified, vector, complex, decltype, expansion, integer, boolean, null_pointer, encoding_literal, address_of, operation, function_parameter, pack, nil, list, absent, enumeration, bindings, declaring, is_function_type, is_nil, without_tags, either, counted, ordinal, signed_text, qualifier_letters, mark_letter, name_letters, special_code, thunk_text, discriminator_text, Component, first_equal, is_same, seq_id, is_component, is_name, is_operator, is_nested, is_one_piece, is_encoding}
use Rattle.sym_spell.specs.Pressing as spell
use Rattle.cpp_press_laws.specs.MarkedComponents.{Marked, unmarked, Spelling, ended, reference, referred, component}
use Rattle.cpp_press_laws.specs.MarkedPressing.{Ways, no_ways, type_ways, function_text, in_N_and_E, with_letters, name_ways, template_before, entity_text, local_text, begun, encoding_ways, piece_ways, argument_ways, ways_of}
use Rattle.cpp_press_laws.proofs.Ways as way
use Rattle.cpp_press_laws.proofs.Ways.{Way}
use Rattle.cpp_press_laws.proofs.Short.Size.{part_of, front_of, bare_of, name_of, with_void, lettered, size, over, part, over-least, front-part, name-part}

-- ## What components take

-- the bytes that a component costs beyond those of a reference: those of its spelling if it was compared, and otherwise
-- those of its name
unfoldable pub cost : Marked → ℕ
cost c = over (cond c.was_compared (size c.component.tree) (name_of c.component.tree (size c.component.tree)))

unfoldable pub costs : List Marked → ℕ
costs [] = 0
costs (c ∷ cs) = cost c + costs cs

costs-one : (cs : List Marked) (c : Marked) → costs (cs ++ c ∷ []) ≡ costs cs + cost c
unfolding costs
costs-one [] c = omega arith
costs-one (d ∷ cs) c = omega (arith, costs-one cs c)

abbrev pub Written : Type 0
Written = spell.Pressed Marked

-- A spelling adds at most k bytes, apart from the components that it spells out, if each reference has at most eight bytes.
pub record ShortAt (k : ℕ) (cs : List Marked) (w : Written) : Type 0 where
  pub grows : length cs ≤ length w.components
  pub short : length w.components ≤ 2176782336 → length w.bytes + costs cs ≤ k + costs w.components

abbrev pub Short : ℕ → Spelling → Type 0
Short k s = (place : ℕ) (cs : List Marked) → ShortAt k cs (s place cs)

-- ## Spellings

text-short : (bytes : List ℕ) → Short (length bytes) (text bytes)
text-short bytes place cs = record { grows = omega arith; short = λ few. omega arith }

less : (a b : ℕ) (s : Spelling) → a ≤ b → Short a s → Short b s
less a b s le one place cs = record { grows = (one place cs).grows; short = λ few. omega (arith, le, (one place cs).short few) }

nothing-short : (k : ℕ) → Short k nothing
nothing-short k = less 0 k nothing (omega arith) (text-short [])

bytes-short : (k : ℕ) (bytes : List ℕ) → length bytes ≤ k → Short k (text bytes)
bytes-short k bytes le = less (length bytes) k (text bytes) le (text-short bytes)

and-short : (a b : ℕ) (f g : Spelling) → Short a f → Short b g → Short (a + b) (f and g)
and-short a b f g one two place cs =
    let w : Written = f place cs in
    let v : Written = g (place + length w.bytes) w.components in
    let x = one place cs in
    let y = two (place + length w.bytes) w.components in
    record {
      grows = omega (arith, x.grows, y.grows);
      short = λ few. omega (arith, x.short (omega (arith, few, y.grows)), y.short few, length-append w.bytes v.bytes);
    }

-- a spelling and the spelling after it have at most c bytes
and-within : (a b c : ℕ) (f g : Spelling) → a + b ≤ c → Short a f → Short b g → Short c (f and g)
and-within a b c f g le one two = less (a + b) c (f and g) le (and-short a b f g one two)

-- fixed bytes before a spelling, and after it
behind-text : (k c : ℕ) (bytes : List ℕ) (s : Spelling) → length bytes + k ≤ c → Short k s → Short c (text bytes and s)
behind-text k c bytes s le one = and-within (length bytes) k c (text bytes) s le (text-short bytes) one

before-text : (k c : ℕ) (s : Spelling) (bytes : List ℕ) → k + length bytes ≤ c → Short k s → Short c (s and text bytes)
before-text k c s bytes le one = and-within k (length bytes) c s (text bytes) le one (text-short bytes)

first-below : (n : ℕ) (t : Term) (from k : ℕ) (cs : List Component) → first_equal n t from cs ≡ Some k → k < from + length cs
unfolding first_equal
first-below n t from k [] is = cc
first-below n t from k (c ∷ cs) is = go (is_same n t c) is (first-below n t (from + 1) k cs)
  where
    go : (b : Bool) → elim b as (λ _. Option ℕ) [ true ↦ Some from | false ↦ first_equal n t (from + 1) cs ] ≡ Some k
        → (first_equal n t (from + 1) cs ≡ Some k → k < from + 1 + length cs) → k < from + suc (length cs)
    go true h later = let same : from ≡ k = cc in omega (arith, same)
    go false h later = omega (arith, later h)

pub unmarked-length : (cs : List Marked) → length (unmarked cs) ≡ length cs
unmarked-length [] = refl
unmarked-length (c ∷ cs) = omega (arith, unmarked-length cs)

divides36 : Divides 36
divides36 = record { joined = λ n. omega arith; rest = λ n. omega arith; fewer = λ n r less. omega (arith, less) }

seq-short : (k : ℕ) → k ≤ 2176782336 → length (codes "S" ++ (seq_id k ++ codes "_")) ≤ 8
unfolding seq_id
seq-short zero few = omega arith
seq-short (suc n) few =
    omega (arith, digits-count 36 divides36 digit36 40 5 n (omega (arith, few)), length-append (seq_id (suc n)) (codes "_"))

-- a component that is a reference, or is spelled out
component-short : (n : ℕ) (t : Term) (s : Spelling) → Short (size t) s → Short 8 (component n t s)
unfolding component reference ended cost
component-short n t s one place cs = go (first_equal n t 0 (unmarked cs)) refl
  where
    go : (o : Option ℕ) → first_equal n t 0 (unmarked cs) ≡ o → ShortAt 8 cs (elim o as (λ _. Written) [
      | Some number ↦ reference number place cs
      | None ↦ (s and ended true n t) place cs
    ])
    go (Some number) is = record {
      grows = omega arith;
      short = λ few. omega (arith, seq-short number (omega (arith, first-below n t 0 number (unmarked cs) is, unmarked-length cs, few)));
    }
    go None is =
        let w : Written = s place cs in
        let own : Marked = record { component = record { tree = t; encoding = n }; was_compared = true } in
        let x = one place cs in
        record {
          grows = omega (arith, x.grows, length-append w.components (own ∷ []));
          short = λ few. omega (
            arith,
            x.short (omega (arith, few, length-append w.components (own ∷ []))),
            costs-one w.components own,
            over-least (size t),
            length-append w.bytes [],
          );
        }

-- a name that is spelled out and becomes a component, and its arguments
made-short : (b : Bool) (n m d k : ℕ) (t : Term) (between arguments : Spelling) → Short m between
    → m ≤ d + cost (record { component = record { tree = t; encoding = n }; was_compared = b }) → Short k arguments
    → Short (d + k) (between and ended b n t and arguments)
unfolding ended
made-short b n m d k t between arguments one le two place cs =
    let own : Marked = record { component = record { tree = t; encoding = n }; was_compared = b } in
    let w : Written = between place cs in
    let made : List Marked = w.components ++ own ∷ [] in
    let from : ℕ = place + length w.bytes + 0 in
    let v : Written = arguments from made in
    let x = one place cs in
    let y = two from made in
    record {
      grows = omega (arith, x.grows, y.grows, length-append w.components (own ∷ []));
      short = λ few. omega (
        arith,
        x.short (omega (arith, few, y.grows, length-append w.components (own ∷ []))),
        y.short few,
        costs-one w.components own,
        le,
        length-append w.bytes v.bytes,
      );
    }

nested-short : (k c : ℕ) (letters : List ℕ) (s : Spelling) → 2 + length letters + k ≤ c → Short k s → Short c (in_N_and_E letters s)
unfolding in_N_and_E
nested-short k c letters s le one =
    behind-text (k + 1) c (codes "N" ++ letters) (s and text (codes "E")) (omega (arith, le))
    (before-text k (k + 1) s (codes "E") (omega arith) one)

template-short : (n k : ℕ) (t : Term) (needs : Bool) (between arguments : Spelling) → Short (size t) between → Short k arguments
    → Short (10 + k) (template_before n t needs between arguments)
unfolding template_before referred reference cost
template-short n k t needs between arguments one two place cs = go (first_equal n t 0 (unmarked cs)) refl
  where
    whole : Short (8 + k) (between and ended true n t and arguments)
    whole = made-short true n (size t) 8 k t between arguments one (omega (arith, over-least (size t))) two

    named : (b : Bool) → Short (10 + k) (elim b as (λ _. Spelling) [
      | true ↦ in_N_and_E [] (between and ended true n t and arguments)
      | false ↦ (between and ended true n t and arguments)
    ])
    named true = nested-short (8 + k) (10 + k) [] (between and ended true n t and arguments) (omega arith) whole
    named false = less (8 + k) (10 + k) (between and ended true n t and arguments) (omega arith) whole

    go : (o : Option ℕ) → first_equal n t 0 (unmarked cs) ≡ o → ShortAt (10 + k) cs (elim o as (λ _. Written) [
      | Some number ↦ (reference number and arguments) place cs
      | None ↦ (elim needs as (λ _. Spelling) [
        | true ↦ in_N_and_E [] (between and ended true n t and arguments)
        | false ↦ (between and ended true n t and arguments)
      ]) place cs
    ])
    go (Some number) is =
        let bytes : List ℕ = codes "S" ++ (seq_id number ++ codes "_") in
        let y = two (place + length bytes) cs in
        record {
          grows = y.grows;
          short = λ few. omega (
            arith,
            seq-short number (omega (arith, first-below n t 0 number (unmarked cs) is, unmarked-length cs, few, y.grows)),
            y.short few,
            length-append bytes (arguments (place + length bytes) cs).bytes,
          );
        }
    go None is = named needs place cs

begun-short : (k : ℕ) (spelling : (encoding : ℕ) → Spelling) → ((here : ℕ) → Short k (spelling here)) → Short k (begun spelling)
unfolding begun
begun-short k spelling one place cs = one place place cs

-- ## The ways of a tree

abbrev pub WayShort : Way → (t : Term) → Ways → Type 0
WayShort way.as_type t w = Short (part t) w.as_type
WayShort way.under_qualifiers t w = Short (bare_of t (size t)) w.under_qualifiers
WayShort way.as_prefix t w = Short (front_of t (size t)) w.as_prefix
WayShort way.between_N_and_E t w = Short (name_of t (size t)) w.between_N_and_E
WayShort way.as_piece t w = Short (size t) w.as_piece
WayShort way.as_encoding t w = Short (size t) w.as_encoding
WayShort way.as_name t w = (letters : List ℕ) → Short (lettered letters + size t) (w.as_name letters)
WayShort way.before t w = (in_type : Bool) (arguments : Spelling) (k : ℕ) → Short k arguments → Short (2 + part t + k) (w.before in_type arguments)
WayShort way.as_argument t w = Short (part t) w.as_argument
WayShort way.as_parameters t w = Short (with_void t (size t)) w.as_parameters
WayShort way.as_more_parameters t w = Short (size t) w.as_more_parameters
WayShort way.as_elements t w = Short (size t) w.as_elements

abbrev pub AllShort : (t : Term) → Ways → Type 0
AllShort t w = (each : Way) → WayShort each t w

-- a tree with no way of being spelled
none-all : (t : Term) → AllShort t no_ways
unfolding no_ways
none-all t way.as_name = λ letters. nothing-short _
none-all t way.before = λ in_type arguments k two. less k (2 + part t + k) arguments (omega arith) two
none-all t _ = nothing-short _

-- a tree that has one spelling
spelled-all : (t : Term) (s : Spelling) (m : ℕ) → Short m s → m ≤ part t → m ≤ bare_of t (size t) → m ≤ front_of t (size t) → AllShort t (type_ways s)
unfolding type_ways no_ways
spelled-all t s m one le bare front way.as_type = less m (part t) s le one
spelled-all t s m one le bare front way.under_qualifiers = less m (bare_of t (size t)) s bare one
spelled-all t s m one le bare front way.as_prefix = less m (front_of t (size t)) s front one
spelled-all t s m one le bare front way.as_argument = less m (part t) s le one
spelled-all t s m one le bare front way.before = λ in_type arguments k two. and-within m k (2 + part t + k) s arguments (omega (arith, le)) one two
spelled-all t s m one le bare front w = none-all t w

-- a type that is a component
typed-all : (n : ℕ) (t : Term) (s : Spelling) → part t ≡ 8 → bare_of t (size t) ≡ 8 → front_of t (size t) ≡ 8 → Short (size t) s
    → AllShort t (type_ways (component n t s))
unfolding type_ways no_ways
typed-all n t s is bare front one = spelled-all t (component n t s) 8 (component-short n t s one) (omega (arith, is)) (omega (arith, bare)) (omega (arith, front))

piece-all : (t : Term) (s : Spelling) → Short (size t) s → AllShort t (piece_ways s)
unfolding piece_ways no_ways
piece-all t s one way.as_piece = one
piece-all t s one w = none-all t w

argument-all : (t : Term) (s : Spelling) → Short (part t) s → AllShort t (argument_ways s)
unfolding argument_ways no_ways
argument-all t s one way.as_argument = one
argument-all t s one w = none-all t w

prefix-all : (t : Term) (s : Spelling) → Short (front_of t (size t)) s → AllShort t (record no_ways { as_prefix = s })
unfolding no_ways
prefix-all t s one way.as_prefix = one
prefix-all t s one w = none-all t w

list-all : (t : Term) (parameters more elements : Spelling) → Short (with_void t (size t)) parameters → Short (size t) more → Short (size t) elements
    → AllShort t (record no_ways { as_parameters = parameters; as_more_parameters = more; as_elements = elements })
unfolding no_ways
list-all t parameters more elements one two three way.as_parameters = one
list-all t parameters more elements one two three way.as_more_parameters = two
list-all t parameters more elements one two three way.as_elements = three
list-all t parameters more elements one two three w = none-all t w

whole-all : (t : Term) (s : Spelling) → Short (size t) s → AllShort t (record no_ways { as_encoding = s })
unfolding no_ways
whole-all t s one way.as_encoding = one
whole-all t s one w = none-all t w

encoding-all : (t : Term) (spelling : (encoding : ℕ) → Spelling) → ((here : ℕ) → Short (size t) (spelling here)) → AllShort t (encoding_ways spelling)
unfolding encoding_ways
encoding-all t spelling one = whole-all t (begun spelling) (begun-short (size t) spelling one)

-- the ways of names that aren't local
named-all : (n : ℕ) (t : Term) (type own prefix between : Spelling) (before : Bool → Spelling → Spelling) → part t ≡ 8 → bare_of t (size t) ≡ 8
    → front_of t (size t) ≡ 8 → name_of t (size t) ≡ size t → Short (size t) type → Short (size t) own → Short (size t) prefix → Short (size t) between
    → ((in_type : Bool) (arguments : Spelling) (k : ℕ) → Short k arguments → Short (10 + k) (before in_type arguments))
    → AllShort t (name_ways n t type own prefix between before)
unfolding name_ways no_ways lettered with_letters
named-all n t type own prefix between before is bare front name typed owned prefixed betweened befored way.as_type = subst (λ k. Short k (component n t type)) (sym is) (component-short n t type typed)
named-all n t type own prefix between before is bare front name typed owned prefixed betweened befored way.under_qualifiers = subst (λ k. Short k (component n t type)) (sym bare) (component-short n t type typed)
named-all n t type own prefix between before is bare front name typed owned prefixed betweened befored way.as_prefix = subst (λ k. Short k (component n t prefix)) (sym front) (component-short n t prefix prefixed)
named-all n t type own prefix between before is bare front name typed owned prefixed betweened befored way.between_N_and_E = subst (λ k. Short k between) (sym name) betweened
named-all n t type own prefix between before is bare front name typed owned prefixed betweened befored way.as_name = letters-short
  where
    letters-short : (letters : List ℕ) → Short (lettered letters + size t) (with_letters letters own between)
    letters-short [] = less (size t) (lettered [] + size t) own (omega arith) owned
    letters-short (l ∷ ls) = nested-short (size t) (3 + length ls + size t) (l ∷ ls) between (omega arith) betweened
named-all n t type own prefix between before is bare front name typed owned prefixed betweened befored way.before = λ in_type arguments k two. less (10 + k) (2 + part t + k) (before in_type arguments) (omega (arith, is)) (befored in_type arguments k two)
named-all n t type own prefix between before is bare front name typed owned prefixed betweened befored way.as_argument = subst (λ k. Short k (component n t type)) (sym is) (component-short n t type typed)
named-all n t type own prefix between before is bare front name typed owned prefixed betweened befored w = none-all t w

entity-short : (k : ℕ) (entity : Term) (letters : List ℕ) (between : Spelling) → Short k between
    → Short (2 + length letters + k) (entity_text entity letters between)
unfolding entity_text
entity-short k entity letters between one =
    either (Short (2 + length letters + k)) (is_one_piece entity) between (in_N_and_E letters between)
    (λ h. less k (2 + length letters + k) between (omega arith) one)
    (λ h. nested-short k (2 + length letters + k) letters between (omega arith) one)

local-short : (a b c : ℕ) (around : Spelling) (entity : Term) (between : Spelling) (discriminator : Option (List ℕ)) (letters : List ℕ)
    → 4 + length letters + a + b + length (discriminator_text discriminator) ≤ c → Short a around → Short b between
    → Short c (local_text around entity between discriminator letters)
unfolding local_text
local-short a b c around entity between discriminator letters le one two =
    let last : List ℕ = discriminator_text discriminator in
    let name : Spelling = entity_text entity letters between in
    let d : ℕ = 2 + length letters + b + length last in
    behind-text (a + (1 + d)) c (codes "Z") (around and (text (codes "E") and (name and text last))) (omega (arith, le))
    (and-within a (1 + d) (a + (1 + d)) around (text (codes "E") and (name and text last)) (omega arith) one
    (behind-text d (1 + d) (codes "E") (name and text last) (omega arith)
    (before-text (2 + length letters + b) d name last (omega arith) (entity-short b entity letters between two))))

letters-most : (letters : List ℕ) → length letters ≤ lettered letters
unfolding lettered
letters-most [] = omega arith
letters-most (l ∷ ls) = omega arith

local-spelled : (n : ℕ) (e entity : Term) (discriminator : Option (List ℕ)) → AllShort e (ways_of n e) → AllShort entity (ways_of n entity)
    → (letters : List ℕ) → Short (lettered letters + size (local e entity discriminator))
    (local_text (ways_of n e).as_encoding entity (ways_of n entity).between_N_and_E discriminator letters)
unfolding size
local-spelled n e entity discriminator one two letters =
    local-short (size e) (name_of entity (size entity)) (lettered letters + size (local e entity discriminator)) (ways_of n e).as_encoding entity
    (ways_of n entity).between_N_and_E discriminator letters (omega (arith, letters-most letters)) (one way.as_encoding) (two way.between_N_and_E)

local-all : (n : ℕ) (e entity : Term) (discriminator : Option (List ℕ)) → ((m : ℕ) → AllShort e (ways_of m e)) → AllShort entity (ways_of n entity)
    → AllShort (local e entity discriminator) (ways_of n (local e entity discriminator))
unfolding ways_of type_ways no_ways size part_of bare_of front_of is_component is_function_type is_encoding lettered
local-all n e entity discriminator one two way.as_name = local-spelled n e entity discriminator (one n) two
local-all n e entity discriminator one two w =
    typed-all n (local e entity discriminator) (local_text (ways_of n e).as_encoding entity (ways_of n entity).between_N_and_E discriminator []) refl refl refl
    (less (lettered [] + size (local e entity discriminator)) (size (local e entity discriminator)) _ (omega arith)
    (local-spelled n e entity discriminator (one n) two [])) w

function-type-all : (n : ℕ) (t : Term) (s : Spelling) → part t ≡ 8 → front_of t (size t) ≡ 8 → bare_of t (size t) ≡ size t → Short (size t) s
    → AllShort t (record (type_ways (component n t s)) { under_qualifiers = s })
unfolding type_ways no_ways
function-type-all n t s is front bare one way.as_type = subst (λ k. Short k (component n t s)) (sym is) (component-short n t s one)
function-type-all n t s is front bare one way.under_qualifiers = subst (λ k. Short k s) (sym bare) one
function-type-all n t s is front bare one way.as_prefix = subst (λ k. Short k (component n t s)) (sym front) (component-short n t s one)
function-type-all n t s is front bare one way.before = λ in_type arguments k two. and-within 8 k (2 + part t + k) (component n t s) arguments (omega (arith, is)) (component-short n t s one) two
function-type-all n t s is front bare one way.as_argument = subst (λ k. Short k (component n t s)) (sym is) (component-short n t s one)
function-type-all n t s is front bare one w = none-all t w

-- the arguments of a template
abbrev bracketed : (n : ℕ) → Term → Spelling
bracketed n a = text (codes "I") and ((ways_of n a).as_elements and text (codes "E"))

bracketed-short : (n : ℕ) (a : Term) → AllShort a (ways_of n a) → Short (2 + size a) (bracketed n a)
bracketed-short n a one =
    behind-text (size a + 1) (2 + size a) (codes "I") ((ways_of n a).as_elements and text (codes "E")) (omega arith)
    (before-text (size a) (size a + 1) (ways_of n a).as_elements (codes "E") (omega arith) (one way.as_elements))

instance-all : (n : ℕ) (t a : Term) → AllShort t (ways_of n t) → AllShort a (ways_of n a) → AllShort (instance t a) (ways_of n (instance t a))
unfolding ways_of size part_of bare_of front_of name_of is_component is_name is_function_type is_encoding cost
instance-all n t a one two =
    let own : Term = instance t a in
    let behind : Spelling = bracketed n a in
    let arguments : Short (2 + size a) behind = bracketed-short n a two in
    named-all n own ((ways_of n t).before true behind) ((ways_of n t).before false behind) ((ways_of n t).as_prefix and behind)
    ((ways_of n t).between_N_and_E and ended false n t and behind) (λ in_type more. component n own nothing and more) refl refl refl refl
    (less (2 + part t + (2 + size a)) (size own) ((ways_of n t).before true behind) (omega arith) (one way.before true behind (2 + size a) arguments))
    (less (2 + part t + (2 + size a)) (size own) ((ways_of n t).before false behind) (omega arith) (one way.before false behind (2 + size a) arguments))
    (and-within (front_of t (size t)) (2 + size a) (size own) (ways_of n t).as_prefix behind (omega (arith, front-part t (size t))) (one way.as_prefix) arguments)
    (less (part t + (2 + size a)) (size own) ((ways_of n t).between_N_and_E and ended false n t and behind) (omega arith)
    (made-short false n (name_of t (size t)) (part t) (2 + size a) t (ways_of n t).between_N_and_E behind (one way.between_N_and_E) (name-part t (size t)) arguments))
    (λ in_type more k third. and-within 8 k (10 + k) (component n own nothing) more (omega arith) (component-short n own nothing (nothing-short (size own))) third)

alone-all : (n : ℕ) (p : Term) → AllShort p (ways_of n p) → AllShort (alone p) (ways_of n (alone p))
unfolding ways_of size part_of bare_of front_of name_of is_component is_name is_function_type is_encoding
alone-all n p one =
    let s : Spelling = (ways_of n p).as_piece in
    named-all n (alone p) s s s s (λ in_type arguments. template_before n (alone p) false s arguments) refl refl refl refl (one way.as_piece) (one way.as_piece) (one way.as_piece)
    (one way.as_piece) (λ in_type arguments k two. template-short n k (alone p) false s arguments (one way.as_piece) two)

std-all : (n : ℕ) (p : Term) → AllShort p (ways_of n p) → AllShort (in_std p) (ways_of n (in_std p))
unfolding ways_of size part_of bare_of front_of name_of is_component is_name is_function_type is_encoding
std-all n p one =
    let s : Spelling = text (codes "St") and (ways_of n p).as_piece in
    let spelled : Short (2 + size p) s = behind-text (size p) (2 + size p) (codes "St") (ways_of n p).as_piece (omega arith) (one way.as_piece) in
    let most : Short (4 + size p) s = less (2 + size p) (4 + size p) s (omega arith) spelled in
    named-all n (in_std p) (elim (is_operator p) as (λ _. Spelling) [ true ↦ in_N_and_E [] s | false ↦ s ]) s s s
    (λ in_type arguments. template_before n (in_std p) (in_type && is_operator p) s arguments) refl refl refl refl
    (either (Short (4 + size p)) (is_operator p) (in_N_and_E [] s) s
    (λ h. nested-short (2 + size p) (4 + size p) [] s (omega arith) spelled) (λ h. most)) most most most
    (λ in_type arguments k two. template-short n k (in_std p) (in_type && is_operator p) s arguments most two)

within-all : (n : ℕ) (prefix p : Term) → AllShort prefix (ways_of n prefix) → AllShort p (ways_of n p)
    → AllShort (within prefix p) (ways_of n (within prefix p))
unfolding ways_of size part_of bare_of front_of name_of is_component is_name is_function_type is_encoding
within-all n prefix p one two =
    let b : Spelling = (ways_of n prefix).as_prefix and (ways_of n p).as_piece in
    let k : ℕ = front_of prefix (size prefix) + size p in
    let between : Short k b = and-short (front_of prefix (size prefix)) (size p) (ways_of n prefix).as_prefix (ways_of n p).as_piece (one way.as_prefix) (two way.as_piece) in
    let most : Short (2 + k) b = less k (2 + k) b (omega arith) between in
    let nested : Short (2 + k) (in_N_and_E [] b) = nested-short k (2 + k) [] b (omega arith) between in
    named-all n (within prefix p) (in_N_and_E [] b) (in_N_and_E [] b) b b (λ in_type arguments. template_before n (within prefix p) true b arguments)
    refl refl refl refl (less (2 + k) (size (within prefix p)) (in_N_and_E [] b) (omega arith) nested)
    (less (2 + k) (size (within prefix p)) (in_N_and_E [] b) (omega arith) nested)
    (less (2 + k) (size (within prefix p)) b (omega arith) most) (less (2 + k) (size (within prefix p)) b (omega arith) most)
    (λ in_type arguments l third. template-short n l (within prefix p) true b arguments (less (2 + k) (size (within prefix p)) b (omega arith) most) third)

tagged-all : (n : ℕ) (of_structor : Bool) (name : Term) (tag : List ℕ) → AllShort name (ways_of n name)
    → AllShort (tagged of_structor name tag) (ways_of n (tagged of_structor name tag))
unfolding ways_of size part_of bare_of front_of name_of is_component is_name is_function_type is_encoding
tagged-all n of_structor name tag one =
    let t : Term = tagged of_structor name tag in
    let needs_N : Bool = is_nested (without_tags name) in
    let bytes : List ℕ = codes "B" ++ counted tag in
    let b : Spelling = (ways_of n name).between_N_and_E and text bytes in
    let k : ℕ = name_of name (size name) + length bytes in
    let between : Short k b = before-text (name_of name (size name)) k (ways_of n name).between_N_and_E bytes (omega arith) (one way.between_N_and_E) in
    let most : Short (size t) b = less k (size t) b (omega arith) between in
    let whole : Spelling = elim needs_N as (λ _. Spelling) [ true ↦ in_N_and_E [] b | false ↦ b ] in
    let spelled : Short (size t) whole =
    either (Short (size t)) needs_N (in_N_and_E [] b) b (λ h. nested-short k (size t) [] b (omega arith) between) (λ h. most) in
    named-all n t whole whole b b (λ in_type arguments. template_before n t needs_N b arguments) refl refl refl refl spelled spelled most most
    (λ in_type arguments l third. template-short n l t needs_N b arguments most third)

-- ## Trees

ref-short : (ref : RefQualifier) → length (mark_letter ref ++ codes "E") ≤ 2
unfolding mark_letter
ref-short any_value = omega arith
ref-short lvalue_only = omega arith
ref-short rvalue_only = omega arith
ref-short explicit_object = omega arith

marks-short : (c_linkage noexcept : Bool) → length (cond noexcept (codes "Do") [] ++ codes "F" ++ cond c_linkage (codes "Y") []) ≤ 4
marks-short true true = omega arith
marks-short true false = omega arith
marks-short false true = omega arith
marks-short false false = omega arith

internal-short : (internal : Bool) (name : List ℕ) → length (cond internal (codes "L") [] ++ counted name) ≤ 1 + length (counted name)
internal-short true name = omega arith
internal-short false name = omega arith

truth-short : (truth : Bool) → length (cond truth (codes "Lb1E") (codes "Lb0E")) ≤ 4
truth-short true = omega arith
truth-short false = omega arith

function-short : (c_linkage noexcept : Bool) (ref : RefQualifier) (a b : ℕ) (returned parameters : Spelling) → Short a returned → Short b parameters
    → Short (6 + a + b) (function_text c_linkage noexcept ref returned parameters)
unfolding function_text
function-short c_linkage noexcept ref a b returned parameters one two =
    let last : List ℕ = mark_letter ref ++ codes "E" in
    behind-text (a + (b + 2)) (6 + a + b) _ (returned and (parameters and text last)) (omega (arith, marks-short c_linkage noexcept))
    (and-short a (b + 2) returned (parameters and text last) one
    (before-text b (b + 2) parameters last (omega (arith, ref-short ref)) two))

pub all-short : (t : Term) (n : ℕ) → AllShort t (ways_of n t)
unfolding ways_of type_ways no_ways size part_of bare_of front_of with_void is_component is_function_type is_encoding is_nil
all-short (symbol e suffix) n =
    whole-all (symbol e suffix) _ (behind-text (size e + length suffix) (2 + size e + length suffix) (codes "_Z") ((ways_of n e).as_encoding and text suffix) (omega arith)
    (before-text (size e) (size e + length suffix) (ways_of n e).as_encoding suffix (omega arith) (all-short e n way.as_encoding)))
all-short (function name q ref returned parameters) n =
    encoding-all (function name q ref returned parameters) _ (λ here. and-within (lettered (name_letters q ref) + size name) (part returned + with_void parameters (size parameters))
    (size (function name q ref returned parameters)) ((ways_of here name).as_name (name_letters q ref))
    ((ways_of here returned).as_type and (ways_of here parameters).as_parameters) (omega arith) ((all-short name here way.as_name) (name_letters q ref))
    (and-short (part returned) (with_void parameters (size parameters)) (ways_of here returned).as_type (ways_of here parameters).as_parameters
    (all-short returned here way.as_type) (all-short parameters here way.as_parameters)))
all-short (object name q ref) n =
    encoding-all (object name q ref) _ (λ here. (all-short name here way.as_name) (name_letters q ref))
all-short (of_name l name q ref) n =
    encoding-all (of_name l name q ref) _ (λ here. behind-text (lettered (name_letters q ref) + size name) (size (of_name l name q ref)) (special_code l)
    ((ways_of here name).as_name (name_letters q ref)) (omega arith) ((all-short name here way.as_name) (name_letters q ref)))
all-short (alone p) n = alone-all n p (all-short p n)
all-short (in_std p) n = std-all n p (all-short p n)
all-short (within prefix p) n = within-all n prefix p (all-short prefix n) (all-short p n)
all-short (instance template arguments) n = instance-all n template arguments (all-short template n) (all-short arguments n)
all-short (local e entity discriminator) n = local-all n e entity discriminator (all-short e) (all-short entity n)
all-short (tagged of_structor name tag) n = tagged-all n of_structor name tag (all-short name n)
all-short (function_type c_linkage noexcept ref returned parameters) n =
    function-type-all n (function_type c_linkage noexcept ref returned parameters) _ refl refl refl
    (function-short c_linkage noexcept ref (part returned) (with_void parameters (size parameters)) (ways_of n returned).as_type (ways_of n parameters).as_parameters
    (all-short returned n way.as_type) (all-short parameters n way.as_parameters))
all-short nil n =
    list-all nil (text (codes "v")) nothing nothing (text-short (codes "v")) (nothing-short _) (nothing-short _)
all-short (list first rest) n =
    let more : Spelling = (ways_of n first).as_type and (ways_of n rest).as_more_parameters in
    let one : Short (part first + size rest) more = and-short (part first) (size rest) (ways_of n first).as_type (ways_of n rest).as_more_parameters
    (all-short first n way.as_type) (all-short rest n way.as_more_parameters) in
    list-all (list first rest) more more ((ways_of n first).as_argument and (ways_of n rest).as_elements) one one
    (and-short (part first) (size rest) (ways_of n first).as_argument (ways_of n rest).as_elements (all-short first n way.as_argument) (all-short rest n way.as_elements))
-- Generated by tools/trees.py. The other trees, by how they are spelled
all-short (special l type) n = encoding-all (special l type) _ (λ here. behind-text (part_of type (size type)) (size (special l type)) (codes "T" ++ l ∷ []) ((ways_of here type).as_type) (omega arith) (all-short type here way.as_type))
all-short (thunk kind e) n = encoding-all (thunk kind e) _ (λ here. behind-text (size e) (size (thunk kind e)) (thunk_text kind) ((ways_of here e).as_encoding) (omega arith) (all-short e here way.as_encoding))
all-short (construction derived digits parent) n = encoding-all (construction derived digits parent) _ (λ here. behind-text (1 + part_of derived (size derived) + length digits + part_of parent (size parent)) (size (construction derived digits parent)) (codes "TC") ((ways_of here derived).as_type and text (digits ++ codes "_") and (ways_of here parent).as_type) (omega arith) (and-within (part_of derived (size derived)) (1 + length digits + part_of parent (size parent)) (1 + part_of derived (size derived) + length digits + part_of parent (size parent)) (ways_of here derived).as_type (text (digits ++ codes "_") and (ways_of here parent).as_type) (omega arith) (all-short derived here way.as_type) (behind-text (part_of parent (size parent)) (1 + length digits + part_of parent (size parent)) (digits ++ codes "_") ((ways_of here parent).as_type) (omega (arith, length-append digits (codes "_"))) (all-short parent here way.as_type))))
all-short (clone letter e) n = encoding-all (clone letter e) _ (λ here. behind-text (1 + size e) (size (clone letter e)) (codes "GT") (text (letter ∷ []) and (ways_of here e).as_encoding) (omega arith) (behind-text (size e) (1 + size e) (letter ∷ []) ((ways_of here e).as_encoding) (omega arith) (all-short e here way.as_encoding)))
all-short (holder name) n = prefix-all (holder name) _ (before-text (front_of name (size name)) (size (holder name)) (ways_of n name).as_prefix (codes "M") (omega (arith, front-part name (size name))) (all-short name n way.as_prefix))
all-short (of_default digits entity) n = none-all (of_default digits entity)
all-short (abbreviation l) n = spelled-all (abbreviation l) (text (codes "S" ++ l ∷ [])) 2 (bytes-short 2 (codes "S" ++ l ∷ []) (omega arith)) (omega arith) (omega arith) (omega arith)
all-short (parameter k) n = typed-all n (parameter k) _ refl refl refl (bytes-short (size (parameter k)) (codes "T" ++ ordinal k) (omega arith))
all-short (source internal name) n = piece-all (source internal name) _ (bytes-short (size (source internal name)) (cond internal (codes "L") [] ++ counted name) (omega (arith, internal-short internal name)))
all-short (operator a b) n = piece-all (operator a b) _ (bytes-short (size (operator a b)) (a ∷ b ∷ []) (omega arith))
all-short (literal_operator name) n = piece-all (literal_operator name) _ (bytes-short (size (literal_operator name)) (codes "li" ++ counted name) (omega arith))
all-short (constructor digit) n = piece-all (constructor digit) _ (bytes-short (size (constructor digit)) (codes "C" ++ digit ∷ []) (omega arith))
all-short (destructor digit) n = piece-all (destructor digit) _ (bytes-short (size (destructor digit)) (codes "D" ++ digit ∷ []) (omega arith))
all-short (inheriting digit class) n = none-all (inheriting digit class)
all-short (lambda parameters k) n = piece-all (lambda parameters k) _ (behind-text (1 + with_void parameters (size parameters) + length (ordinal (k - 1))) (size (lambda parameters k)) (codes "Ul") ((ways_of n parameters).as_parameters and text (codes "E" ++ ordinal (k - 1))) (omega arith) (before-text (with_void parameters (size parameters)) (1 + with_void parameters (size parameters) + length (ordinal (k - 1))) (ways_of n parameters).as_parameters (codes "E" ++ ordinal (k - 1)) (omega arith) (all-short parameters n way.as_parameters)))
all-short (generic_lambda parameters number) n = piece-all (generic_lambda parameters number) _ (behind-text (1 + with_void parameters (size parameters) + length (ordinal (number - 1))) (size (generic_lambda parameters number)) (codes "Ul") (begun (λ here. (ways_of here parameters).as_parameters) and text (codes "E" ++ ordinal (number - 1))) (omega arith) (before-text (with_void parameters (size parameters)) (1 + with_void parameters (size parameters) + length (ordinal (number - 1))) (begun (λ here. (ways_of here parameters).as_parameters)) (codes "E" ++ ordinal (number - 1)) (omega arith) (begun-short (with_void parameters (size parameters)) _ (λ here. all-short parameters here way.as_parameters))))
all-short (unnamed k) n = piece-all (unnamed k) _ (bytes-short (size (unnamed k)) (codes "Ut" ++ ordinal (k - 1)) (omega arith))
all-short string_literal n = piece-all string_literal _ (bytes-short (size string_literal) (codes "s") (omega arith))
all-short (conversion type) n = piece-all (conversion type) _ (behind-text (part_of type (size type)) (size (conversion type)) (codes "cv") ((ways_of n type).as_type) (omega arith) (all-short type n way.as_type))
all-short (enumeration type name) n = piece-all (enumeration type name) _ (behind-text (part_of type (size type) + length (counted name)) (size (enumeration type name)) (codes "Ue") ((ways_of n type).as_type and text (counted name)) (omega arith) (before-text (part_of type (size type)) (part_of type (size type) + length (counted name)) (ways_of n type).as_type (counted name) (omega arith) (all-short type n way.as_type)))
all-short (bindings names) n = none-all (bindings names)
all-short (declaring heads parameters) n = none-all (declaring heads parameters)
all-short (builtin code) n = spelled-all (builtin code) (text code) (length code) (bytes-short (length code) code (omega arith)) (omega arith) (omega arith) (omega arith)
all-short (sized_float digits end) n = spelled-all (sized_float digits end) (text (codes "DF") and text digits and text (end ∷ [])) (3 + length digits) (behind-text (1 + length digits) (3 + length digits) (codes "DF") (text digits and text (end ∷ [])) (omega arith) (behind-text 1 (1 + length digits) digits (text (end ∷ [])) (omega arith) (bytes-short 1 (end ∷ []) (omega arith)))) (omega arith) (omega arith) (omega arith)
all-short (constrained letter concept) n = none-all (constrained letter concept)
all-short (vendor name) n = typed-all n (vendor name) _ refl refl refl (bytes-short (size (vendor name)) (codes "u" ++ counted name) (omega arith))
all-short (pointer type) n = typed-all n (pointer type) _ refl refl refl (behind-text (part_of type (size type)) (size (pointer type)) (codes "P") ((ways_of n type).as_type) (omega arith) (all-short type n way.as_type))
all-short (lvalue type) n = typed-all n (lvalue type) _ refl refl refl (behind-text (part_of type (size type)) (size (lvalue type)) (codes "R") ((ways_of n type).as_type) (omega arith) (all-short type n way.as_type))
all-short (rvalue type) n = typed-all n (rvalue type) _ refl refl refl (behind-text (part_of type (size type)) (size (rvalue type)) (codes "O") ((ways_of n type).as_type) (omega arith) (all-short type n way.as_type))
all-short (array digits type) n = typed-all n (array digits type) _ refl refl refl (behind-text (part_of type (size type)) (size (array digits type)) (codes "A" ++ digits ++ codes "_") ((ways_of n type).as_type) (omega (arith, length-append digits (codes "_"))) (all-short type n way.as_type))
all-short (bounded bound type) n = none-all (bounded bound type)
all-short (member_pointer class member) n = typed-all n (member_pointer class member) _ refl refl refl (behind-text (part_of class (size class) + part_of member (size member)) (size (member_pointer class member)) (codes "M") ((ways_of n class).as_type and (ways_of n member).as_type) (omega arith) (and-within (part_of class (size class)) (part_of member (size member)) (part_of class (size class) + part_of member (size member)) (ways_of n class).as_type ((ways_of n member).as_type) (omega arith) (all-short class n way.as_type) (all-short member n way.as_type)))
all-short (qualified q type) n = typed-all n (qualified q type) _ refl refl refl (behind-text (bare_of type (size type)) (size (qualified q type)) (qualifier_letters q) ((ways_of n type).under_qualifiers) (omega arith) (all-short type n way.under_qualifiers))
all-short (vector digits type) n = typed-all n (vector digits type) _ refl refl refl (behind-text (part_of type (size type)) (size (vector digits type)) (codes "Dv" ++ digits ++ codes "_") ((ways_of n type).as_type) (omega (arith, length-append digits (codes "_"))) (all-short type n way.as_type))
all-short (complex type) n = typed-all n (complex type) _ refl refl refl (behind-text (part_of type (size type)) (size (complex type)) (codes "C") ((ways_of n type).as_type) (omega arith) (all-short type n way.as_type))
all-short (decltype operand) n = none-all (decltype operand)
all-short (expansion pattern) n = typed-all n (expansion pattern) _ refl refl refl (behind-text (part_of pattern (size pattern)) (size (expansion pattern)) (codes "Dp") ((ways_of n pattern).as_type) (omega arith) (all-short pattern n way.as_type))
all-short (integer type value) n = argument-all (integer type value) _ (behind-text (1 + part_of type (size type) + length (signed_text value)) (size (integer type value)) (codes "L") ((ways_of n type).as_type and text (signed_text value ++ codes "E")) (omega arith) (before-text (part_of type (size type)) (1 + part_of type (size type) + length (signed_text value)) (ways_of n type).as_type (signed_text value ++ codes "E") (omega (arith, length-append (signed_text value) (codes "E"))) (all-short type n way.as_type)))
all-short (boolean truth) n = argument-all (boolean truth) _ (bytes-short (size (boolean truth)) (cond truth (codes "Lb1E") (codes "Lb0E")) (omega (arith, truth-short truth)))
all-short null_pointer n = argument-all null_pointer _ (bytes-short (size null_pointer) (codes "LDnE") (omega arith))
all-short (encoding_literal e) n = argument-all (encoding_literal e) _ (behind-text (1 + size e) (size (encoding_literal e)) (codes "L_Z") ((ways_of n e).as_encoding and text (codes "E")) (omega arith) (before-text (size e) (1 + size e) (ways_of n e).as_encoding (codes "E") (omega arith) (all-short e n way.as_encoding)))
all-short (address_of e) n = argument-all (address_of e) _ (behind-text (2 + size e) (size (address_of e)) (codes "XadL_Z") ((ways_of n e).as_encoding and text (codes "EE")) (omega arith) (before-text (size e) (2 + size e) (ways_of n e).as_encoding (codes "EE") (omega arith) (all-short e n way.as_encoding)))
all-short (operation one two u w) n = none-all (operation one two u w)
all-short (function_parameter digits) n = none-all (function_parameter digits)
all-short (pack elements) n = argument-all (pack elements) _ (behind-text (1 + size elements) (size (pack elements)) (codes "J") ((ways_of n elements).as_elements and text (codes "E")) (omega arith) (before-text (size elements) (1 + size elements) (ways_of n elements).as_elements (codes "E") (omega arith) (all-short elements n way.as_elements)))
all-short absent n = none-all absent
