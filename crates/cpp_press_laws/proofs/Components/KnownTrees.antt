-- Pressing a tree again adds nothing: if the components that its spelling is made from are among the components, so is what
-- the spelling adds. Components with free parameters in an encoding of their own are excepted.
use Rattle.cpp_press_laws.proofs.Basics.{◌≡◌, ℕ, ◌-◌, ◌<◌, ◌⊎◌, inl, inr, length, List, [], ◌∷◌, ◌++◌, Option, Bool, true, false, refl, arith, ◌&&◌, codes, cond, ◌and◌, text, nothing, Term, symbol, function, object, special, thunk, of_name, construction, clone, alone, in_std, within, instance, local, holder, tagged, of_default, abbreviation, parameter, source, operator, literal_operator, constructor, destructor, inheriting, lambda, generic_lambda, unnamed, string_literal, conversion, builtin, sized_float, constrained, vendor, pointer, lvalue, rvalue, array, bounded, member_pointer, function_type, qualified, vector, complex, decltype, expansion, integer, boolean, null_pointer, encoding_literal, address_of, operation, function_parameter, pack, nil, list, absent, adjusting, covariant, Thunk, enumeration, bindings, declaring, is_open, without_tags, counted, ordinal, signed_text, qualifier_letters, mark_letter, name_letters, special_code, thunk_text, discriminator_text, Spelling, ended, component, Ways, no_ways, type_ways, function_text, in_N_and_E, with_letters, name_ways, template_before, is_operator, is_nested, is_one_piece, entity_text, local_text, begun, encoding_ways, piece_ways, argument_ways, ways_of}
use Rattle.cpp_press_laws.proofs.Ways as way
use Rattle.cpp_press_laws.proofs.Ways.{Way}
use Rattle.cpp_press_laws.proofs.Components.Parts.{IsComponent, Shut, Inside, Whole, Prefixing, Unqualified, prefix-whole}
use Rattle.cpp_press_laws.proofs.Components.Known.{KeepsTo, KeepsBehind, OrOpen, text-keeps, and-keeps, behind-and-keeps, behind-bytes-keeps, keeps-behind, ended-keeps, component-keeps, in-N-and-E-keeps, before-keeps, begun-keeps}

abbrev pub In : (P R : Term → Type 0) → Type 0
In P R = (x : Term) → P x → R x

-- what a tree adds in each of its ways
abbrev pub WayKeeps : Way → (open_ : Type 0) (n : ℕ) (R : Term → Type 0) (t : Term) → Ways → Type 0
WayKeeps way.as_type open_ n R t w = In (Whole t) R → KeepsTo open_ n R w.as_type
WayKeeps way.under_qualifiers open_ n R t w = In (Unqualified t) R → KeepsTo open_ n R w.under_qualifiers
WayKeeps way.as_prefix open_ n R t w = In (Prefixing t) R → KeepsTo open_ n R w.as_prefix
WayKeeps way.between_N_and_E open_ n R t w = In (Inside t) R → KeepsTo open_ n R w.between_N_and_E
WayKeeps way.as_piece open_ n R t w = In (Inside t) R → KeepsTo open_ n R w.as_piece
WayKeeps way.as_encoding open_ n R t w = In (λ x. Shut (Inside t x) x) R → KeepsBehind open_ n R w.as_encoding
WayKeeps way.as_name open_ n R t w = In (Inside t) R → (letters : List ℕ) → KeepsTo open_ n R (w.as_name letters)
WayKeeps way.before open_ n R t w =
    In (Whole t) R → (in_type : Bool) (arguments : Spelling) → KeepsTo open_ n R arguments
    → KeepsTo open_ n R (w.before in_type arguments)
WayKeeps way.as_argument open_ n R t w = In (Whole t) R → KeepsTo open_ n R w.as_argument
WayKeeps way.as_parameters open_ n R t w = In (Inside t) R → KeepsTo open_ n R w.as_parameters
WayKeeps way.as_more_parameters open_ n R t w = In (Inside t) R → KeepsTo open_ n R w.as_more_parameters
WayKeeps way.as_elements open_ n R t w = In (Inside t) R → KeepsTo open_ n R w.as_elements

abbrev pub WaysKeep : (open_ : Type 0) (n : ℕ) (R : Term → Type 0) (t : Term) → Ways → Type 0
WaysKeep open_ n R t w = (each : Way) → WayKeeps each open_ n R t w

nothing-keeps : (open_ : Type 0) (n : ℕ) (R : Term → Type 0) → KeepsTo open_ n R nothing
nothing-keeps open_ n R = text-keeps open_ n R []

its : (open_ : Type 0) (n : ℕ) (R : Term → Type 0) (t : Term) → In (Whole t) R → IsComponent t → R t
its open_ n R t h is = h t (inl (is, refl))

insides : (R : Term → Type 0) (t : Term) → In (Whole t) R → In (Inside t) R
insides R t h x i = h x (inr i)

shut-or-open : (R P : Term → Type 0) → In (λ x. Shut (P x) x) R → In P (OrOpen R)
shut-or-open R P h x p = go (is_open x) refl
  where
    go : (b : Bool) → is_open x ≡ b → OrOpen R x
    go true is = inr is
    go false is = inl (h x (is, p))

-- a component whose spelling adds only what is among the components
component-kept : (open_ : Type 0) (n : ℕ) (R : Term → Type 0) (t : Term) (spelling : Spelling) → (In (Inside t) R → KeepsTo open_ n R spelling)
    → In (Whole t) R → KeepsTo open_ n R (component n t spelling)
component-kept open_ n R t spelling one h = component-keeps open_ n R t spelling (its open_ n R t h) (one (insides R t h))

no-ways-keep : (open_ : Type 0) (n : ℕ) (R : Term → Type 0) (t : Term) → WaysKeep open_ n R t no_ways
unfolding no_ways
no-ways-keep open_ n R t way.as_type = λ h. nothing-keeps open_ n R
no-ways-keep open_ n R t way.under_qualifiers = λ h. nothing-keeps open_ n R
no-ways-keep open_ n R t way.as_prefix = λ h. nothing-keeps open_ n R
no-ways-keep open_ n R t way.between_N_and_E = λ h. nothing-keeps open_ n R
no-ways-keep open_ n R t way.as_piece = λ h. nothing-keeps open_ n R
no-ways-keep open_ n R t way.as_encoding = λ h. keeps-behind open_ n R nothing (nothing-keeps open_ n R)
no-ways-keep open_ n R t way.as_name = λ h letters. nothing-keeps open_ n R
no-ways-keep open_ n R t way.before = λ h in_type arguments more. more
no-ways-keep open_ n R t way.as_argument = λ h. nothing-keeps open_ n R
no-ways-keep open_ n R t way.as_parameters = λ h. nothing-keeps open_ n R
no-ways-keep open_ n R t way.as_more_parameters = λ h. nothing-keeps open_ n R
no-ways-keep open_ n R t way.as_elements = λ h. nothing-keeps open_ n R

-- ## The ways of each sort

type-ways-keep : (open_ : Type 0) (n : ℕ) (R : Term → Type 0) (t : Term) (spelling : Spelling) → In (Whole t) (Unqualified t)
    → In (Whole t) (Prefixing t)
    → (In (Whole t) R → KeepsTo open_ n R spelling) → WaysKeep open_ n R t (type_ways spelling)
unfolding type_ways no_ways
type-ways-keep open_ n R t spelling same front one way.as_type = one
type-ways-keep open_ n R t spelling same front one way.under_qualifiers = λ h. one (λ x w. h x (same x w))
type-ways-keep open_ n R t spelling same front one way.as_prefix = λ h. one (λ x w. h x (front x w))
type-ways-keep open_ n R t spelling same front one way.before = λ h in_type arguments more. and-keeps open_ n R spelling arguments (one h) more
type-ways-keep open_ n R t spelling same front one way.as_argument = one
type-ways-keep open_ n R t spelling same front one w = no-ways-keep open_ n R t w

-- a type that is a component and has one spelling
typed-keep : (open_ : Type 0) (n : ℕ) (R : Term → Type 0) (t : Term) (spelling : Spelling) → In (Whole t) (Unqualified t)
    → In (Whole t) (Prefixing t)
    → (In (Inside t) R → KeepsTo open_ n R spelling) → WaysKeep open_ n R t (type_ways (component n t spelling))
typed-keep open_ n R t spelling same front one =
    type-ways-keep open_ n R t (component n t spelling) same front
    (λ h. component-keeps open_ n R t spelling (its open_ n R t h) (one (insides R t h)))

piece-ways-keep : (open_ : Type 0) (n : ℕ) (R : Term → Type 0) (t : Term) (spelling : Spelling) → (In (Inside t) R
    → KeepsTo open_ n R spelling)
    → WaysKeep open_ n R t (piece_ways spelling)
unfolding piece_ways no_ways
piece-ways-keep open_ n R t spelling one way.as_piece = one
piece-ways-keep open_ n R t spelling one w = no-ways-keep open_ n R t w

prefix-ways-keep : (open_ : Type 0) (n : ℕ) (R : Term → Type 0) (t : Term) (spelling : Spelling) → (In (Prefixing t) R
    → KeepsTo open_ n R spelling)
    → WaysKeep open_ n R t (record no_ways { as_prefix = spelling })
unfolding no_ways
prefix-ways-keep open_ n R t spelling one way.as_prefix = one
prefix-ways-keep open_ n R t spelling one w = no-ways-keep open_ n R t w

argument-ways-keep : (open_ : Type 0) (n : ℕ) (R : Term → Type 0) (t : Term) (spelling : Spelling) → (In (Inside t) R
    → KeepsTo open_ n R spelling)
    → WaysKeep open_ n R t (argument_ways spelling)
unfolding argument_ways no_ways
argument-ways-keep open_ n R t spelling one way.as_argument = λ h. one (insides R t h)
argument-ways-keep open_ n R t spelling one w = no-ways-keep open_ n R t w

encoding-ways-keep : (open_ : Type 0) (n : ℕ) (R : Term → Type 0) (t : Term) (spelling : (encoding : ℕ) → Spelling) (raw : Term
    → Type 0) → In (λ x. Shut (raw x) x) (Inside t)
    → ((here : ℕ) → In raw (OrOpen R) → KeepsTo ⊥ here (OrOpen R) (spelling here)) → WaysKeep open_ n R t (encoding_ways spelling)
unfolding encoding_ways no_ways
encoding-ways-keep open_ n R t spelling raw shut one way.as_encoding = λ h. begun-keeps open_ n R spelling (λ here. one here (shut-or-open R raw (λ x s. h x (s.0, shut x s))))
encoding-ways-keep open_ n R t spelling raw shut one w = no-ways-keep open_ n R t w

-- a symbol
whole-ways-keep : (open_ : Type 0) (n : ℕ) (R : Term → Type 0) (t : Term) (spelling : Spelling) → (In (λ x. Shut (Inside t x) x) R
    → KeepsTo open_ n R spelling)
    → WaysKeep open_ n R t (record no_ways { as_encoding = spelling })
unfolding no_ways
whole-ways-keep open_ n R t spelling one way.as_encoding = λ h. keeps-behind open_ n R spelling (one h)
whole-ways-keep open_ n R t spelling one w = no-ways-keep open_ n R t w

letters-keep : (open_ : Type 0) (n : ℕ) (R : Term → Type 0) (letters : List ℕ) (own between : Spelling) → KeepsTo open_ n R own
    → KeepsTo open_ n R between → KeepsTo open_ n R (with_letters letters own between)
unfolding with_letters
letters-keep open_ n R [] own between one two = one
letters-keep open_ n R (l ∷ ls) own between one two = in-N-and-E-keeps open_ n R (l ∷ ls) between two

name-ways-keep : (open_ : Type 0) (n : ℕ) (R : Term → Type 0) (t : Term) (type own prefix between : Spelling) (before : Bool → Spelling
    → Spelling)
    → In (Whole t) (Unqualified t) → In (Whole t) (Prefixing t)
    → (In (Inside t) R → KeepsTo open_ n R type) → (In (Inside t) R → KeepsTo open_ n R own) → (In (Inside t) R → KeepsTo open_ n R prefix)
    → (In (Inside t) R → KeepsTo open_ n R between)
    → (In (Whole t) R → (in_type : Bool) (arguments : Spelling) → KeepsTo open_ n R arguments → KeepsTo open_ n R (before in_type arguments))
    → WaysKeep open_ n R t (name_ways n t type own prefix between before)
unfolding name_ways no_ways
name-ways-keep open_ n R t type own prefix between before same front typed owned prefixed betweened befored way.as_type = component-kept open_ n R t type typed
name-ways-keep open_ n R t type own prefix between before same front typed owned prefixed betweened befored way.under_qualifiers = λ h. component-kept open_ n R t type typed (λ x w. h x (same x w))
name-ways-keep open_ n R t type own prefix between before same front typed owned prefixed betweened befored way.as_prefix = λ h. component-keeps open_ n R t prefix (its open_ n R t (λ x w. h x (front x w))) (prefixed (λ x i. h x (front x
    (inr i))))
name-ways-keep open_ n R t type own prefix between before same front typed owned prefixed betweened befored way.between_N_and_E = betweened
name-ways-keep open_ n R t type own prefix between before same front typed owned prefixed betweened befored way.as_name = λ h letters. letters-keep open_ n R letters own between (owned h) (betweened h)
name-ways-keep open_ n R t type own prefix between before same front typed owned prefixed betweened befored way.before = befored
name-ways-keep open_ n R t type own prefix between before same front typed owned prefixed betweened befored way.as_argument = component-kept open_ n R t type typed
name-ways-keep open_ n R t type own prefix between before same front typed owned prefixed betweened befored w = no-ways-keep open_ n R t w

function-type-ways-keep : (open_ : Type 0) (n : ℕ) (R : Term → Type 0) (t : Term) (spelling : Spelling) → In (Inside t) (Unqualified t)
    → In (Whole t) (Prefixing t)
    → (In (Inside t) R → KeepsTo open_ n R spelling)
    → WaysKeep open_ n R t (record (type_ways (component n t spelling)) { under_qualifiers = spelling })
unfolding type_ways no_ways
function-type-ways-keep open_ n R t spelling same front one way.as_type = component-kept open_ n R t spelling one
function-type-ways-keep open_ n R t spelling same front one way.under_qualifiers = λ h. one (λ x i. h x (same x i))
function-type-ways-keep open_ n R t spelling same front one way.as_prefix = λ h. component-kept open_ n R t spelling one (λ x w. h x (front x w))
function-type-ways-keep open_ n R t spelling same front one way.before = λ h in_type arguments more. and-keeps open_ n R (component n t spelling) arguments (component-kept open_ n R t spelling one h) more
function-type-ways-keep open_ n R t spelling same front one way.as_argument = component-kept open_ n R t spelling one
function-type-ways-keep open_ n R t spelling same front one w = no-ways-keep open_ n R t w

local-ways-keep : (open_ : Type 0) (n : ℕ) (R : Term → Type 0) (t : Term) (spelling : (letters : List ℕ) → Spelling)
    → In (Whole t) (Unqualified t) → In (Whole t) (Prefixing t)
    → (In (Inside t) R → (letters : List ℕ) → KeepsTo open_ n R (spelling letters))
    → WaysKeep open_ n R t (record (type_ways (component n t (spelling []))) { as_name = spelling })
unfolding type_ways no_ways
local-ways-keep open_ n R t spelling same front one way.as_name = one
local-ways-keep open_ n R t spelling same front one w = typed-keep open_ n R t (spelling []) same front (λ h. one h []) w

list-ways-keep : (open_ : Type 0) (n : ℕ) (R : Term → Type 0) (t : Term) (parameters more_parameters elements : Spelling)
    → (In (Inside t) R → KeepsTo open_ n R parameters) → (In (Inside t) R → KeepsTo open_ n R more_parameters)
    → (In (Inside t) R → KeepsTo open_ n R elements) → WaysKeep open_ n R t (record no_ways {
      as_parameters = parameters;
      as_more_parameters = more_parameters;
      as_elements = elements;
    })
unfolding no_ways
list-ways-keep open_ n R t parameters more_parameters elements one two three way.as_parameters = one
list-ways-keep open_ n R t parameters more_parameters elements one two three way.as_more_parameters = two
list-ways-keep open_ n R t parameters more_parameters elements one two three way.as_elements = three
list-ways-keep open_ n R t parameters more_parameters elements one two three w = no-ways-keep open_ n R t w

-- ## Spellings with bytes around them

behind-text-keeps : (open_ : Type 0) (n : ℕ) (R : Term → Type 0) (bytes : List ℕ) (one : Spelling) → KeepsTo open_ n R one
    → KeepsTo open_ n R (text bytes and one)
behind-text-keeps open_ n R bytes one keeps = and-keeps open_ n R (text bytes) one (text-keeps open_ n R bytes) keeps

before-text-keeps : (open_ : Type 0) (n : ℕ) (R : Term → Type 0) (one : Spelling) (bytes : List ℕ) → KeepsTo open_ n R one
    → KeepsTo open_ n R (one and text bytes)
before-text-keeps open_ n R one bytes keeps = and-keeps open_ n R one (text bytes) keeps (text-keeps open_ n R bytes)

between-texts-keep : (open_ : Type 0) (n : ℕ) (R : Term → Type 0) (front : List ℕ) (one : Spelling) (back : List ℕ) → KeepsTo open_ n R one
    → KeepsTo open_ n R (text front and one and text back)
between-texts-keep open_ n R front one back keeps =
    behind-text-keeps open_ n R front (one and text back) (before-text-keeps open_ n R one back keeps)

-- an encoding between bytes
encoding-between-keeps : (open_ : Type 0) (n : ℕ) (R : Term → Type 0) (front : List ℕ) (one : Spelling) (back : List ℕ) → 0 < length front
    → KeepsBehind open_ n R one → KeepsTo open_ n R (text front and one and text back)
encoding-between-keeps open_ n R front one back some keeps =
    behind-bytes-keeps open_ n R front (one and text back) some
    (behind-and-keeps open_ n R one (text back) keeps (text-keeps open_ n R back))

entity-keeps : (open_ : Type 0) (n : ℕ) (R : Term → Type 0) (letters : List ℕ) (between : Spelling) (one_piece : Bool)
    → KeepsTo open_ n R between
    → KeepsTo open_ n R (elim one_piece as (λ _. Spelling) [ true ↦ between | false ↦ in_N_and_E letters between ])
entity-keeps open_ n R letters between true one = one
entity-keeps open_ n R letters between false one = in-N-and-E-keeps open_ n R letters between one

local-keeps : (open_ : Type 0) (n : ℕ) (R : Term → Type 0) (around : Spelling) (entity : Term) (between : Spelling)
    (discriminator : Option (List ℕ)) (letters : List ℕ) → KeepsBehind open_ n R around → KeepsTo open_ n R between
    → KeepsTo open_ n R (local_text around entity between discriminator letters)
unfolding local_text entity_text
local-keeps open_ n R around entity between discriminator letters one two =
    let name : Spelling = elim (is_one_piece entity) as (λ _. Spelling) [ true ↦ between | false ↦ in_N_and_E letters between ] in
    behind-bytes-keeps open_ n R (codes "Z") (around and (text (codes "E") and (name and text (discriminator_text discriminator))))
    (omega arith)
    (behind-and-keeps open_ n R around (text (codes "E") and (name and text (discriminator_text discriminator))) one
    (between-texts-keep open_ n R (codes "E") name (discriminator_text discriminator)
    (entity-keeps open_ n R letters between (is_one_piece entity) two)))

-- a name that needs an N, or doesn't
named-keeps : (open_ : Type 0) (n : ℕ) (R : Term → Type 0) (needs_N : Bool) (between : Spelling) → KeepsTo open_ n R between
    → KeepsTo open_ n R (elim needs_N as (λ _. Spelling) [ true ↦ in_N_and_E [] between | false ↦ between ])
named-keeps open_ n R true between one = in-N-and-E-keeps open_ n R [] between one
named-keeps open_ n R false between one = one

-- the signature of a lambda with parameters of its own; the signature is an encoding of its own
signature-keeps : (open_ : Type 0) (n : ℕ) (R : Term → Type 0) (t : Term) → ((here : ℕ) → WaysKeep ⊥ here (OrOpen R) t (ways_of here t))
    → In (λ x. Shut (Inside t x) x) R → KeepsBehind open_ n R (begun (λ here. (ways_of here t).as_parameters))
signature-keeps open_ n R t one h =
    begun-keeps open_ n R (λ here. (ways_of here t).as_parameters) (λ here. (one here way.as_parameters) (shut-or-open R (Inside t) h))

thunk-some : (kind : Thunk) → 0 < length (thunk_text kind)
unfolding thunk_text
thunk-some (adjusting a) = omega arith
thunk-some (covariant a b) = omega arith

-- ## Trees

pub keeps : (t : Term) (open_ : Type 0) (n : ℕ) (R : Term → Type 0) → WaysKeep open_ n R t (ways_of n t)
unfolding ways_of no_ways function_text
keeps (symbol e suffix) open_ n R =
    whole-ways-keep open_ n R (symbol e suffix) _ (λ h.
    encoding-between-keeps open_ n R (codes "_Z") (ways_of n e).as_encoding suffix (omega arith)
    ((keeps e open_ n R way.as_encoding) (λ x s. h x (s.0, s))))
keeps (function name q ref returned parameters) open_ n R =
    encoding-ways-keep open_ n R (function name q ref returned parameters) _ (λ x. Inside name x ⊎
    (Whole returned x ⊎ Inside parameters x)) (λ x s. s) (λ here h.
    and-keeps ⊥ here (OrOpen R) ((ways_of here name).as_name (name_letters q ref))
    ((ways_of here returned).as_type and (ways_of here parameters).as_parameters)
    ((keeps name ⊥ here (OrOpen R) way.as_name) (λ x i. h x (inl i)) (name_letters q ref))
    (and-keeps ⊥ here (OrOpen R) (ways_of here returned).as_type (ways_of here parameters).as_parameters
    ((keeps returned ⊥ here (OrOpen R) way.as_type) (λ x w. h x (inr (inl w))))
    ((keeps parameters ⊥ here (OrOpen R) way.as_parameters) (λ x i. h x (inr (inr i))))))
keeps (object name q ref) open_ n R =
    encoding-ways-keep open_ n R (object name q ref) _ (Inside name) (λ x s. s) (λ here h. (keeps name ⊥ here (OrOpen R) way.as_name) h
    (name_letters q ref))
keeps (of_name l name q ref) open_ n R =
    encoding-ways-keep open_ n R (of_name l name q ref) _ (Inside name) (λ x s. s) (λ here h.
    behind-text-keeps ⊥ here (OrOpen R) (special_code l) ((ways_of here name).as_name (name_letters q ref))
    ((keeps name ⊥ here (OrOpen R) way.as_name) h (name_letters q ref)))
keeps (alone p) open_ n R =
    let spelling : Spelling = (ways_of n p).as_piece in
    let one : In (Inside p) R → KeepsTo open_ n R spelling = (keeps p open_ n R way.as_piece) in
    name-ways-keep open_ n R (alone p) spelling spelling spelling spelling
    (λ in_type arguments. template_before n (alone p) false spelling arguments) (λ x w. w) (λ x w. w) one one one one
    (λ h in_type arguments more. before-keeps open_ n R (alone p) false spelling arguments (its open_ n R (alone p) h)
    (one (insides R (alone p) h)) more)
keeps (in_std p) open_ n R =
    let spelling : Spelling = text (codes "St") and (ways_of n p).as_piece in
    let one : In (Inside p) R → KeepsTo open_ n R spelling =
    λ h. behind-text-keeps open_ n R (codes "St") (ways_of n p).as_piece ((keeps p open_ n R way.as_piece) h) in
    name-ways-keep open_ n R (in_std p) (elim (is_operator p) [ true ↦ in_N_and_E [] spelling | false ↦ spelling ]) spelling spelling spelling
    (λ in_type arguments. template_before n (in_std p) (in_type && is_operator p) spelling arguments) (λ x w. w) (λ x w. w)
    (λ h. named-keeps open_ n R (is_operator p) spelling (one h)) one one one
    (λ h in_type arguments more. before-keeps open_ n R (in_std p) (in_type && is_operator p) spelling arguments (its open_ n R (in_std p) h)
    (one (insides R (in_std p) h)) more)
keeps (within prefix p) open_ n R =
    let between : Spelling = (ways_of n prefix).as_prefix and (ways_of n p).as_piece in
    let one : In (Inside (within prefix p)) R → KeepsTo open_ n R between =
    λ h. and-keeps open_ n R (ways_of n prefix).as_prefix (ways_of n p).as_piece
    ((keeps prefix open_ n R way.as_prefix) (λ x w. h x (inl w))) ((keeps p open_ n R way.as_piece) (λ x i. h x (inr i))) in
    let spelled : In (Inside (within prefix p)) R → KeepsTo open_ n R (in_N_and_E [] between) =
    λ h. in-N-and-E-keeps open_ n R [] between (one h) in
    name-ways-keep open_ n R (within prefix p) (in_N_and_E [] between) (in_N_and_E [] between) between between
    (λ in_type arguments. template_before n (within prefix p) true between arguments) (λ x w. w) (λ x w. w) spelled spelled one one
    (λ h in_type arguments more. before-keeps open_ n R (within prefix p) true between arguments (its open_ n R (within prefix p) h)
    (one (insides R (within prefix p) h)) more)
keeps (tagged of_structor name tag) open_ n R =
    let own : Term = tagged of_structor name tag in
    let bytes : List ℕ = codes "B" ++ counted tag in
    let needs_N : Bool = is_nested (without_tags name) in
    let between : Spelling = (ways_of n name).between_N_and_E and text bytes in
    let spelled : Spelling = elim needs_N as (λ _. Spelling) [ true ↦ in_N_and_E [] between | false ↦ between ] in
    let one : In (Inside own) R → KeepsTo open_ n R between =
    λ h. before-text-keeps open_ n R (ways_of n name).between_N_and_E bytes ((keeps name open_ n R way.between_N_and_E) h) in
    let two : In (Inside own) R → KeepsTo open_ n R spelled = λ h. named-keeps open_ n R needs_N between (one h) in
    name-ways-keep open_ n R own spelled spelled between between (λ in_type arguments. template_before n own needs_N between arguments)
    (λ x w. w) (λ x w. w) two two one one
    (λ h in_type arguments more. before-keeps open_ n R own needs_N between arguments (its open_ n R own h) (one (insides R own h)) more)
keeps (instance template arguments) open_ n R =
    let own : Term = instance template arguments in
    let a = keeps template open_ n R in
    let t : Ways = ways_of n template in
    let behind : Spelling = text (codes "I") and (ways_of n arguments).as_elements and text (codes "E") in
    let two : In (Inside own) R → KeepsTo open_ n R behind =
    λ h. between-texts-keep open_ n R (codes "I") (ways_of n arguments).as_elements (codes "E")
    ((keeps arguments open_ n R way.as_elements) (λ x i. h x (inr i))) in
    name-ways-keep open_ n R own (t.before true behind) (t.before false behind) (t.as_prefix and behind)
    (t.between_N_and_E and ended n template and behind) (λ in_type more. component n own nothing and more) (λ x w. w) (λ x w. w)
    (λ h. (a way.before) (λ x w. h x (inl w)) true behind (two h))
    (λ h. (a way.before) (λ x w. h x (inl w)) false behind (two h))
    (λ h. and-keeps open_ n R t.as_prefix behind (a way.as_prefix (λ x w. h x (inl (prefix-whole template x (Inside template x) w)))) (two h))
    (λ h. and-keeps open_ n R t.between_N_and_E (ended n template and behind) (a way.between_N_and_E (λ x i. h x (inl (inr i))))
    (and-keeps open_ n R (ended n template) behind (ended-keeps open_ n R template (λ c. h template (inl (inl (c, refl))))) (two h)))
    (λ h in_type more one. and-keeps open_ n R (component n own nothing) more
    (component-keeps open_ n R own nothing (its open_ n R own h) (nothing-keeps open_ n R)) one)
keeps (local e entity discriminator) open_ n R =
    local-ways-keep open_ n R (local e entity discriminator)
    (local_text (ways_of n e).as_encoding entity (ways_of n entity).between_N_and_E discriminator) (λ x w. w) (λ x w. w)
    (λ h letters. local-keeps open_ n R (ways_of n e).as_encoding entity (ways_of n entity).between_N_and_E discriminator letters
    ((keeps e open_ n R way.as_encoding) (λ x s. h x (inl s))) ((keeps entity open_ n R way.between_N_and_E) (λ x i. h x (inr i))))
keeps (function_type c_linkage noexcept ref returned parameters) open_ n R =
    function-type-ways-keep open_ n R (function_type c_linkage noexcept ref returned parameters)
    (function_text c_linkage noexcept ref (ways_of n returned).as_type (ways_of n parameters).as_parameters) (λ x i. i) (λ x w. w)
    (λ h. behind-text-keeps open_ n R (cond noexcept (codes "Do") [] ++ codes "F" ++ cond c_linkage (codes "Y") [])
    ((ways_of n returned).as_type and (ways_of n parameters).as_parameters and text (mark_letter ref ++ codes "E"))
    (and-keeps open_ n R (ways_of n returned).as_type ((ways_of n parameters).as_parameters and text (mark_letter ref ++ codes "E"))
    ((keeps returned open_ n R way.as_type) (λ x w. h x (inl w)))
    (before-text-keeps open_ n R (ways_of n parameters).as_parameters (mark_letter ref ++ codes "E")
    ((keeps parameters open_ n R way.as_parameters) (λ x i. h x (inr i))))))
keeps nil open_ n R =
    list-ways-keep open_ n R nil _ nothing nothing (λ h. text-keeps open_ n R (codes "v")) (λ h. nothing-keeps open_ n R)
    (λ h. nothing-keeps open_ n R)
keeps (list first rest) open_ n R =
    let f = keeps first open_ n R in
    let r = keeps rest open_ n R in
    let more : In (Inside (list first rest)) R → KeepsTo open_ n R ((ways_of n first).as_type and (ways_of n rest).as_more_parameters) =
    λ h. and-keeps open_ n R (ways_of n first).as_type (ways_of n rest).as_more_parameters (f way.as_type (λ x w. h x (inl w)))
    (r way.as_more_parameters (λ x i. h x (inr i))) in
    list-ways-keep open_ n R (list first rest) _ _ _ more more
    (λ h. and-keeps open_ n R (ways_of n first).as_argument (ways_of n rest).as_elements (f way.as_argument (λ x w. h x (inl w)))
    (r way.as_elements (λ x i. h x (inr i))))
-- Generated by tools/trees.py. The other trees, by how they are spelled
keeps (special l type) open_ n R = encoding-ways-keep open_ n R (special l type) _ (Whole type) (λ x s. s) (λ here h. behind-text-keeps ⊥ here (OrOpen R) (codes "T" ++ l ∷ []) ((ways_of here type).as_type) (keeps type ⊥ here (OrOpen R) way.as_type h))
keeps (thunk kind e) open_ n R = encoding-ways-keep open_ n R (thunk kind e) _ (λ x. Shut (Inside e x) x) (λ x s. s.1) (λ here h. behind-bytes-keeps ⊥ here (OrOpen R) (thunk_text kind) ((ways_of here e).as_encoding) (thunk-some kind) (keeps e ⊥ here (OrOpen R) way.as_encoding h))
keeps (construction derived digits parent) open_ n R = encoding-ways-keep open_ n R (construction derived digits parent) _ (λ x. Whole derived x ⊎ Whole parent x) (λ x s. s) (λ here h. behind-text-keeps ⊥ here (OrOpen R) (codes "TC") ((ways_of here derived).as_type and text (digits ++ codes "_") and (ways_of here parent).as_type) (and-keeps ⊥ here (OrOpen R) ((ways_of here derived).as_type) (text (digits ++ codes "_") and (ways_of here parent).as_type) (keeps derived ⊥ here (OrOpen R) way.as_type (λ x w. h x (inl w))) (behind-text-keeps ⊥ here (OrOpen R) (digits ++ codes "_") ((ways_of here parent).as_type) (keeps parent ⊥ here (OrOpen R) way.as_type (λ x w. h x (inr w))))))
keeps (clone letter e) open_ n R = encoding-ways-keep open_ n R (clone letter e) _ (λ x. Shut (Inside e x) x) (λ x s. s.1) (λ here h. behind-text-keeps ⊥ here (OrOpen R) (codes "GT") (text (letter ∷ []) and (ways_of here e).as_encoding) (behind-bytes-keeps ⊥ here (OrOpen R) (letter ∷ []) ((ways_of here e).as_encoding) (omega arith) (keeps e ⊥ here (OrOpen R) way.as_encoding h)))
keeps (holder name) open_ n R = prefix-ways-keep open_ n R (holder name) _ (λ h. and-keeps open_ n R ((ways_of n name).as_prefix) (text (codes "M")) (keeps name open_ n R way.as_prefix (λ x w. h x (inr w))) (text-keeps open_ n R (codes "M")))
keeps (of_default digits entity) open_ n R = no-ways-keep open_ n R (of_default digits entity)
keeps (abbreviation l) open_ n R = type-ways-keep open_ n R (abbreviation l) _ (λ x w. w) (λ x w. w) (λ h. text-keeps open_ n R (codes "S" ++ l ∷ []))
keeps (parameter k) open_ n R = typed-keep open_ n R (parameter k) _ (λ x w. w) (λ x w. w) (λ h. text-keeps open_ n R (codes "T" ++ ordinal k))
keeps (source internal name) open_ n R = piece-ways-keep open_ n R (source internal name) _ (λ h. text-keeps open_ n R (cond internal (codes "L") [] ++ counted name))
keeps (operator a b) open_ n R = piece-ways-keep open_ n R (operator a b) _ (λ h. text-keeps open_ n R (a ∷ b ∷ []))
keeps (literal_operator name) open_ n R = piece-ways-keep open_ n R (literal_operator name) _ (λ h. text-keeps open_ n R (codes "li" ++ counted name))
keeps (constructor digit) open_ n R = piece-ways-keep open_ n R (constructor digit) _ (λ h. text-keeps open_ n R (codes "C" ++ digit ∷ []))
keeps (destructor digit) open_ n R = piece-ways-keep open_ n R (destructor digit) _ (λ h. text-keeps open_ n R (codes "D" ++ digit ∷ []))
keeps (inheriting digit class) open_ n R = no-ways-keep open_ n R (inheriting digit class)
keeps (lambda parameters k) open_ n R = piece-ways-keep open_ n R (lambda parameters k) _ (λ h. behind-text-keeps open_ n R (codes "Ul") ((ways_of n parameters).as_parameters and text (codes "E" ++ ordinal (k - 1))) (and-keeps open_ n R ((ways_of n parameters).as_parameters) (text (codes "E" ++ ordinal (k - 1))) (keeps parameters open_ n R way.as_parameters h) (text-keeps open_ n R (codes "E" ++ ordinal (k - 1)))))
keeps (generic_lambda parameters number) open_ n R = piece-ways-keep open_ n R (generic_lambda parameters number) _ (λ h. behind-bytes-keeps open_ n R (codes "Ul") (begun (λ here. (ways_of here parameters).as_parameters) and text (codes "E" ++ ordinal (number - 1))) (omega arith) (behind-and-keeps open_ n R (begun (λ here. (ways_of here parameters).as_parameters)) (text (codes "E" ++ ordinal (number - 1))) (signature-keeps open_ n R parameters (λ here. keeps parameters ⊥ here (OrOpen R)) h) (text-keeps open_ n R (codes "E" ++ ordinal (number - 1)))))
keeps (unnamed k) open_ n R = piece-ways-keep open_ n R (unnamed k) _ (λ h. text-keeps open_ n R (codes "Ut" ++ ordinal (k - 1)))
keeps string_literal open_ n R = piece-ways-keep open_ n R string_literal _ (λ h. text-keeps open_ n R (codes "s"))
keeps (conversion type) open_ n R = piece-ways-keep open_ n R (conversion type) _ (λ h. behind-text-keeps open_ n R (codes "cv") ((ways_of n type).as_type) (keeps type open_ n R way.as_type h))
keeps (enumeration type name) open_ n R = piece-ways-keep open_ n R (enumeration type name) _ (λ h. behind-text-keeps open_ n R (codes "Ue") ((ways_of n type).as_type and text (counted name)) (and-keeps open_ n R ((ways_of n type).as_type) (text (counted name)) (keeps type open_ n R way.as_type h) (text-keeps open_ n R (counted name))))
keeps (bindings names) open_ n R = no-ways-keep open_ n R (bindings names)
keeps (declaring heads parameters) open_ n R = no-ways-keep open_ n R (declaring heads parameters)
keeps (builtin code) open_ n R = type-ways-keep open_ n R (builtin code) _ (λ x w. w) (λ x w. w) (λ h. text-keeps open_ n R code)
keeps (sized_float digits end) open_ n R = type-ways-keep open_ n R (sized_float digits end) _ (λ x w. w) (λ x w. w) (λ h. behind-text-keeps open_ n R (codes "DF") (text digits and text (end ∷ [])) (behind-text-keeps open_ n R digits (text (end ∷ [])) (text-keeps open_ n R (end ∷ []))))
keeps (constrained letter concept) open_ n R = no-ways-keep open_ n R (constrained letter concept)
keeps (vendor name) open_ n R = typed-keep open_ n R (vendor name) _ (λ x w. w) (λ x w. w) (λ h. text-keeps open_ n R (codes "u" ++ counted name))
keeps (pointer type) open_ n R = typed-keep open_ n R (pointer type) _ (λ x w. w) (λ x w. w) (λ h. behind-text-keeps open_ n R (codes "P") ((ways_of n type).as_type) (keeps type open_ n R way.as_type h))
keeps (lvalue type) open_ n R = typed-keep open_ n R (lvalue type) _ (λ x w. w) (λ x w. w) (λ h. behind-text-keeps open_ n R (codes "R") ((ways_of n type).as_type) (keeps type open_ n R way.as_type h))
keeps (rvalue type) open_ n R = typed-keep open_ n R (rvalue type) _ (λ x w. w) (λ x w. w) (λ h. behind-text-keeps open_ n R (codes "O") ((ways_of n type).as_type) (keeps type open_ n R way.as_type h))
keeps (array digits type) open_ n R = typed-keep open_ n R (array digits type) _ (λ x w. w) (λ x w. w) (λ h. behind-text-keeps open_ n R (codes "A" ++ digits ++ codes "_") ((ways_of n type).as_type) (keeps type open_ n R way.as_type h))
keeps (bounded bound type) open_ n R = no-ways-keep open_ n R (bounded bound type)
keeps (member_pointer class member) open_ n R = typed-keep open_ n R (member_pointer class member) _ (λ x w. w) (λ x w. w) (λ h. behind-text-keeps open_ n R (codes "M") ((ways_of n class).as_type and (ways_of n member).as_type) (and-keeps open_ n R ((ways_of n class).as_type) ((ways_of n member).as_type) (keeps class open_ n R way.as_type (λ x w. h x (inl w))) (keeps member open_ n R way.as_type (λ x w. h x (inr w)))))
keeps (qualified q type) open_ n R = typed-keep open_ n R (qualified q type) _ (λ x w. w) (λ x w. w) (λ h. behind-text-keeps open_ n R (qualifier_letters q) ((ways_of n type).under_qualifiers) (keeps type open_ n R way.under_qualifiers h))
keeps (vector digits type) open_ n R = typed-keep open_ n R (vector digits type) _ (λ x w. w) (λ x w. w) (λ h. behind-text-keeps open_ n R (codes "Dv" ++ digits ++ codes "_") ((ways_of n type).as_type) (keeps type open_ n R way.as_type h))
keeps (complex type) open_ n R = typed-keep open_ n R (complex type) _ (λ x w. w) (λ x w. w) (λ h. behind-text-keeps open_ n R (codes "C") ((ways_of n type).as_type) (keeps type open_ n R way.as_type h))
keeps (decltype operand) open_ n R = no-ways-keep open_ n R (decltype operand)
keeps (expansion pattern) open_ n R = typed-keep open_ n R (expansion pattern) _ (λ x w. w) (λ x w. w) (λ h. behind-text-keeps open_ n R (codes "Dp") ((ways_of n pattern).as_type) (keeps pattern open_ n R way.as_type h))
keeps (integer type value) open_ n R = argument-ways-keep open_ n R (integer type value) _ (λ h. behind-text-keeps open_ n R (codes "L") ((ways_of n type).as_type and text (signed_text value ++ codes "E")) (and-keeps open_ n R ((ways_of n type).as_type) (text (signed_text value ++ codes "E")) (keeps type open_ n R way.as_type h) (text-keeps open_ n R (signed_text value ++ codes "E"))))
keeps (boolean truth) open_ n R = argument-ways-keep open_ n R (boolean truth) _ (λ h. text-keeps open_ n R (cond truth (codes "Lb1E") (codes "Lb0E")))
keeps null_pointer open_ n R = argument-ways-keep open_ n R null_pointer _ (λ h. text-keeps open_ n R (codes "LDnE"))
keeps (encoding_literal e) open_ n R = argument-ways-keep open_ n R (encoding_literal e) _ (λ h. behind-bytes-keeps open_ n R (codes "L_Z") ((ways_of n e).as_encoding and text (codes "E")) (omega arith) (behind-and-keeps open_ n R ((ways_of n e).as_encoding) (text (codes "E")) (keeps e open_ n R way.as_encoding h) (text-keeps open_ n R (codes "E"))))
keeps (address_of e) open_ n R = argument-ways-keep open_ n R (address_of e) _ (λ h. behind-bytes-keeps open_ n R (codes "XadL_Z") ((ways_of n e).as_encoding and text (codes "EE")) (omega arith) (behind-and-keeps open_ n R ((ways_of n e).as_encoding) (text (codes "EE")) (keeps e open_ n R way.as_encoding h) (text-keeps open_ n R (codes "EE"))))
keeps (operation one two u w) open_ n R = no-ways-keep open_ n R (operation one two u w)
keeps (function_parameter digits) open_ n R = no-ways-keep open_ n R (function_parameter digits)
keeps (pack elements) open_ n R = argument-ways-keep open_ n R (pack elements) _ (λ h. behind-text-keeps open_ n R (codes "J") ((ways_of n elements).as_elements and text (codes "E")) (and-keeps open_ n R ((ways_of n elements).as_elements) (text (codes "E")) (keeps elements open_ n R way.as_elements h) (text-keeps open_ n R (codes "E"))))
keeps absent open_ n R = no-ways-keep open_ n R absent
