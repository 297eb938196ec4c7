-- The components that a tree adds, in each way in which it is spelled.
use Rattle.cpp_press_laws.proofs.Basics.{◌≡◌, ℕ, suc, ◌+◌, ◌-◌, ◌<◌, inl, inr, List, [], ◌∷◌, ◌++◌, Option, Bool, true, false, refl, arith, cond, ◌&&◌, codes, ◌and◌, text, RefQualifier, Term, symbol, function, object, special, thunk, of_name, construction, clone, alone, in_std, within, instance, local, holder, tagged, of_default, abbreviation, parameter, source, operator, literal_operator, constructor, destructor, inheriting, lambda, generic_lambda, unnamed, string_literal, conversion, builtin, sized_float, constrained, vendor, pointer, lvalue, rvalue, array, bounded, member_pointer, function_type, qualified, vector, complex, decltype, expansion, integer, boolean, null_pointer, encoding_literal, address_of, operation, function_parameter, pack, nil, list, absent, enumeration, bindings, declaring, without_tags, counted, ordinal, signed_text, qualifier_letters, mark_letter, name_letters, special_code, thunk_text, discriminator_text, Spelling, component, Ways, no_ways, type_ways, function_text, in_N_and_E, with_letters, name_ways, template_before, is_operator, is_nested, is_one_piece, entity_text, local_text, begun, encoding_ways, piece_ways, argument_ways, ways_of, pressed, IsTemplateOf, IsTemplateBehindLetters, IsNeverReferred, ComponentsAreMarked, ComponentsAreApart, spelled_components, marked_components}
use Rattle.cpp_press_laws.specs.MarkedComponents as marks
use Rattle.cpp_press_laws.specs.MarkedPressing as marked
use Rattle.cpp_press_laws.proofs.Ways as way
use Rattle.cpp_press_laws.proofs.Ways.{Way}
use Rattle.cpp_press_laws.proofs.Components.Growing.{size, Grows, and-grows, text-grows, nothing-grows, more-grows, front, back, never-referred-grows, component-grows, before-grows}

-- what a tree within a whole tree adds in each of its ways, with marks and without
abbrev pub WayGrows : Way → (whole t : Term) → marked.Ways → Ways → Type 0
WayGrows way.as_type whole t w p = Grows whole (suc (size t)) w.as_type p.as_type
WayGrows way.under_qualifiers whole t w p = Grows whole (suc (size t)) w.under_qualifiers p.under_qualifiers
WayGrows way.as_prefix whole t w p = Grows whole (suc (size t)) w.as_prefix p.as_prefix
WayGrows way.between_N_and_E whole t w p = ((x : Term) → IsTemplateOf x t → IsNeverReferred x whole) → Grows whole (size t) w.between_N_and_E p.between_N_and_E
WayGrows way.as_piece whole t w p = Grows whole (suc (size t)) w.as_piece p.as_piece
WayGrows way.as_encoding whole t w p = Grows whole (suc (size t)) w.as_encoding p.as_encoding
WayGrows way.as_name whole t w p =
    (letters : List ℕ) → ((x : Term) → IsTemplateBehindLetters x t letters → IsNeverReferred x whole)
    → Grows whole (suc (size t)) (w.as_name letters) (p.as_name letters)
WayGrows way.before whole t w p =
    (in_type : Bool) (arguments : marks.Spelling) (behind : Spelling) (m : ℕ) → size t < m → Grows whole m arguments behind
    → Grows whole m (w.before in_type arguments) (p.before in_type behind)
WayGrows way.as_argument whole t w p = Grows whole (suc (size t)) w.as_argument p.as_argument
WayGrows way.as_parameters whole t w p = Grows whole (suc (size t)) w.as_parameters p.as_parameters
WayGrows way.as_more_parameters whole t w p = Grows whole (suc (size t)) w.as_more_parameters p.as_more_parameters
WayGrows way.as_elements whole t w p = Grows whole (suc (size t)) w.as_elements p.as_elements

abbrev pub WaysGrow : (whole t : Term) → marked.Ways → Ways → Type 0
WaysGrow whole t w p = (each : Way) → WayGrows each whole t w p

-- ## The ways of each sort

no-ways-grow : (whole t : Term) → WaysGrow whole t marked.no_ways no_ways
unfolding marked.no_ways no_ways
no-ways-grow whole t way.as_type = nothing-grows
no-ways-grow whole t way.under_qualifiers = nothing-grows
no-ways-grow whole t way.as_prefix = nothing-grows
no-ways-grow whole t way.between_N_and_E = λ never. nothing-grows
no-ways-grow whole t way.as_piece = nothing-grows
no-ways-grow whole t way.as_encoding = nothing-grows
no-ways-grow whole t way.as_name = λ letters never. nothing-grows
no-ways-grow whole t way.before = λ in_type arguments behind m low one. one
no-ways-grow whole t way.as_argument = nothing-grows
no-ways-grow whole t way.as_parameters = nothing-grows
no-ways-grow whole t way.as_more_parameters = nothing-grows
no-ways-grow whole t way.as_elements = nothing-grows

type-ways-grow : (whole t : Term) {spelling : marks.Spelling} {plain : Spelling} → Grows whole (suc (size t)) spelling plain
    → WaysGrow whole t (marked.type_ways spelling) (type_ways plain)
unfolding marked.type_ways type_ways marked.no_ways no_ways
type-ways-grow whole t one way.as_type = one
type-ways-grow whole t one way.under_qualifiers = one
type-ways-grow whole t one way.as_prefix = one
type-ways-grow whole t one way.before = λ in_type arguments behind m low more. and-grows (more-grows one low) more
type-ways-grow whole t one way.as_argument = one
type-ways-grow whole t one w = no-ways-grow whole t w

piece-ways-grow : (whole t : Term) {spelling : marks.Spelling} {plain : Spelling} → Grows whole (suc (size t)) spelling plain
    → WaysGrow whole t (marked.piece_ways spelling) (piece_ways plain)
unfolding marked.piece_ways piece_ways marked.no_ways no_ways
piece-ways-grow whole t one way.as_piece = one
piece-ways-grow whole t one w = no-ways-grow whole t w

prefix-ways-grow : (whole t : Term) {spelling : marks.Spelling} {plain : Spelling} → Grows whole (suc (size t)) spelling plain
    → WaysGrow whole t (record marked.no_ways { as_prefix = spelling }) (record no_ways { as_prefix = plain })
unfolding marked.no_ways no_ways
prefix-ways-grow whole t one way.as_prefix = one
prefix-ways-grow whole t one w = no-ways-grow whole t w

argument-ways-grow : (whole t : Term) {spelling : marks.Spelling} {plain : Spelling} → Grows whole (suc (size t)) spelling plain
    → WaysGrow whole t (marked.argument_ways spelling) (argument_ways plain)
unfolding marked.argument_ways argument_ways marked.no_ways no_ways
argument-ways-grow whole t one way.as_argument = one
argument-ways-grow whole t one w = no-ways-grow whole t w

encoding-ways-grow : (whole t : Term) {spelling : (encoding : ℕ) → marks.Spelling} {plain : (encoding : ℕ) → Spelling}
    → ((encoding : ℕ) → Grows whole (suc (size t)) (spelling encoding) (plain encoding))
    → WaysGrow whole t (marked.encoding_ways spelling) (encoding_ways plain)
unfolding marked.encoding_ways marked.begun encoding_ways begun marked.no_ways no_ways
encoding-ways-grow whole t one way.as_encoding = record { adds = λ place components. (one place).adds place components }
encoding-ways-grow whole t one w = no-ways-grow whole t w

-- the spelling of an encoding, which gets the encoding's own place
begun-grows : {whole : Term} {m : ℕ} {spelling : (encoding : ℕ) → marks.Spelling} {plain : (encoding : ℕ) → Spelling}
    → ((encoding : ℕ) → Grows whole m (spelling encoding) (plain encoding)) → Grows whole m (marked.begun spelling) (begun plain)
unfolding marked.begun begun
begun-grows one = record { adds = λ place components. (one place).adds place components }

in-N-and-E-grows : {whole : Term} {m : ℕ} {spelling : marks.Spelling} {plain : Spelling} (letters : List ℕ) → Grows whole m spelling plain
    → Grows whole m (marked.in_N_and_E letters spelling) (in_N_and_E letters plain)
unfolding marked.in_N_and_E in_N_and_E
in-N-and-E-grows letters one = front (codes "N" ++ letters) (back one (codes "E"))

letters-grow : (whole t : Term) {own between : marks.Spelling} {plain enclosed : Spelling} (letters : List ℕ) → Grows whole (suc (size t)) own plain
    → (((x : Term) → IsTemplateOf x t → IsNeverReferred x whole) → Grows whole (size t) between enclosed)
    → ((x : Term) → IsTemplateBehindLetters x t letters → IsNeverReferred x whole)
    → Grows whole (suc (size t)) (marked.with_letters letters own between) (with_letters letters plain enclosed)
unfolding marked.with_letters with_letters
letters-grow whole t [] one two never = one
letters-grow whole t (l ∷ ls) one two never = in-N-and-E-grows (l ∷ ls) (more-grows (two (λ x is. never x is)) (omega arith))

-- a name that isn't local: as a type, as an encoding's own name, as a prefix, between N and E, and before arguments
name-ways-grow : (whole : Term) (n : ℕ) (t : Term) {type own prefix between : marks.Spelling} {before : Bool → marks.Spelling → marks.Spelling}
    {plain owner first enclosed : Spelling} {ahead : Bool → Spelling → Spelling}
    → Grows whole (size t) type plain → Grows whole (suc (size t)) own owner → Grows whole (size t) prefix first
    → (((x : Term) → IsTemplateOf x t → IsNeverReferred x whole) → Grows whole (size t) between enclosed)
    → ((in_type : Bool) (arguments : marks.Spelling) (behind : Spelling) (m : ℕ) → size t < m → Grows whole m arguments behind
    → Grows whole m (before in_type arguments) (ahead in_type behind))
    → WaysGrow whole t (marked.name_ways n t type own prefix between before) (name_ways n t plain owner first enclosed ahead)
unfolding marked.name_ways name_ways marked.no_ways no_ways
name-ways-grow whole n t {type} {plain = plain} typed owned prefixed betweened befored way.as_type = component-grows n t (omega arith) typed
name-ways-grow whole n t {type} {plain = plain} typed owned prefixed betweened befored way.under_qualifiers = component-grows n t (omega arith) typed
name-ways-grow whole n t {type} {plain = plain} typed owned prefixed betweened befored way.as_prefix = component-grows n t (omega arith) prefixed
name-ways-grow whole n t {type} {plain = plain} typed owned prefixed betweened befored way.between_N_and_E = betweened
name-ways-grow whole n t {type} {plain = plain} typed owned prefixed betweened befored way.as_name = λ letters never. letters-grow whole t letters owned betweened never
name-ways-grow whole n t {type} {plain = plain} typed owned prefixed betweened befored way.before = befored
name-ways-grow whole n t {type} {plain = plain} typed owned prefixed betweened befored way.as_argument = component-grows n t (omega arith) typed
name-ways-grow whole n t {type} {plain = plain} typed owned prefixed betweened befored w = no-ways-grow whole t w

-- a type that is a component
typed : (whole : Term) (n : ℕ) (t : Term) {spelling : marks.Spelling} {plain : Spelling} → Grows whole (size t) spelling plain
    → WaysGrow whole t (marked.type_ways (marks.component n t spelling)) (type_ways (component n t plain))
typed whole n t one = type-ways-grow whole t (component-grows n t (omega arith) one)

-- a function type right under qualifiers is no component
function-type-ways-grow : (whole : Term) (n : ℕ) (t : Term) {spelling : marks.Spelling} {plain : Spelling} → Grows whole (size t) spelling plain
    → WaysGrow whole t (record (marked.type_ways (marks.component n t spelling)) { under_qualifiers = spelling })
    (record (type_ways (component n t plain)) { under_qualifiers = plain })
unfolding marked.type_ways type_ways marked.no_ways no_ways
function-type-ways-grow whole n t one way.under_qualifiers = more-grows one (omega arith)
function-type-ways-grow whole n t one w = typed whole n t one w

-- an entity in the scope of an encoding
local-ways-grow : (whole : Term) (n : ℕ) (t : Term) (spelling : (letters : List ℕ) → marks.Spelling) (plain : (letters : List ℕ) → Spelling)
    → ((letters : List ℕ) → Grows whole (size t) (spelling letters) (plain letters))
    → WaysGrow whole t (record (marked.type_ways (marks.component n t (spelling []))) { as_name = spelling })
    (record (type_ways (component n t (plain []))) { as_name = plain })
unfolding marked.type_ways type_ways marked.no_ways no_ways
local-ways-grow whole n t spelling plain one way.as_name = λ letters never. more-grows (one letters) (omega arith)
local-ways-grow whole n t spelling plain one w = typed whole n t (one []) w

-- a symbol
whole-ways-grow : (whole t : Term) {spelling : marks.Spelling} {plain : Spelling} → Grows whole (suc (size t)) spelling plain
    → WaysGrow whole t (record marked.no_ways { as_encoding = spelling }) (record no_ways { as_encoding = plain })
unfolding marked.no_ways no_ways
whole-ways-grow whole t one way.as_encoding = one
whole-ways-grow whole t one w = no-ways-grow whole t w

list-ways-grow : (whole t : Term) {parameters rest elements : marks.Spelling} {one others plain : Spelling}
    → Grows whole (suc (size t)) parameters one → Grows whole (suc (size t)) rest others → Grows whole (suc (size t)) elements plain
    → WaysGrow whole t (record marked.no_ways { as_parameters = parameters; as_more_parameters = rest; as_elements = elements })
    (record no_ways { as_parameters = one; as_more_parameters = others; as_elements = plain })
unfolding marked.no_ways no_ways
list-ways-grow whole t one two three way.as_parameters = one
list-ways-grow whole t one two three way.as_more_parameters = two
list-ways-grow whole t one two three way.as_elements = three
list-ways-grow whole t one two three w = no-ways-grow whole t w

-- ## Spellings of several parts

-- a name that needs an N, or doesn't
named-grows : {whole : Term} {m : ℕ} {between : marks.Spelling} {plain : Spelling} (letters : List ℕ) (needs_none : Bool)
    → Grows whole m between plain
    → Grows whole m (elim needs_none as (λ _. marks.Spelling) [ true ↦ between | false ↦ marked.in_N_and_E letters between ])
    (elim needs_none as (λ _. Spelling) [ true ↦ plain | false ↦ in_N_and_E letters plain ])
named-grows letters true one = one
named-grows letters false one = in-N-and-E-grows letters one

typed-std : {whole : Term} {m : ℕ} {spelling : marks.Spelling} {plain : Spelling} (needs_N : Bool) → Grows whole m spelling plain
    → Grows whole m (elim needs_N as (λ _. marks.Spelling) [ true ↦ marked.in_N_and_E [] spelling | false ↦ spelling ])
    (elim needs_N as (λ _. Spelling) [ true ↦ in_N_and_E [] plain | false ↦ plain ])
typed-std true one = in-N-and-E-grows [] one
typed-std false one = one

local-grows : {whole : Term} {m : ℕ} {around between : marks.Spelling} {outer plain : Spelling} (entity : Term) (discriminator : Option (List ℕ))
    (letters : List ℕ) → Grows whole m around outer → Grows whole m between plain
    → Grows whole m (marked.local_text around entity between discriminator letters) (local_text outer entity plain discriminator letters)
unfolding marked.local_text marked.entity_text local_text entity_text
local-grows entity discriminator letters one two =
    front (codes "Z") (and-grows one (front (codes "E") (back (named-grows letters (is_one_piece entity) two) (discriminator_text discriminator))))

function-text-grows : {whole : Term} {m : ℕ} {returned parameters : marks.Spelling} {first rest : Spelling} (c_linkage noexcept : Bool)
    (ref : RefQualifier) → Grows whole m returned first → Grows whole m parameters rest
    → Grows whole m (marked.function_text c_linkage noexcept ref returned parameters) (function_text c_linkage noexcept ref first rest)
unfolding marked.function_text function_text
function-text-grows c_linkage noexcept ref one two =
    front (cond noexcept (codes "Do") [] ++ codes "F" ++ cond c_linkage (codes "Y") []) (and-grows one (back two (mark_letter ref ++ codes "E")))

-- ## Each tree

abbrev pub StandsIn : Term → Term → Type 0
StandsIn t whole = (x : Term) → IsNeverReferred x t → IsNeverReferred x whole

-- a name without a prefix
plain-name-ways-grow : (whole p t : Term) (n : ℕ) → size t ≡ suc (size p) → (needs_N : Bool) {type spelling : marks.Spelling} {typed plain : Spelling}
    → Grows whole (size t) type typed → Grows whole (size t) spelling plain
    → WaysGrow whole t
    (marked.name_ways n t type spelling spelling spelling
    (λ in_type arguments. marked.template_before n t (in_type && needs_N) spelling arguments))
    (name_ways n t typed plain plain plain (λ in_type arguments. template_before n t (in_type && needs_N) plain arguments))
plain-name-ways-grow whole p t n sized needs_N one grown =
    name-ways-grow whole n t one (more-grows grown (omega arith)) grown (λ never. grown)
    (λ in_type arguments behind m low more. before-grows n t (in_type && needs_N) low grown more)

-- a name with one tag more
tagged-name-ways-grow : (whole name t : Term) (n : ℕ) → size t ≡ suc (size name) → (needs_N : Bool) {between : marks.Spelling} {plain : Spelling}
    → Grows whole (size name) between plain
    → WaysGrow whole t
    (marked.name_ways n t (elim needs_N as (λ _. marks.Spelling) [ true ↦ marked.in_N_and_E [] between | false ↦ between ])
    (elim needs_N as (λ _. marks.Spelling) [ true ↦ marked.in_N_and_E [] between | false ↦ between ]) between between
    (λ in_type arguments. marked.template_before n t needs_N between arguments))
    (name_ways n t (elim needs_N as (λ _. Spelling) [ true ↦ in_N_and_E [] plain | false ↦ plain ])
    (elim needs_N as (λ _. Spelling) [ true ↦ in_N_and_E [] plain | false ↦ plain ]) plain plain
    (λ in_type arguments. template_before n t needs_N plain arguments))
tagged-name-ways-grow whole name t n sized needs_N one =
    let grown = more-grows one (omega (arith, sized)) in
    name-ways-grow whole n t (typed-std needs_N grown) (typed-std needs_N (more-grows one (omega (arith, sized)))) grown (λ never. grown)
    (λ in_type arguments behind m low more. before-grows n t needs_N low grown more)

pub ways-grow : (whole t : Term) → StandsIn t whole → (n : ℕ) → WaysGrow whole t (marked.ways_of n t) (ways_of n t)
unfolding marked.ways_of ways_of size marked.no_ways no_ways
ways-grow whole (symbol e suffix) in_whole n =
    whole-ways-grow whole (symbol e suffix) (front (codes "_Z") (back (more-grows (ways-grow whole e in_whole n way.as_encoding) (omega arith)) suffix))
ways-grow whole (function name q ref returned parameters) in_whole n =
    encoding-ways-grow whole (function name q ref returned parameters) (λ here.
    and-grows
    (more-grows ((ways-grow whole name (λ x is. in_whole x (inr (inl is))) here way.as_name) (name_letters q ref) (λ x is. in_whole x (inl is))) (omega arith))
    (and-grows (more-grows (ways-grow whole returned (λ x is. in_whole x (inr (inr (inl is)))) here way.as_type) (omega arith))
    (more-grows (ways-grow whole parameters (λ x is. in_whole x (inr (inr (inr is)))) here way.as_parameters) (omega arith))))
ways-grow whole (object name q ref) in_whole n =
    encoding-ways-grow whole (object name q ref) (λ here.
    more-grows ((ways-grow whole name (λ x is. in_whole x (inr is)) here way.as_name) (name_letters q ref) (λ x is. in_whole x (inl is))) (omega arith))
ways-grow whole (of_name l name q ref) in_whole n =
    encoding-ways-grow whole (of_name l name q ref) (λ here. front (special_code l)
    (more-grows ((ways-grow whole name (λ x is. in_whole x (inr is)) here way.as_name) (name_letters q ref) (λ x is. in_whole x (inl is))) (omega arith)))
ways-grow whole (alone p) in_whole n =
    let a = (ways-grow whole p in_whole n way.as_piece) in
    name-ways-grow whole n (alone p) a (more-grows a (omega arith)) a (λ never. a)
    (λ in_type arguments behind m low more. before-grows n (alone p) false low a more)
ways-grow whole (in_std p) in_whole n =
    let a = front (codes "St") (ways-grow whole p in_whole n way.as_piece) in
    plain-name-ways-grow whole p (in_std p) n refl (is_operator p) (typed-std (is_operator p) a) a
ways-grow whole (within prefix p) in_whole n =
    let a = ways-grow whole prefix (λ x is. in_whole x (inl is)) n in
    let b = ways-grow whole p (λ x is. in_whole x (inr is)) n in
    within-grows (and-grows (more-grows (a way.as_prefix) (omega arith)) (more-grows (b way.as_piece) (omega arith)))
  where
    within-grows : Grows whole (suc (size prefix + size p)) ((marked.ways_of n prefix).as_prefix and (marked.ways_of n p).as_piece)
        ((ways_of n prefix).as_prefix and (ways_of n p).as_piece) → WaysGrow whole (within prefix p) (marked.ways_of n (within prefix p))
        (ways_of n (within prefix p))
    within-grows one =
        name-ways-grow whole n (within prefix p) (in-N-and-E-grows [] one) (more-grows (in-N-and-E-grows [] one) (omega arith)) one (λ never. one)
        (λ in_type arguments behind m low more. before-grows n (within prefix p) true low one more)
ways-grow whole (instance template arguments) in_whole n =
    let b = ways-grow whole arguments (λ x is. in_whole x (inr is)) n in
    instance-grows (ways-grow whole template (λ x is. in_whole x (inl is)) n) (front (codes "I") (back (more-grows (b way.as_elements) (omega arith)) (codes "E")))
  where
    instance-grows : WaysGrow whole template (marked.ways_of n template) (ways_of n template)
        → Grows whole (suc (size template + size arguments)) (text (codes "I") and (marked.ways_of n arguments).as_elements and text (codes "E"))
        (text (codes "I") and (ways_of n arguments).as_elements and text (codes "E"))
        → WaysGrow whole (instance template arguments) (marked.ways_of n (instance template arguments)) (ways_of n (instance template arguments))
    instance-grows a grown =
        name-ways-grow whole n (instance template arguments) (a way.before true _ _ _ (omega arith) grown)
        (more-grows (a way.before false _ _ (suc (size template + size arguments)) (omega arith) grown) (omega arith))
        (and-grows (more-grows (a way.as_prefix) (omega arith)) grown)
        (λ never. and-grows (more-grows (a way.between_N_and_E (λ x is. never x (inr is))) (omega arith))
        (and-grows (never-referred-grows n template (omega arith) (never template (inl refl))) grown))
        (λ in_type ahead behind k low more. and-grows (component-grows n (instance template arguments) low nothing-grows) more)
ways-grow whole (local e entity discriminator) in_whole n =
    let a = ways-grow whole e (λ x is. in_whole x (inr (inl is))) n in
    let b = ways-grow whole entity (λ x is. in_whole x (inr (inr is))) n in
    local-ways-grow whole n (local e entity discriminator) _ _ (λ letters. local-grows entity discriminator letters
    (more-grows (a way.as_encoding) (omega arith)) (more-grows (b way.between_N_and_E (λ x is. in_whole x (inl is))) (omega arith)))
ways-grow whole (tagged of_structor name tag) in_whole n =
    tagged-name-ways-grow whole name (tagged of_structor name tag) n refl (is_nested (without_tags name))
    (back (ways-grow whole name (λ x is. in_whole x (inr is)) n way.between_N_and_E (λ x is. in_whole x (inl is))) (codes "B" ++ counted tag))
ways-grow whole (function_type c_linkage noexcept ref returned parameters) in_whole n =
    function-type-ways-grow whole n (function_type c_linkage noexcept ref returned parameters) (function-text-grows c_linkage noexcept ref
    (more-grows (ways-grow whole returned (λ x is. in_whole x (inl is)) n way.as_type) (omega arith))
    (more-grows (ways-grow whole parameters (λ x is. in_whole x (inr is)) n way.as_parameters) (omega arith)))
ways-grow whole nil in_whole n = list-ways-grow whole nil (text-grows (codes "v")) nothing-grows nothing-grows
ways-grow whole (list first rest) in_whole n =
    let a = ways-grow whole first (λ x is. in_whole x (inl is)) n in
    let b = ways-grow whole rest (λ x is. in_whole x (inr is)) n in
    let more : Grows whole (suc (suc (size first + size rest))) ((marked.ways_of n first).as_type and (marked.ways_of n rest).as_more_parameters)
    ((ways_of n first).as_type and (ways_of n rest).as_more_parameters) =
    and-grows (more-grows (a way.as_type) (omega arith)) (more-grows (b way.as_more_parameters) (omega arith)) in
    list-ways-grow whole (list first rest) more more
    (and-grows (more-grows (a way.as_argument) (omega arith)) (more-grows (b way.as_elements) (omega arith)))
-- Generated by tools/trees.py. The other trees, by how they are spelled
ways-grow whole (special l type) in_whole n = encoding-ways-grow whole (special l type) (λ here. front (codes "T" ++ l ∷ []) (more-grows (ways-grow whole type in_whole here way.as_type) (omega arith)))
ways-grow whole (thunk kind e) in_whole n = encoding-ways-grow whole (thunk kind e) (λ here. front (thunk_text kind) (more-grows (ways-grow whole e in_whole here way.as_encoding) (omega arith)))
ways-grow whole (construction derived digits parent) in_whole n = encoding-ways-grow whole (construction derived digits parent) (λ here. front (codes "TC") (and-grows (more-grows (ways-grow whole derived (λ x w. in_whole x (inl w)) here way.as_type) (omega arith)) (front (digits ++ codes "_") (more-grows (ways-grow whole parent (λ x w. in_whole x (inr w)) here way.as_type) (omega arith)))))
ways-grow whole (clone letter e) in_whole n = encoding-ways-grow whole (clone letter e) (λ here. front (codes "GT") (front (letter ∷ []) (more-grows (ways-grow whole e in_whole here way.as_encoding) (omega arith))))
ways-grow whole (holder name) in_whole n = prefix-ways-grow whole (holder name) (back (more-grows (ways-grow whole name in_whole n way.as_prefix) (omega arith)) (codes "M"))
ways-grow whole (of_default digits entity) in_whole n = no-ways-grow whole (of_default digits entity)
ways-grow whole (abbreviation l) in_whole n = type-ways-grow whole (abbreviation l) (text-grows (codes "S" ++ l ∷ []))
ways-grow whole (parameter k) in_whole n = typed whole n (parameter k) (text-grows (codes "T" ++ ordinal k))
ways-grow whole (source internal name) in_whole n = piece-ways-grow whole (source internal name) (text-grows (cond internal (codes "L") [] ++ counted name))
ways-grow whole (operator a b) in_whole n = piece-ways-grow whole (operator a b) (text-grows (a ∷ b ∷ []))
ways-grow whole (literal_operator name) in_whole n = piece-ways-grow whole (literal_operator name) (text-grows (codes "li" ++ counted name))
ways-grow whole (constructor digit) in_whole n = piece-ways-grow whole (constructor digit) (text-grows (codes "C" ++ digit ∷ []))
ways-grow whole (destructor digit) in_whole n = piece-ways-grow whole (destructor digit) (text-grows (codes "D" ++ digit ∷ []))
ways-grow whole (inheriting digit class) in_whole n = no-ways-grow whole (inheriting digit class)
ways-grow whole (lambda parameters k) in_whole n = piece-ways-grow whole (lambda parameters k) (front (codes "Ul") (back (more-grows (ways-grow whole parameters in_whole n way.as_parameters) (omega arith)) (codes "E" ++ ordinal (k - 1))))
ways-grow whole (generic_lambda parameters number) in_whole n = piece-ways-grow whole (generic_lambda parameters number) (front (codes "Ul") (back (begun-grows (λ here. more-grows (ways-grow whole parameters in_whole here way.as_parameters) (omega arith))) (codes "E" ++ ordinal (number - 1))))
ways-grow whole (unnamed k) in_whole n = piece-ways-grow whole (unnamed k) (text-grows (codes "Ut" ++ ordinal (k - 1)))
ways-grow whole string_literal in_whole n = piece-ways-grow whole string_literal (text-grows (codes "s"))
ways-grow whole (conversion type) in_whole n = piece-ways-grow whole (conversion type) (front (codes "cv") (more-grows (ways-grow whole type in_whole n way.as_type) (omega arith)))
ways-grow whole (enumeration type name) in_whole n = piece-ways-grow whole (enumeration type name) (front (codes "Ue") (back (more-grows (ways-grow whole type in_whole n way.as_type) (omega arith)) (counted name)))
ways-grow whole (bindings names) in_whole n = no-ways-grow whole (bindings names)
ways-grow whole (declaring heads parameters) in_whole n = no-ways-grow whole (declaring heads parameters)
ways-grow whole (builtin code) in_whole n = type-ways-grow whole (builtin code) (text-grows code)
ways-grow whole (sized_float digits end) in_whole n = type-ways-grow whole (sized_float digits end) (front (codes "DF") (front digits (text-grows (end ∷ []))))
ways-grow whole (constrained letter concept) in_whole n = no-ways-grow whole (constrained letter concept)
ways-grow whole (vendor name) in_whole n = typed whole n (vendor name) (text-grows (codes "u" ++ counted name))
ways-grow whole (pointer type) in_whole n = typed whole n (pointer type) (front (codes "P") (more-grows (ways-grow whole type in_whole n way.as_type) (omega arith)))
ways-grow whole (lvalue type) in_whole n = typed whole n (lvalue type) (front (codes "R") (more-grows (ways-grow whole type in_whole n way.as_type) (omega arith)))
ways-grow whole (rvalue type) in_whole n = typed whole n (rvalue type) (front (codes "O") (more-grows (ways-grow whole type in_whole n way.as_type) (omega arith)))
ways-grow whole (array digits type) in_whole n = typed whole n (array digits type) (front (codes "A" ++ digits ++ codes "_") (more-grows (ways-grow whole type in_whole n way.as_type) (omega arith)))
ways-grow whole (bounded bound type) in_whole n = no-ways-grow whole (bounded bound type)
ways-grow whole (member_pointer class member) in_whole n = typed whole n (member_pointer class member) (front (codes "M") (and-grows (more-grows (ways-grow whole class (λ x w. in_whole x (inl w)) n way.as_type) (omega arith)) (more-grows (ways-grow whole member (λ x w. in_whole x (inr w)) n way.as_type) (omega arith))))
ways-grow whole (qualified q type) in_whole n = typed whole n (qualified q type) (front (qualifier_letters q) (more-grows (ways-grow whole type in_whole n way.under_qualifiers) (omega arith)))
ways-grow whole (vector digits type) in_whole n = typed whole n (vector digits type) (front (codes "Dv" ++ digits ++ codes "_") (more-grows (ways-grow whole type in_whole n way.as_type) (omega arith)))
ways-grow whole (complex type) in_whole n = typed whole n (complex type) (front (codes "C") (more-grows (ways-grow whole type in_whole n way.as_type) (omega arith)))
ways-grow whole (decltype operand) in_whole n = no-ways-grow whole (decltype operand)
ways-grow whole (expansion pattern) in_whole n = typed whole n (expansion pattern) (front (codes "Dp") (more-grows (ways-grow whole pattern in_whole n way.as_type) (omega arith)))
ways-grow whole (integer type value) in_whole n = argument-ways-grow whole (integer type value) (front (codes "L") (back (more-grows (ways-grow whole type in_whole n way.as_type) (omega arith)) (signed_text value ++ codes "E")))
ways-grow whole (boolean truth) in_whole n = argument-ways-grow whole (boolean truth) (text-grows (cond truth (codes "Lb1E") (codes "Lb0E")))
ways-grow whole null_pointer in_whole n = argument-ways-grow whole null_pointer (text-grows (codes "LDnE"))
ways-grow whole (encoding_literal e) in_whole n = argument-ways-grow whole (encoding_literal e) (front (codes "L_Z") (back (more-grows (ways-grow whole e in_whole n way.as_encoding) (omega arith)) (codes "E")))
ways-grow whole (address_of e) in_whole n = argument-ways-grow whole (address_of e) (front (codes "XadL_Z") (back (more-grows (ways-grow whole e in_whole n way.as_encoding) (omega arith)) (codes "EE")))
ways-grow whole (operation one two u w) in_whole n = no-ways-grow whole (operation one two u w)
ways-grow whole (function_parameter digits) in_whole n = no-ways-grow whole (function_parameter digits)
ways-grow whole (pack elements) in_whole n = argument-ways-grow whole (pack elements) (front (codes "J") (back (more-grows (ways-grow whole elements in_whole n way.as_elements) (omega arith)) (codes "E")))
ways-grow whole absent in_whole n = no-ways-grow whole absent

-- if two compared components of a tree are equal, only the first one is spelled out
pub components-apart : ComponentsAreApart
unfolding marked_components
components-apart t = ((ways-grow t t (λ x is. is) 0 way.as_encoding).adds 0 []).apart tt

pub components-marked : ComponentsAreMarked
unfolding marked_components spelled_components pressed
components-marked t = let a = (ways-grow t t (λ x is. is) 0 way.as_encoding).adds 0 [] in (a.bytes, a.same)
