-- A tree that fits adds the components in it or finds them, in each of its ways.
use Rattle.cpp_press_laws.proofs.Basics.{◌≡◌, ℕ, ◌+◌, ◌-◌, ◌≤◌, inl, inr, length, List, [], ◌∷◌, ◌++◌, Option, Some, None, Bool, true, false, ap, arith, sym, subst, codes, cond, ◌and◌, text, Qualifiers, RefQualifier, Term, symbol, function, object, special, thunk, of_name, construction, clone, alone, in_std, within, instance, local, holder, tagged, of_default, abbreviation, parameter, source, operator, literal_operator, constructor, destructor, inheriting, lambda, generic_lambda, unnamed, string_literal, conversion, builtin, sized_float, constrained, vendor, pointer, lvalue, rvalue, array, bounded, member_pointer, function_type, qualified, vector, complex, decltype, expansion, integer, boolean, null_pointer, encoding_literal, address_of, operation, function_parameter, pack, nil, list, absent, enumeration, bindings, declaring, count, has_return_type, Around, in_name, in_types, in_signature, under_expansion, first_around, counted, ordinal, signed_text, qualifier_letters, mark_letter, name_letters, special_code, thunk_text, Spelling, component, no_ways, type_ways, function_text, piece_ways, ways_of, pressed, spelled_components}
use Rattle.cpp_press_laws.proofs.Components.Lengths.{counted-long, source-long, ordinal-long, truth-long, builtin-long, letters-long, marks-long}
use Rattle.cpp_press_laws.proofs.Components.Keeping.{keeps}
use Rattle.cpp_press_laws.proofs.EveryWay.Encodings.{CountsArguments}
use Rattle.cpp_press_laws.proofs.Components.Parts.{IsComponent, Inside, Whole}
use Rattle.cpp_press_laws.proofs.Components.KnownTrees.{In}
use Rattle.cpp_press_laws.specs.Fits.{Standing, Fitting, Behind, as_component, either, Slot, any_type, bare_type, item_type, parameter_type, literal_type, nowhere, fits_nowhere, type_fits, piece_fits, fits_of, takes_all, NamesArgument, IsAbbreviation, IsBuiltin, SymbolFits, IsAbiMark}
use Rattle.cpp_press_laws.proofs.Slots.{each-slot}
use Rattle.cpp_press_laws.proofs.Fitting as fit
use Rattle.cpp_press_laws.proofs.Components.AddedWays.{AddsParts, Adds, Either, No, none-added, fewer-added, after-bytes, before-bytes, fewer-by, behind-and, and-adds, arguments_count, surplus, way_at, AtSlot, IsNotBare, WaysAdd, AddsAt, in-component, reference-adds, leaf-adds, no-whole, found-and-adds, component-at, type-ways-add, piece-ways-add, argument-ways-add, encoding-ways-add, nowhere-ways-add}
use Rattle.cpp_press_laws.proofs.Components.AddedNames.{alone-add, in-std-add, within-add, instance-add, local-add, tagged-add}

-- ## Types

parameter-add : (k : ℕ) → WaysAdd (parameter k) (fits_of (parameter k)) (λ n. ways_of n (parameter k))
unfolding fits_of fits_nowhere type_fits ways_of type_ways no_ways
parameter-add k = record {
  at = each;
  before = λ typed m around allowed G arguments Q more.
      and-adds 1 m m (omega arith) (whole (elim typed [ true ↦ named | false ↦ nowhere ]) around allowed) more;
}
  where
    named : Fitting
    named around allowed place cs = NamesArgument around allowed k

    whole : (fitting : Fitting) (around : Around) (allowed : Option ℕ) → Adds 1 around.encoding (Whole (parameter k))
        (as_component (parameter k) fitting around allowed) (component around.encoding (parameter k) (text (codes "T" ++ ordinal k)))
    whole fitting around allowed = in-component around allowed (parameter k) fitting (text (codes "T" ++ ordinal k))
        (leaf-adds 2 around.encoding (Inside (parameter k)) (fitting around allowed) (codes "T" ++ ordinal k) (omega (arith, ordinal-long k)) (λ x i. i))

    each : AddsAt (parameter k) (fits_of (parameter k)) (λ n. ways_of n (parameter k))
    each fit.as_type = λ slot around allowed. component-at slot _ (λ x w. w) (whole named around allowed) (whole named around allowed)
    each fit.as_prefix = λ around allowed. whole named around allowed
    each fit.as_prefix_template = λ around allowed. whole named around allowed
    each fit.as_argument = λ in_pack around allowed. whole named around allowed
    each w = (nowhere-ways-add (parameter k) (λ n. ways_of n (parameter k))).at w

abbreviation-add : (l : ℕ) → WaysAdd (abbreviation l) (fits_of (abbreviation l)) (λ n. ways_of n (abbreviation l))
unfolding fits_of fits_nowhere ways_of type_ways no_ways
abbreviation-add l = record {
  at = each;
  before = λ typed m around allowed G arguments Q more place cs fits.
      fewer-added (after-bytes m m (codes "S" ++ l ∷ []) (omega arith) (more (place + 2) cs fits.1))
      (λ x i. elim i [ inl w ↦ absurd (none x w) | inr q ↦ q ]);
}
  where
    lettered : Standing
    lettered place cs = IsAbbreviation l

    none : In (Whole (abbreviation l)) No
    none = no-whole (abbreviation l) (λ h. h) (λ x i. i)

    whole : (n : ℕ) → Adds 1 n (Whole (abbreviation l)) lettered (text (codes "S" ++ l ∷ []))
    whole n = leaf-adds 1 n (Whole (abbreviation l)) lettered (codes "S" ++ l ∷ []) (omega arith) none

    each : AddsAt (abbreviation l) (fits_of (abbreviation l)) (λ n. ways_of n (abbreviation l))
    each fit.as_type = λ slot around allowed. component-at slot _ (λ x w. w) (whole around.encoding) (whole around.encoding)
    each fit.as_prefix = λ around allowed. whole around.encoding
    each fit.as_prefix_template = λ around allowed. whole around.encoding
    each fit.as_argument = λ in_pack around allowed. whole around.encoding
    each w = (nowhere-ways-add (abbreviation l) (λ n. ways_of n (abbreviation l))).at w

builtin-add : (code : List ℕ) → WaysAdd (builtin code) (fits_of (builtin code)) (λ n. ways_of n (builtin code))
unfolding fits_of fits_nowhere ways_of type_ways no_ways
builtin-add code = record {
  at = each;
  before = (nowhere-ways-add (builtin code) (λ n. ways_of n (builtin code))).before;
}
  where
    whole : (slot : Slot) (n : ℕ) → Adds 1 n (Whole (builtin code)) (λ place cs. IsBuiltin slot code) (text code)
    whole slot n place cs fits =
        fewer-added (none-added 1 code (builtin-long slot code fits)) (no-whole (builtin code) (λ h. h) (λ x i. i))

    each : AddsAt (builtin code) (fits_of (builtin code)) (λ n. ways_of n (builtin code))
    each fit.as_type = λ slot around allowed. component-at slot _ (λ x w. w) (whole slot around.encoding) (whole slot around.encoding)
    each fit.as_argument = λ in_pack around allowed. whole item_type around.encoding
    each w = (nowhere-ways-add (builtin code) (λ n. ways_of n (builtin code))).at w

function-type-add : (c_linkage noexcept : Bool) (ref : RefQualifier) (returned parameters : Term)
    → WaysAdd returned (fits_of returned) (λ n. ways_of n returned) → WaysAdd parameters (fits_of parameters) (λ n. ways_of n parameters)
    → WaysAdd (function_type c_linkage noexcept ref returned parameters) (fits_of (function_type c_linkage noexcept ref returned parameters))
    (λ n. ways_of n (function_type c_linkage noexcept ref returned parameters))
unfolding fits_of fits_nowhere type_fits ways_of type_ways no_ways function_text way_at
function-type-add c_linkage noexcept ref returned parameters a b = record {
  at = each;
  before = λ typed m around allowed G arguments Q more. found-and-adds m around allowed own (λ n. text []) G
      (spelling around.encoding) arguments Q more;
}
  where
    own : Term
    own = function_type c_linkage noexcept ref returned parameters

    marks : List ℕ
    marks = cond noexcept (codes "Do") [] ++ codes "F" ++ cond c_linkage (codes "Y") []

    spelled : Fitting
    spelled around allowed place cs =
        (fits_of returned).as_type any_type around allowed (place + length marks) cs
        × Behind (text marks and (ways_of around.encoding returned).as_type)
        ((fits_of parameters).as_parameters parameter_type around allowed) place cs
        × IsAbiMark ref

    all_slots : Fitting
    all_slots around allowed place cs = (takes_all item_type ≡ true) × spelled around allowed place cs

    spelling : ℕ → Spelling
    spelling n = function_text c_linkage noexcept ref (ways_of n returned).as_type (ways_of n parameters).as_parameters

    spelled-adds : (around : Around) (allowed : Option ℕ)
        → Adds 2 around.encoding (Inside own) (spelled around allowed) (spelling around.encoding)
    spelled-adds around allowed place cs fits =
        let n : ℕ = around.encoding in
        let G : Standing = (fits_of parameters).as_parameters parameter_type around allowed in
        let end : List ℕ = mark_letter ref ++ codes "E" in
        after-bytes 1 2 marks (omega (arith, marks-long c_linkage noexcept)) (and-adds 1 0 1 (omega arith)
        (a.at fit.as_type any_type around allowed)
        (λ at ds h. before-bytes 0 0 end (omega arith) (b.at fit.as_parameters parameter_type tt around allowed at ds h))
        (place + length marks) cs (fits.0, behind-and (text marks) (ways_of n returned).as_type G place cs fits.1))

    whole : (around : Around) (allowed : Option ℕ) → Adds 1 around.encoding (Whole own) (as_component own spelled around allowed)
        (component around.encoding own (spelling around.encoding))
    whole around allowed = in-component around allowed own spelled (spelling around.encoding) (spelled-adds around allowed)

    types : (slot : Slot) (around : Around) (allowed : Option ℕ)
        → Adds 1 around.encoding (AtSlot slot own) ((fits_of own).as_type slot around allowed) (way_at slot (ways_of around.encoding own))
    types = each-slot _ (λ around allowed. whole around allowed) (λ around allowed place cs fits. fewer-by 2 1 (omega arith) (spelled-adds around allowed place cs fits)) (λ around allowed. whole around allowed) (λ around allowed. whole around allowed) (λ around allowed. reference-adds around allowed own (spelling around.encoding))

    each : AddsAt (function_type c_linkage noexcept ref returned parameters) (fits_of (function_type c_linkage noexcept ref returned parameters))
        (λ n. ways_of n (function_type c_linkage noexcept ref returned parameters))
    each fit.as_type = types
    each fit.as_prefix = λ around allowed. reference-adds around allowed own (spelling around.encoding)
    each fit.as_prefix_template = λ around allowed. reference-adds around allowed own (spelling around.encoding)
    each fit.as_argument = λ in_pack around allowed. in-component around allowed own all_slots (spelling around.encoding)
        (λ place cs fits. spelled-adds around allowed place cs fits.1)
    each w = (nowhere-ways-add (function_type c_linkage noexcept ref returned parameters) (λ n. ways_of n (function_type c_linkage noexcept ref returned parameters))).at w

-- ## Lists

list-add : (first rest : Term) → WaysAdd first (fits_of first) (λ n. ways_of n first) → WaysAdd rest (fits_of rest) (λ n. ways_of n rest)
    → WaysAdd (list first rest) (fits_of (list first rest)) (λ n. ways_of n (list first rest))
unfolding fits_of fits_nowhere ways_of no_ways way_at count
list-add first rest a b = record {
  at = each;
  before = (nowhere-ways-add (list first rest) (λ n. ways_of n (list first rest))).before;
}
  where
    whole-item : (slot : Slot) → IsNotBare slot → (around : Around) (allowed : Option ℕ)
        → Adds 1 around.encoding (Whole first) ((fits_of first).as_type slot around allowed) (ways_of around.encoding first).as_type
    whole-item any_type other around allowed = (a.at fit.as_type) any_type around allowed
    whole-item item_type other around allowed = (a.at fit.as_type) item_type around allowed
    whole-item parameter_type other around allowed = (a.at fit.as_type) parameter_type around allowed
    whole-item literal_type other around allowed = (a.at fit.as_type) literal_type around allowed
    whole-item bare_type other around allowed = absurd other

    items : (slot : Slot) → IsNotBare slot → (around : Around) (allowed : Option ℕ)
        → Adds 0 around.encoding (Inside (list first rest)) (λ place cs. (fits_of first).as_type slot around allowed place cs
        × Behind (ways_of around.encoding first).as_type ((fits_of rest).as_more_parameters slot around allowed) place cs)
        ((ways_of around.encoding first).as_type and (ways_of around.encoding rest).as_more_parameters)
    items slot other around allowed =
        and-adds 1 0 0 (omega arith) (whole-item slot other around allowed) (b.at fit.as_more_parameters slot other around allowed)

    each : AddsAt (list first rest) (fits_of (list first rest)) (λ n. ways_of n (list first rest))
    each fit.as_parameters = λ slot other around allowed place cs fits. items slot other around allowed place cs fits.1
    each fit.as_more_parameters = items
    each fit.as_elements = λ in_pack around allowed place cs fits. and-adds 1 (count rest) (count (list first rest))
        (omega arith) (a.at fit.as_argument in_pack around allowed) (b.at fit.as_elements in_pack around allowed) place cs (fits.0, fits.1)
    each w = (nowhere-ways-add (list first rest) (λ n. ways_of n (list first rest))).at w

nil-add : WaysAdd nil (fits_of nil) (λ n. ways_of n nil)
unfolding fits_of fits_nowhere ways_of no_ways count
nil-add = record {
  at = each;
  before = (nowhere-ways-add nil (λ n. ways_of n nil)).before;
}
  where
    each : AddsAt nil (fits_of nil) (λ n. ways_of n nil)
    each fit.as_parameters = λ slot other around allowed place cs fits. none-added 0 (codes "v") (omega arith)
    each fit.as_more_parameters = λ slot other around allowed place cs fits. none-added 0 [] (omega arith)
    each fit.as_elements = λ in_pack around allowed place cs fits. none-added 0 [] (omega arith)
    each w = (nowhere-ways-add nil (λ n. ways_of n nil)).at w

-- ## Encodings

returned-adds : (b : Bool) (returned : Term) (around : Around) (allowed : Option ℕ)
    → WaysAdd returned (fits_of returned) (λ n. ways_of n returned)
    → Adds 0 around.encoding (Whole returned) (λ place cs. either b ((fits_of returned).as_type item_type around allowed place cs)
    (returned ≡ absent))
    (ways_of around.encoding returned).as_type
unfolding either ways_of no_ways way_at
returned-adds true returned around allowed a place cs fits = fewer-by 1 0 (omega arith) (a.at fit.as_type item_type around allowed place cs fits)
returned-adds false returned around allowed a place cs same =
    subst (λ t. AddsParts 0 around.encoding (Whole t) cs ((ways_of around.encoding t).as_type place cs)) (sym same)
    (fewer-added (none-added 0 [] (omega arith)) (no-whole absent (λ h. h) (λ x i. i)))

function-add : (name : Term) (q : Qualifiers) (ref : RefQualifier) (returned parameters : Term)
    → WaysAdd name (fits_of name) (λ n. ways_of n name)
    → WaysAdd returned (fits_of returned) (λ n. ways_of n returned) → WaysAdd parameters (fits_of parameters) (λ n. ways_of n parameters)
    → WaysAdd (function name q ref returned parameters) (fits_of (function name q ref returned parameters))
    (λ n. ways_of n (function name q ref returned parameters))
unfolding fits_of ways_of in_name in_types way_at
function-add name q ref returned parameters a b c =
    encoding-ways-add (function name q ref returned parameters) _ _ (Either (Inside name) (Either (Whole returned) (Inside parameters)))
    (λ x s. s)
    (λ allowed here cs fits.
    let types : Around = in_types here name in
    let one : Spelling = (ways_of here name).as_name (name_letters q ref) in
    let two : Spelling = (ways_of here returned).as_type in
    let H : Standing = (fits_of parameters).as_parameters item_type types allowed in
    and-adds (arguments_count name) 0 0 (omega arith) (a.at fit.as_name q ref (in_name here) allowed)
    (and-adds 0 0 0 (omega arith) (returned-adds (has_return_type name) returned types allowed b) (c.at fit.as_parameters item_type tt types allowed))
    here cs (fits.0, (fits.1, behind-and one two H here cs fits.2)))

-- ## Trees

no-pieces : (t : Term) → (IsComponent t → ⊥) → In (Whole t) (Inside t)
no-pieces t never x (inl same) = absurd (never same.0)
no-pieces t never x (inr i) = i

leaf-piece-add : (p : Term) (fitting : Fitting) (bytes : List ℕ) → surplus p ≤ length bytes → In (Inside p) No
    → WaysAdd p (piece_fits fitting) (λ n. piece_ways (text bytes))
leaf-piece-add p fitting bytes long none =
    piece-ways-add p fitting (λ n. text bytes) (λ around allowed. leaf-adds (surplus p) around.encoding (Inside p) (fitting around allowed) bytes long none)

pub adds : (t : Term) → WaysAdd t (fits_of t) (λ n. ways_of n t)
unfolding fits_of ways_of in_name in_signature under_expansion way_at surplus
adds (symbol e suffix) = nowhere-ways-add (symbol e suffix) _
adds (function name q ref returned parameters) = function-add name q ref returned parameters (adds name) (adds returned) (adds parameters)
adds (object name q ref) =
    encoding-ways-add (object name q ref) _ _ (Inside name) (λ x s. s)
    (λ allowed here cs fits. fewer-by (arguments_count name) 0 (omega arith) ((adds name).at fit.as_name q ref (in_name here) allowed here cs fits.0))
adds (special l type) =
    encoding-ways-add (special l type) _ _ (Whole type) (λ x s. s)
    (λ allowed here cs fits. after-bytes 1 0 (codes "T" ++ l ∷ []) (omega arith)
    ((adds type).at fit.as_type any_type (in_name here) allowed (here + 2) cs fits.2))
adds (thunk kind e) =
    encoding-ways-add (thunk kind e) _ _ (Inside e) (λ x s. s)
    (λ allowed here cs fits. after-bytes 0 0 (thunk_text kind) (omega arith)
    ((adds e).at fit.as_encoding allowed here here (here + length (thunk_text kind)) cs fits.1))
adds (of_name l name q ref) =
    encoding-ways-add (of_name l name q ref) _ _ (Inside name) (λ x s. s)
    (λ allowed here cs fits. after-bytes (arguments_count name) 0 (special_code l) (omega arith)
    ((adds name).at fit.as_name q ref (in_name here) allowed (here + 2) cs fits.1))
adds (alone p) = alone-add p (adds p)
adds (in_std p) = in-std-add p (adds p)
adds (within prefix p) = within-add prefix p (adds prefix) (adds p)
adds (instance template arguments) = instance-add template arguments (adds template) (adds arguments)
adds (local e entity discriminator) = local-add e entity discriminator (adds e) (adds entity)
adds (tagged of_structor name tag) = tagged-add of_structor name tag
adds (abbreviation l) = abbreviation-add l
adds (parameter k) = parameter-add k
adds (source internal name) = piece-ways-add (source internal name) _ _ (λ around allowed place cs fits.
    fewer-added (none-added 2 (cond internal (codes "L") [] ++ counted name) (source-long internal name fits)) (λ x i. i))
adds (lambda parameters k) =
    piece-ways-add (lambda parameters k) _ _ (λ around allowed place cs fits.
    after-bytes 0 2 (codes "Ul") (omega arith) (before-bytes 0 0 (codes "E" ++ ordinal (k - 1)) (omega arith)
    ((adds parameters).at fit.as_parameters item_type tt (in_signature around) allowed (place + 2) cs fits.0)))
adds (builtin code) = builtin-add code
adds (vendor name) = type-ways-add (vendor name) _ _ (λ x w. w)
    (λ slot around allowed place cs fits. none-added 2 (codes "u" ++ counted name) (omega (arith, counted-long name)))
adds (member_pointer class member) = type-ways-add (member_pointer class member) _ _ (λ x w. w)
    (λ slot around allowed place cs fits.
    let n : ℕ = around.encoding in
    let G : Standing = (fits_of member).as_type any_type around allowed in
    after-bytes 1 2 (codes "M") (omega arith) (and-adds 1 1 1 (omega arith)
    ((adds class).at fit.as_type any_type around allowed) ((adds member).at fit.as_type any_type around allowed) (place + 1) cs
    (fits.0, behind-and (text (codes "M")) (ways_of n class).as_type G place cs fits.1)))
adds (function_type c_linkage noexcept ref returned parameters) =
    function-type-add c_linkage noexcept ref returned parameters (adds returned) (adds parameters)
adds (expansion pattern) = type-ways-add (expansion pattern) _ _ (λ x w. w) (λ slot around allowed place cs fits.
    after-bytes 1 2 (codes "Dp") (omega arith)
    ((adds pattern).at fit.as_type any_type (under_expansion around) fits.1.0 (place + 2) cs fits.1.1))
adds (integer type value) = argument-ways-add (integer type value) _ _ (no-pieces (integer type value) (λ h. h))
    (λ in_pack around allowed place cs fits. after-bytes 1 1 (codes "L") (omega arith) (before-bytes 1 1 (signed_text value ++ codes "E") (omega arith)
    ((adds type).at fit.as_type literal_type around allowed (place + 1) cs fits.0)))
adds (boolean truth) = argument-ways-add (boolean truth) _ _ (no-pieces (boolean truth) (λ h. h))
    (λ in_pack around allowed place cs fits. none-added 1 (cond truth (codes "Lb1E") (codes "Lb0E")) (truth-long truth))
adds null_pointer = argument-ways-add null_pointer _ _ (no-pieces null_pointer (λ h. h))
    (λ in_pack around allowed place cs fits. none-added 1 (codes "LDnE") (omega arith))
adds (encoding_literal e) = argument-ways-add (encoding_literal e) _ _ (no-pieces (encoding_literal e) (λ h. h))
    (λ in_pack around allowed place cs fits. after-bytes 0 1 (codes "L_Z") (omega arith) (before-bytes 0 0 (codes "E") (omega arith)
    (fewer-added ((adds e).at fit.as_encoding allowed around.encoding around.encoding (place + 3) cs fits) (λ x s. s.1))))
adds (address_of e) = argument-ways-add (address_of e) _ _ (no-pieces (address_of e) (λ h. h))
    (λ in_pack around allowed place cs fits. after-bytes 0 1 (codes "XadL_Z") (omega arith) (before-bytes 0 0 (codes "EE") (omega arith)
    (fewer-added ((adds e).at fit.as_encoding allowed around.encoding around.encoding (place + 6) cs fits) (λ x s. s.1))))
adds (pack elements) = argument-ways-add (pack elements) _ _ (no-pieces (pack elements) (λ h. h))
    (λ in_pack around allowed place cs fits. after-bytes (count elements) 1 (codes "J") (omega arith) (before-bytes (count elements) (count elements) (codes "E") (omega arith)
    ((adds elements).at fit.as_elements true around allowed (place + 1) cs fits.1)))
adds nil = nil-add
adds (list first rest) = list-add first rest (adds first) (adds rest)
-- Generated by tools/trees.py. The other trees, by how they are spelled
adds (construction derived digits parent) = nowhere-ways-add (construction derived digits parent) _
adds (clone letter e) = nowhere-ways-add (clone letter e) _
adds (holder name) = nowhere-ways-add (holder name) _
adds (of_default digits entity) = nowhere-ways-add (of_default digits entity) _
adds (operator a b) = leaf-piece-add (operator a b) _ _ (omega arith) (λ x i. i)
adds (literal_operator name) = leaf-piece-add (literal_operator name) _ _ (omega arith) (λ x i. i)
adds (constructor digit) = leaf-piece-add (constructor digit) _ _ (omega arith) (λ x i. i)
adds (destructor digit) = leaf-piece-add (destructor digit) _ _ (omega arith) (λ x i. i)
adds (inheriting digit class) = nowhere-ways-add (inheriting digit class) _
adds (generic_lambda parameters number) = nowhere-ways-add (generic_lambda parameters number) _
adds (unnamed k) = leaf-piece-add (unnamed k) _ _ (omega arith) (λ x i. i)
adds string_literal = leaf-piece-add string_literal _ _ (omega arith) (λ x i. i)
adds (conversion type) = nowhere-ways-add (conversion type) _
adds (enumeration type name) = nowhere-ways-add (enumeration type name) _
adds (bindings names) = nowhere-ways-add (bindings names) _
adds (declaring heads parameters) = nowhere-ways-add (declaring heads parameters) _
adds (sized_float digits end) = nowhere-ways-add (sized_float digits end) _
adds (constrained letter concept) = nowhere-ways-add (constrained letter concept) _
adds (pointer type) = type-ways-add (pointer type) _ _ (λ x w. w) (λ slot around allowed place cs fits. after-bytes 1 2 (codes "P") (omega arith) ((adds type).at fit.as_type any_type around allowed (place + length (codes "P")) cs fits))
adds (lvalue type) = type-ways-add (lvalue type) _ _ (λ x w. w) (λ slot around allowed place cs fits. after-bytes 1 2 (codes "R") (omega arith) ((adds type).at fit.as_type any_type around allowed (place + length (codes "R")) cs fits.1))
adds (rvalue type) = type-ways-add (rvalue type) _ _ (λ x w. w) (λ slot around allowed place cs fits. after-bytes 1 2 (codes "O") (omega arith) ((adds type).at fit.as_type any_type around allowed (place + length (codes "O")) cs fits.1))
adds (array digits type) = type-ways-add (array digits type) _ _ (λ x w. w) (λ slot around allowed place cs fits. after-bytes 1 2 (codes "A" ++ digits ++ codes "_") (omega arith) ((adds type).at fit.as_type any_type around allowed (place + length (codes "A" ++ digits ++ codes "_")) cs fits.2))
adds (bounded bound type) = nowhere-ways-add (bounded bound type) _
adds (qualified q type) = type-ways-add (qualified q type) _ _ (λ x w. w) (λ slot around allowed place cs fits. after-bytes 1 2 (qualifier_letters q) (omega (arith, letters-long q fits.1)) ((adds type).at fit.as_type bare_type around allowed (place + length (qualifier_letters q)) cs fits.2))
adds (vector digits type) = type-ways-add (vector digits type) _ _ (λ x w. w) (λ slot around allowed place cs fits. after-bytes 1 2 (codes "Dv" ++ digits ++ codes "_") (omega arith) ((adds type).at fit.as_type any_type around allowed (place + length (codes "Dv" ++ digits ++ codes "_")) cs fits.2))
adds (complex type) = type-ways-add (complex type) _ _ (λ x w. w) (λ slot around allowed place cs fits. after-bytes 1 2 (codes "C") (omega arith) ((adds type).at fit.as_type any_type around allowed (place + length (codes "C")) cs fits.1))
adds (decltype operand) = nowhere-ways-add (decltype operand) _
adds (operation one two u w) = nowhere-ways-add (operation one two u w) _
adds (function_parameter digits) = nowhere-ways-add (function_parameter digits) _
adds absent = nowhere-ways-add absent _

-- a symbol that fits has at most as many components as bytes
pub fitting-few : (t : Term) → SymbolFits t → length (spelled_components t) ≤ length (pressed t)
unfolding spelled_components pressed ways_of no_ways first_around
fitting-few (symbol e suffix) fits =
    let a = (adds e).at fit.as_encoding None 0 0 2 [] fits.0 in
    omega (arith, (after-bytes 0 0 (codes "_Z") (omega arith) (before-bytes 0 0 suffix (omega arith) a)).few)
fitting-few _ fits = absurd fits

-- a name that ends in arguments has at least as many bytes as arguments
pub arguments-counted : CountsArguments
unfolding arguments_count
arguments-counted t q ref around allowed place cs fits a is =
    omega (
      arith,
      ((adds t).at fit.as_name q ref around allowed place cs fits).few,
      ((keeps t around.encoding).as_name (name_letters q ref)).kept place cs,
      ap (λ o. elim o as (λ _. ℕ) [ None ↦ 0 | Some b ↦ count b ]) is,
    )
