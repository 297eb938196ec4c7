-- Local names and encodings are read in each of their ways.
use Rattle.cpp_press_laws.proofs.Basics.{◌≡◌, ℕ, ◌+◌, ◌≤◌, length, List, [], ◌∷◌, ◌++◌, Option, Some, None, Bool, true, false, refl, ap, arith, sym, subst, append-nil, length-append, ◌∙◌, codes, ◌and◌, text, nothing, Kind, ENCODING, COMPLETE_NAME, ITEMS, kinds, may_be_empty, Thunk, function, object, special, thunk, of_name, absent, Qualifiers, RefQualifier, local, Term, nil, list, instance, count, arguments_of, has_return_type, Around, Value, nothing_there, tree, tree_of, is_function_type, in_name, in_types, after, no_items, encoding_of, parameters, special_front, thunk_text, name_letters, special_code, discriminator_text, Component, Spelling, component, begun, encoding_ways, in_N_and_E, is_one_piece, entity_text, local_text, ways_of, no_ways, type_ways, Written, written, ReadsAt, Is, HasRoom, IsSmall, qualifiers_of, ref_of, named}
use Rattle.sym_shape.specs.declared.rule.Sym.TheVariants.{Kind as OfKind}
use Rattle.cpp_press_laws.proofs.ReadBack.Reading.{empty-reads, elsewhere, same-written}
use Rattle.cpp_press_laws.proofs.ReadBack.Arguments.{items-more}
use Rattle.cpp_press_laws.proofs.ReadBack.Names.{Extends}
use Rattle.cpp_press_laws.proofs.Components.Keeping.{Keeps, keeps-text, keeps-and, keeps-front, keeps-behind, keeps}
use Rattle.cpp_press_laws.proofs.ReadBack.Slots.{room-first, room-rest, ReadsAs, solid_kind, in-slot, fitting-in}
use Rattle.cpp_press_laws.proofs.ReadBack.Named.{ItemsRead}
use Rattle.cpp_press_laws.proofs.ReadBack.Between.{ExtendsWith, extends-with-behind-s, prefix-behind-s}
use Rattle.cpp_press_laws.proofs.ReadBack.Templates.{TypeRules, slot-rules}
use Rattle.cpp_press_laws.proofs.EveryWay.Every.{NameReads, EntityReads, template-value, Leads, typed-argument, reads-encoding, referred-before, reads-nowhere}
use Rattle.cpp_press_laws.proofs.EveryWay.Types.{Reading, ReadingAt}
use Rattle.cpp_press_laws.specs.Fits.{either, Role, in_type, in_name_with, letters_of, IsSpellableDiscriminator, Slot, any_type, bare_type, item_type, parameter_type, literal_type, Fitting, as_component, nowhere, Behind, type_fits, fits_nowhere, fits_of, IsAbiRole, IsAbiMark}
use Rattle.cpp_press_laws.proofs.Slots.{each-slot}
use Rattle.cpp_press_laws.proofs.Spots as spot
use Rattle.cpp_press_laws.proofs.ReadBack.Symbols.{local-type, local-name, encoding-reads, guard-reads, special-reads, special-type, discriminator-reads, thunk-reads}
use Rattle.cpp_press_laws.proofs.Components.Keeping.{keeps-local, keeps-N-and-E, keeps-choice}

-- ## Local names

abbrev local_spelling : ℕ → (e entity : Term) → Option (List ℕ) → (letters : List ℕ) → Spelling
local_spelling n e entity d letters = local_text (ways_of n e).as_encoding entity (ways_of n entity).between_N_and_E d letters

abbrev local_fits : (e entity : Term) → Option (List ℕ) → Role → Fitting
local_fits e entity d role around allowed place cs =
    (fits_of e).as_encoding allowed (place + 1) cs
    × Behind (text (codes "Z") and (ways_of around.encoding e).as_encoding and text (codes "E"))
    ((fits_of entity).as_entity role (after e true around) allowed) place cs
    × IsSpellableDiscriminator d

abbrev entity_spelling : ℕ → Term → (letters : List ℕ) → Spelling
entity_spelling n entity letters = entity_text entity letters (ways_of n entity).between_N_and_E

keeps-entity : (n : ℕ) (entity : Term) (letters : List ℕ) → Keeps (entity_spelling n entity letters)
unfolding entity_text
keeps-entity n entity letters =
    keeps-choice (is_one_piece entity) (ways_of n entity).between_N_and_E (in_N_and_E letters (ways_of n entity).between_N_and_E)
    (keeps entity n).between_N_and_E (keeps-N-and-E letters (ways_of n entity).between_N_and_E (keeps entity n).between_N_and_E)

-- the encoding and the entity of a local name are read
local-parts : (e entity : Term) (d : Option (List ℕ)) → Reading e → Reading entity → (role : Role) → IsAbiRole role → (around : Around) (allowed : Option ℕ)
    (place : ℕ) (cs : List Component) → IsSmall around → HasRoom (local_spelling around.encoding e entity d (letters_of role) place cs)
    → local_fits e entity d role around allowed place cs
    → (let first = (ways_of around.encoding e).as_encoding (place + 1) cs in
    let at = place + 1 + length first.bytes + 1 in
    ReadsAt around allowed (OfKind ENCODING) (Is (tree e true)) (place + 1) cs first
    × EntityReads role (after e true around) allowed entity at first.components
    (entity_spelling around.encoding entity (letters_of role) at first.components))
unfolding local_text after
local-parts e entity d re rn role good around allowed place cs small room h =
    let n : ℕ = around.encoding in
    let spelled : Spelling = (ways_of n e).as_encoding in
    let name : Spelling = entity_spelling n entity (letters_of role) in
    let end : Spelling = text (discriminator_text d) in
    let first : Written = spelled (place + 1) cs in
    let at : ℕ = place + 1 + length first.bytes + 1 in
    let inner = room-rest (text (codes "Z")) (spelled and text (codes "E") and name and end) place cs room in
    let behind = room-rest spelled (text (codes "E") and name and end) (place + 1) cs inner in
    let named_room = room-rest (text (codes "E")) (name and end) (place + 1 + length first.bytes) first.components behind in (
      (re.at spot.as_encoding) around allowed (place + 1) cs small
          (room-first spelled (text (codes "E") and name and end) (place + 1) cs
          (keeps-front (codes "E") (name and end) (keeps-behind name (discriminator_text d) (keeps-entity n entity
          (letters_of role)))) inner) h.0,
      (rn.at spot.as_entity) role good (after e true around) allowed at first.components small
          (room-first name end at first.components (keeps-text _) named_room)
          (subst (λ q. (fits_of entity).as_entity role (after e true around) allowed q first.components)
          (omega (arith, length-append first.bytes (69 ∷ []))) h.1),
    )

local-typed : (e entity : Term) (d : Option (List ℕ)) → Reading e → Reading entity → (k : ℕ) → TypeRules k → (around : Around)
    (allowed : Option ℕ) (place : ℕ) (cs : List Component) → IsSmall around → HasRoom (local_spelling around.encoding e entity d [] place cs)
    → local_fits e entity d in_type around allowed place cs
    → ReadsAt around allowed (OfKind k) (Is (tree (local e entity d) false)) place cs (local_spelling around.encoding e entity d [] place cs)
unfolding local_text letters_of
local-typed e entity d re rn k rules around allowed place cs small room h =
    let n : ℕ = around.encoding in
    let first : Written = (ways_of n e).as_encoding (place + 1) cs in
    let second : Written = entity_spelling n entity [] (place + 1 + length first.bytes + 1) first.components in
    let p = local-parts e entity d re rn in_type tt around allowed place cs small room h in
    local-type k around allowed e entity false d place cs first second (written
    (discriminator_text d) second.components) rules.locals p.0 p.1
    (discriminator-reads (after e true around) allowed d _ second.components h.2)

local-as-name : (e entity : Term) (d : Option (List ℕ)) → Reading e → Reading entity → (q : Qualifiers) (ref : RefQualifier) → IsAbiMark ref → (around : Around)
    (allowed : Option ℕ) (place : ℕ) (cs : List Component) → IsSmall around
    → HasRoom (local_spelling around.encoding e entity d (name_letters q ref) place cs)
    → local_fits e entity d (in_name_with q ref) around allowed place cs
    → NameReads around allowed COMPLETE_NAME (local e entity d) q ref place cs (local_spelling around.encoding e entity d (name_letters q ref) place cs)
unfolding local_text letters_of tree_of qualifiers_of ref_of
local-as-name e entity d re rn q ref good around allowed place cs small room h =
    let n : ℕ = around.encoding in
    let first : Written = (ways_of n e).as_encoding (place + 1) cs in
    let second : Written = entity_spelling n entity (name_letters q ref) (place + 1 + length first.bytes + 1) first.components in
    let p = local-parts e entity d re rn (in_name_with q ref) good around allowed place cs small room h in
    record {
      value = named (local e (tree_of p.1.value) d) (qualifiers_of p.1.value) (ref_of p.1.value);
      tree_is = ap (λ x. local e x d) p.1.tree_is;
      qualifiers_are = p.1.qualifiers_are;
      ref_is = p.1.ref_is;
      reads = local-name around allowed e p.1.value d place cs first second (written
          (discriminator_text d) second.components) p.0 p.1.reads
          (discriminator-reads (after e true around) allowed d _ second.components h.2);
    }

keeps-local-spelling : (n : ℕ) (e entity : Term) (d : Option (List ℕ)) (letters : List ℕ) → Keeps (local_spelling n e entity d letters)
keeps-local-spelling n e entity d letters =
    keeps-local (ways_of n e).as_encoding entity (ways_of n entity).between_N_and_E d letters (keeps e n).as_encoding
    (keeps entity n).between_N_and_E

pub reads-local : (e entity : Term) (d : Option (List ℕ)) → Reading e → Reading entity → Reading (local e entity d)
unfolding ways_of fits_of fits_nowhere type_fits type_ways no_ways is_function_type
reads-local e entity d re rn = record {
  at = each;
  before = λ typed k kind around allowed place cs arguments elements items last are read kept small room h.
      template-value typed around allowed k (instance (local e entity d) items) place cs _
      (referred-before typed k around allowed (local e entity d) tt kind place cs
      (local_spelling around.encoding e entity d []) arguments elements
      items last are read (keeps-local-spelling around.encoding e entity d []) kept room h);
}
  where
    whole : (slot : Slot) → Leads (λ n. component n (local e entity d) (local_spelling n e entity d []))
        (as_component (local e entity d) (local_fits e entity d in_type)) (λ around allowed. ReadsAs slot around allowed (local e entity d))
    whole slot around allowed place cs small room h =
        let s = in-slot slot around allowed (local e entity d) refl in
        fitting-in around allowed (local e entity d) tt (ReadsAs slot around allowed (local e entity d)) place cs
        (local_spelling around.encoding e entity d [])
        (local_fits e entity d in_type) s.behind_s (keeps-local-spelling around.encoding e entity d []) room h
        (λ fits enough. s.adds place cs (local_spelling around.encoding e entity d [] place cs)
        (local-typed e entity d re rn (solid_kind slot) (slot-rules slot) around allowed place cs small enough fits))

    each : ReadingAt (local e entity d)
    each spot.as_type = each-slot _ (whole any_type) (whole bare_type) (whole item_type) (whole parameter_type) (whole literal_type)
    each spot.as_prefix = λ around allowed place cs small room h.
        fitting-in around allowed (local e entity d) tt (Extends around allowed (local e entity d)) place cs
        (local_spelling around.encoding e entity d []) nowhere
        (prefix-behind-s around allowed (local e entity d)) (keeps-local-spelling around.encoding e entity d []) room h
        (λ fits enough. absurd fits)
    each spot.as_prefix_template = λ around allowed place cs small room h.
        fitting-in around allowed (local e entity d) tt (ExtendsWith around allowed (local e entity d)) place cs
        (local_spelling around.encoding e entity d []) nowhere
        (extends-with-behind-s around allowed (local e entity d)) (keeps-local-spelling around.encoding e entity d []) room h
        (λ fits enough. absurd fits)
    each spot.as_name = λ q ref good around allowed place cs small room h. local-as-name e entity d re rn q ref good around allowed place cs small room h
    each spot.as_argument = λ in_pack around allowed place cs small room h.
        typed-argument in_pack around allowed (local e entity d) place cs _ (whole item_type around allowed place cs small room h)
    each w = (reads-nowhere (local e entity d) (λ n. ways_of n (local e entity d))).at w

-- ## Encodings

none-named : (arguments : Term) → ◌≡◌ {A = Option Term} None (Some arguments) → ⊥
none-named arguments h = cc

name-small : (here : ℕ) → IsSmall (in_name here)
unfolding in_name
name-small here arguments is = absurd (none-named arguments is)

-- a name that ends in arguments has at least as many bytes as arguments
abbrev pub CountsArguments : Type 0
CountsArguments =
    (t : Term) (q : Qualifiers) (ref : RefQualifier) (around : Around) (allowed : Option ℕ) (place : ℕ) (cs : List Component)
    → (fits_of t).as_name q ref around allowed place cs → (arguments : Term) → arguments_of t ≡ Some arguments
    → count arguments ≤ length ((ways_of around.encoding t).as_name (name_letters q ref) place cs).bytes

-- items after a function's name, as they are read
record FunctionItems (around : Around) (allowed : Option ℕ) (v : Value) (t : Term) (place : ℕ) (cs : List Component)
    (w : Written) : Type 0 where
  last : Value
  means : encoding_of v (no_items last) ≡ t
  reads : ReadsAt around allowed (OfKind ITEMS) (Is last) place cs w

encoding-returned : (v : Value) (name first rest ps : Term) (q : Qualifiers) (ref : RefQualifier) → tree_of v ≡ name → qualifiers_of v ≡ q
    → ref_of v ≡ ref → has_return_type name ≡ true → parameters rest ≡ ps → encoding_of v (list first rest) ≡ function name q ref first ps
unfolding encoding_of
encoding-returned v name first rest ps q ref a b c d e =
    ap (λ x. elim x as (λ _. Term) [
      | true ↦ function (tree_of v) (qualifiers_of v) (ref_of v) first (parameters rest)
      | false ↦ function (tree_of v) (qualifiers_of v) (ref_of v) absent (parameters (list first rest))
    ]) (ap has_return_type a ∙ d)
    ∙ ap (λ x. function x (qualifiers_of v) (ref_of v) first (parameters rest)) a
    ∙ ap (λ x. function name x (ref_of v) first (parameters rest)) b
    ∙ ap (λ x. function name q x first (parameters rest)) c
    ∙ ap (λ x. function name q ref first x) e

encoding-plain : (v : Value) (name first rest ps : Term) (q : Qualifiers) (ref : RefQualifier) → tree_of v ≡ name → qualifiers_of v ≡ q
    → ref_of v ≡ ref → has_return_type name ≡ false → parameters (list first rest) ≡ ps
    → encoding_of v (list first rest) ≡ function name q ref absent ps
unfolding encoding_of
encoding-plain v name first rest ps q ref a b c d e =
    ap (λ x. elim x as (λ _. Term) [
      | true ↦ function (tree_of v) (qualifiers_of v) (ref_of v) first (parameters rest)
      | false ↦ function (tree_of v) (qualifiers_of v) (ref_of v) absent (parameters (list first rest))
    ]) (ap has_return_type a ∙ d)
    ∙ ap (λ x. function x (qualifiers_of v) (ref_of v) absent (parameters (list first rest))) a
    ∙ ap (λ x. function name x (ref_of v) absent (parameters (list first rest))) b
    ∙ ap (λ x. function name q x absent (parameters (list first rest))) c
    ∙ ap (λ x. function name q ref absent x) e

encoding-object : (v : Value) (name : Term) (q : Qualifiers) (ref : RefQualifier) → tree_of v ≡ name → qualifiers_of v ≡ q
    → ref_of v ≡ ref → encoding_of v nil ≡ object name q ref
unfolding encoding_of
encoding-object v name q ref a b c = rw (a, b, c) refl

-- the items of parameters as one list
items-whole : (around : Around) (allowed : Option ℕ) (ps : Term) (place : ℕ) (cs : List Component) (w : Written)
    (i : ItemsRead around allowed ps place cs w)
    → ReadsAt around allowed (OfKind ITEMS) (Is (tree (list i.first i.items) true)) place cs w
items-whole around allowed ps place cs w i =
    subst (λ l. ReadsAt around allowed (OfKind ITEMS) (Is (tree (list i.first i.items) true)) place cs (written l w.components)) i.split
    (subst (λ ds. ReadsAt around allowed (OfKind ITEMS) (Is (tree (list i.first i.items) true)) place cs (written
    (i.one.bytes ++ i.rest.bytes) ds))
    i.components
    (items-more around allowed i.first i.items i.last place cs i.one i.rest i.are
    (elsewhere (omega arith) i.reads_one) (elsewhere (omega arith) i.reads_rest)))

-- the items of a function with a return type before the parameters
returned-items : (name r ps : Term) (q : Qualifiers) (ref : RefQualifier) → Reading r → Reading ps → (around : Around) (allowed : Option ℕ)
    (v : Value) (place : ℕ) (cs : List Component) → IsSmall around
    → (let n = around.encoding in
    HasRoom (((ways_of n r).as_type and (ways_of n ps).as_parameters) place cs) → tree_of v ≡ name → qualifiers_of v ≡ q → ref_of v ≡ ref
    → has_return_type name ≡ true
    → (fits_of r).as_type item_type around allowed place cs
    → Behind (ways_of n r).as_type ((fits_of ps).as_parameters item_type around allowed) place cs
    → FunctionItems around allowed v (function name q ref r ps) place cs (((ways_of n r).as_type and (ways_of n ps).as_parameters) place cs))
unfolding no_items tree_of
returned-items name r ps q ref rr rp around allowed v place cs small room a b c has one two =
    let n : ℕ = around.encoding in
    let w : Written = (ways_of n r).as_type place cs in
    let x : Written = (ways_of n ps).as_parameters (place + length w.bytes) w.components in
    let i = (rp.at spot.as_items) around allowed (place + length w.bytes) w.components small
    (room-rest (ways_of n r).as_type (ways_of n ps).as_parameters place cs room) two in
    record {
      last = tree (list r (list i.first i.items)) true;
      means = encoding-returned v name r (list i.first i.items) ps q ref a b c has i.means;
      reads = items-more around allowed r (list i.first i.items) (tree (list i.first i.items) true) place cs w x refl
          (elsewhere (omega arith)
          (rr.at spot.as_type item_type around allowed place cs small
          (room-first (ways_of n r).as_type (ways_of n ps).as_parameters place cs (keeps ps n).as_parameters room) one))
          (elsewhere (omega arith)
          (items-whole around allowed ps (place + length w.bytes) w.components x i));
    }

-- the items of a function without a return type
plain-items : (name ps : Term) (q : Qualifiers) (ref : RefQualifier) → Reading ps → (around : Around) (allowed : Option ℕ)
    (v : Value) (place : ℕ) (cs : List Component) → IsSmall around
    → HasRoom (((ways_of around.encoding absent).as_type and (ways_of around.encoding ps).as_parameters) place cs) → tree_of v ≡ name
    → qualifiers_of v ≡ q → ref_of v ≡ ref
    → has_return_type name ≡ false
    → Behind (ways_of around.encoding absent).as_type ((fits_of ps).as_parameters item_type around allowed) place cs
    → FunctionItems around allowed v (function name q ref absent ps) place cs
    (((ways_of around.encoding absent).as_type and (ways_of around.encoding ps).as_parameters) place cs)
unfolding ways_of no_ways no_items tree_of
plain-items name ps q ref rp around allowed v place cs small room a b c has two =
    let n : ℕ = around.encoding in
    let x : Written = (ways_of n ps).as_parameters (place + 0) cs in
    let i = (rp.at spot.as_items) around allowed (place + 0) cs small (room-rest nothing (ways_of n ps).as_parameters place cs room) two in
    record {
      last = tree (list i.first i.items) true;
      means = encoding-plain v name i.first i.items ps q ref a b c has i.means;
      reads = elsewhere (omega arith)
          (items-whole around allowed ps (place + 0) cs x i);
    }

function-items : (name r ps : Term) (q : Qualifiers) (ref : RefQualifier) → Reading r → Reading ps → (around : Around) (allowed : Option ℕ)
    (v : Value) (place : ℕ) (cs : List Component) → IsSmall around
    → (let n = around.encoding in
    HasRoom (((ways_of n r).as_type and (ways_of n ps).as_parameters) place cs) → tree_of v ≡ name → qualifiers_of v ≡ q → ref_of v ≡ ref
    → (b : Bool) → has_return_type name ≡ b
    → either b ((fits_of r).as_type item_type around allowed place cs) (r ≡ absent)
    → Behind (ways_of n r).as_type ((fits_of ps).as_parameters item_type around allowed) place cs
    → FunctionItems around allowed v (function name q ref r ps) place cs (((ways_of n r).as_type and (ways_of n ps).as_parameters) place cs))
unfolding either
function-items name r ps q ref rr rp around allowed v place cs small room a b c true has one two =
    returned-items name r ps q ref rr rp around allowed v place cs small room a b c has one two
function-items name r ps q ref rr rp around allowed v place cs small room a b c false has one two =
    subst (λ x. HasRoom (((ways_of around.encoding x).as_type and (ways_of around.encoding ps).as_parameters) place cs)
    → Behind (ways_of around.encoding x).as_type ((fits_of ps).as_parameters item_type around allowed) place cs
    → FunctionItems around allowed v (function name q ref x ps) place cs
    (((ways_of around.encoding x).as_type and (ways_of around.encoding ps).as_parameters) place cs)) (sym one)
    (λ enough fits. plain-items name ps q ref rp around allowed v place cs small enough a b c has fits) room two

types-small : CountsArguments → (name : Term) (q : Qualifiers) (ref : RefQualifier) (allowed : Option ℕ) (here : ℕ) (cs : List Component)
    → (fits_of name).as_name q ref (in_name here) allowed here cs → HasRoom ((ways_of here name).as_name (name_letters q ref) here cs)
    → IsSmall (in_types here name)
unfolding in_types in_name
types-small counts name q ref allowed here cs fits room arguments is =
    omega (arith, room.short, counts name q ref (in_name here) allowed here cs fits arguments is)

pub reads-function : CountsArguments → (name r ps : Term) (q : Qualifiers) (ref : RefQualifier) → Reading name → Reading r → Reading ps
    → Reading (function name q ref r ps)
unfolding ways_of fits_of encoding_ways begun no_ways in_name in_types
reads-function counts name r ps q ref rn rr rp =
    reads-encoding (function name q ref r ps) _ _ (λ around allowed here cs small room h.
    let a : Spelling = (ways_of here name).as_name (name_letters q ref) in
    let b : Spelling = (ways_of here r).as_type in
    let c : Spelling = (ways_of here ps).as_parameters in
    let first : Written = a here cs in
    let at : ℕ = here + length first.bytes in
    let named_room : HasRoom first = room-first a (b and c) here cs (keeps-and b c (keeps r here).as_type
    (keeps ps here).as_parameters) room in
    let v = (rn.at spot.as_name) q ref h.3 (in_name here) allowed here cs (name-small here) named_room h.0 in
    let i = function-items name r ps q ref rr rp (in_types here name) allowed v.value at first.components
    (types-small counts name q ref allowed here cs h.0 named_room) (room-rest a (b and c) here cs room) v.tree_is v.qualifiers_are v.ref_is
    (has_return_type name) refl h.1
    (subst (λ p. (fits_of ps).as_parameters item_type (in_types here name) allowed p (b at first.components).components)
    (omega (arith, length-append first.bytes (b at first.components).bytes)) h.2) in
    subst (λ x. ReadsAt around allowed (OfKind ENCODING) (Is (tree x true)) here cs ((a and b and c) here cs)) i.means
    (encoding-reads around allowed v.value i.last here cs first ((b and c) at first.components)
    (elsewhere (omega arith) v.reads)
    (subst (λ x. ReadsAt (in_types here x) allowed (OfKind ITEMS) (Is i.last) (here + 0 + length first.bytes) first.components
    ((b and c) at first.components)) (sym v.tree_is)
    (elsewhere (omega arith) i.reads))))

pub reads-object : (name : Term) (q : Qualifiers) (ref : RefQualifier) → Reading name → Reading (object name q ref)
unfolding ways_of fits_of encoding_ways begun no_ways in_name no_items kinds may_be_empty
reads-object name q ref rn =
    reads-encoding (object name q ref) _ _ (λ around allowed here cs small room h.
    let first : Written = (ways_of here name).as_name (name_letters q ref) here cs in
    let v = (rn.at spot.as_name) q ref h.1 (in_name here) allowed here cs (name-small here) room h.0 in
    subst (λ x. ReadsAt around allowed (OfKind ENCODING) (Is (tree x true)) here cs first)
    (encoding-object v.value name q ref v.tree_is v.qualifiers_are v.ref_is)
    (same-written (append-nil first.bytes)
    (encoding-reads around allowed v.value nothing_there here cs first (written [] first.components)
    (elsewhere (omega arith) v.reads)
    (empty-reads Kind.Items refl refl))))

of-name-is : (v : Value) (l : ℕ) (name : Term) (q : Qualifiers) (ref : RefQualifier) → tree_of v ≡ name → qualifiers_of v ≡ q → ref_of v ≡ ref
    → of_name l (tree_of v) (qualifiers_of v) (ref_of v) ≡ of_name l name q ref
of-name-is v l name q ref a b c = rw (a, b, c) refl

pub reads-of-name : (l : ℕ) (name : Term) (q : Qualifiers) (ref : RefQualifier) → Reading name → Reading (of_name l name q ref)
unfolding ways_of fits_of encoding_ways begun no_ways in_name special_front
reads-of-name l name q ref rn =
    reads-encoding (of_name l name q ref) _ _ (λ around allowed here cs small room h.
    let a : Spelling = (ways_of here name).as_name (name_letters q ref) in
    let w : Written = a (here + 2) cs in
    let v = (rn.at spot.as_name) q ref h.2 (in_name here) allowed (here + 2) cs (name-small here) (room-rest (text (special_code l)) a here cs room) h.1 in
    subst (λ k. ReadsAt around allowed (OfKind ENCODING) (Is (tree (of_name k name q ref) true)) here cs
    (written (special_code k ++ w.bytes) w.components)) (sym h.0)
    (subst (λ x. ReadsAt around allowed (OfKind ENCODING) (Is (tree x true)) here cs (written (71 ∷ 86 ∷ w.bytes) w.components))
    (of-name-is v.value 86 name q ref v.tree_is v.qualifiers_are v.ref_is)
    (guard-reads around allowed v.value here cs w
    (elsewhere (omega arith) v.reads))))

pub reads-special : (l : ℕ) (t : Term) → Reading t → Reading (special l t)
unfolding ways_of fits_of encoding_ways begun no_ways in_name
reads-special l t r =
    reads-encoding (special l t) _ _ (λ around allowed here cs small room h.
    let w : Written = (ways_of here t).as_type (here + 2) cs in
    special-reads around allowed (tree (special l t) true) here cs (written (l ∷ w.bytes) w.components)
    (special-type (in_name here) allowed l t (here + 1) cs w h.0 h.1
    (elsewhere (omega arith)
    (r.at spot.as_type any_type (in_name here) allowed (here + 2) cs (name-small here)
    (room-rest (text (codes "T" ++ l ∷ [])) (ways_of here t).as_type here cs room) h.2))))

-- ## Thunks

pub reads-thunk : (kind : Thunk) (e : Term) → Reading e → Reading (thunk kind e)
unfolding ways_of fits_of encoding_ways begun no_ways in_name
reads-thunk kind e r =
    reads-encoding (thunk kind e) _ _ (λ around allowed here cs small room h.
    let at : ℕ = here + length (thunk_text kind) in
    thunk-reads kind around allowed e here cs ((ways_of here e).as_encoding at cs) h.0
    (r.at spot.as_encoding (in_name here) allowed at cs (name-small here) (room-rest (text (thunk_text kind))
    (ways_of here e).as_encoding here cs room) h.1))
