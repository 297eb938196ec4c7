-- Types are read in each of their ways.
use Rattle.cpp_press_laws.proofs.Basics.{◌≡◌, ℕ, ◌+◌, length, List, [], ◌∷◌, ◌++◌, Option, Bool, true, false, refl, ap, arith, sym, subst, append_assoc, length-append, None, Some, ◌∙◌, codes, ◌&&◌, ◌||◌, slice_get, TakesRule, ◌and◌, text, Kind, Production, TYPE, PLAIN, ITEM, ITEM_BUT_REF, ITEM_AFTER_D, AFTER_D, SOLID, choose, kinds, is_chain, abi, rule_of, Qualifiers, Term, instance, tagged, vendor, pointer, lvalue, rvalue, array, member_pointer, qualified, vector, complex, expansion, Around, tree, is_function_type, under_expansion, without_tags, Component, Spelling, first_equal, reference as numbered, ended, referred, spelled_out, component, counted, qualifier_letters, in_N_and_E, is_nested, name_ways, no_ways, template_before, type_ways, ways_of, Written, written, ReadsAt, Is, HasRoom, Slot, any_type, bare_type, item_type, parameter_type, literal_type, takes_all, takes_qualified, takes_expansions, has_letters, fits_nowhere, fits_of, nowhere, type_fits, and-true}
use Rattle.sym_shape.specs.declared.rule.Sym.TheVariants.{Kind as OfKind}
use Rattle.cpp_press_laws.proofs.ReadBack.Reading.{takes-byte, elsewhere, grammar, more, same-written}
use Rattle.cpp_press_laws.proofs.ReadBack.Types.{types-any, types-bare, types-item, types-parameter, item-with-d}
use Rattle.cpp_press_laws.proofs.ReadBack.Solids.{vendor-solid, pointer-solid, complex-solid, member-pointer-solid, array-solid, reference, reference-reads, reference_letter}
use Rattle.cpp_press_laws.proofs.ReadBack.Functions.{qualified_with, const-reads, volatile-reads, restrict-reads, vector-behind-d, rest-reference, mark_bytes}
use Rattle.cpp_press_laws.proofs.ReadBack.Arguments.{expansion-reads}
use Rattle.cpp_press_laws.proofs.Components.Keeping.{Keeps, keeps-text, keeps-and, keeps-N-and-E, keeps-choice, keeps-front, keeps}
use Rattle.cpp_press_laws.proofs.ReadBack.Slots.{room-first, room-rest, ReadsAs, solid_kind, is_bare, in-rest, in-slot}
use Rattle.cpp_press_laws.proofs.ReadBack.Templates.{slot-rules, of_elements}
use Rattle.cpp_press_laws.proofs.EveryWay.Every.{TemplateReads, template-value, ReadsSpots, ReadsAll, reads-nowhere, referred-before, reads-type}
use Rattle.cpp_press_laws.proofs.Slots.{each-slot}
use Rattle.cpp_press_laws.proofs.Spots as spot

-- ## Types in all slots but that of literals

no-slot : false ≡ true → ⊥
no-slot h = cc

-- a solid type, which is a type with a letter of its own or a name
pub solid-in-all : (slot : Slot) (around : Around) (allowed : Option ℕ) (t : Term) (place : ℕ) (cs : List Component) (w : Written)
    → takes_all slot ≡ true → is_function_type t && is_bare slot ≡ false
    → ReadsAt around allowed (OfKind SOLID) (Is (tree t false)) place cs w
    → ReadsAs slot around allowed t place cs (written w.bytes (more around w.components t))
unfolding takes_all
solid-in-all = each-slot _ (λ around allowed t place cs w all bare one. (in-slot any_type around allowed t bare).adds place cs w one) (λ around allowed t place cs w all bare one. (in-slot bare_type around allowed t bare).adds place cs w one) (λ around allowed t place cs w all bare one. (in-slot item_type around allowed t bare).adds place cs w one) (λ around allowed t place cs w all bare one. (in-slot parameter_type around allowed t bare).adds place cs w one) (λ around allowed t place cs w all bare one. absurd (no-slot all))

-- a type that begins with a D: it becomes a component, or is one already or never is one
pub with-d-in : (slot : Slot) (around : Around) (allowed : Option ℕ) (t : Term) → takes_all slot ≡ true → is_function_type t && is_bare slot ≡ false
    → ((place : ℕ) (cs : List Component) (w : Written) → ReadsAt around allowed (OfKind AFTER_D) (Is (tree t false)) (place + 1) cs w
    → ReadsAs slot around allowed t place cs (written (68 ∷ w.bytes) (more around w.components t)))
    × ((place : ℕ) (cs : List Component) (w : Written) → ReadsAt around allowed (OfKind AFTER_D) (Is (tree t true)) (place + 1) cs w
    → ReadsAs slot around allowed t place cs (written (68 ∷ w.bytes) w.components))
unfolding takes_all is_bare
with-d-in any_type around allowed t all bare = let d = (types-any around allowed t).with_d in (d.adds, d.keeps)
with-d-in bare_type around allowed t all bare =
    let d = (types-bare around allowed t (sym (and-true (is_function_type t)) ∙ bare)).with_d in (d.adds, d.keeps)
with-d-in item_type around allowed t all bare = let d = (types-item around allowed t).with_d in (d.adds, d.keeps)
with-d-in parameter_type around allowed t all bare =
    let d = (types-parameter around allowed t).with_d in
    (λ place cs w one. in-rest around allowed t place cs _ (d.adds place cs w one), λ place cs w one. in-rest around allowed t place cs _ (d.keeps place cs w one))
with-d-in literal_type around allowed t all bare = absurd (no-slot all)

-- an expansion
expansion-in : (slot : Slot) (around : Around) (allowed : Option ℕ) (t : Term) (place : ℕ) (cs : List Component) (w : Written)
    → takes_expansions slot ≡ true
    → ReadsAt around allowed (OfKind ITEM_AFTER_D) (Is (tree t false)) (place + 1) cs w
    → ReadsAs slot around allowed t place cs (written (68 ∷ w.bytes) (more around w.components t))
unfolding takes_expansions grammar
expansion-in item_type around allowed t place cs w all one =
    (item-with-d around allowed ITEM t (takes-byte ITEM Kind.Item Production.ItemWithD 68 refl refl (omega arith) refl)).adds place cs w one
expansion-in parameter_type around allowed t place cs w all one =
    in-rest around allowed t place cs (written (68 ∷ w.bytes) (more around w.components t))
    ((item-with-d around allowed ITEM_BUT_REF t (takes-byte ITEM_BUT_REF Kind.ItemButRef Production.ItemWithD 68 refl refl (omega arith) refl)).adds
    place cs w one)
expansion-in any_type around allowed t place cs w all one = absurd (no-slot all)
expansion-in bare_type around allowed t place cs w all one = absurd (no-slot all)
expansion-in literal_type around allowed t place cs w all one = absurd (no-slot all)

takes-reference : (r : Bool) (k : ℕ) (kind : Kind) → slice_get kinds k ≡ Some kind → choose kind 82 ≡ Some Production.ReferenceType
    → choose kind 79 ≡ Some Production.ReferenceType → TakesRule abi k (rule_of Production.ReferenceType) (reference_letter r ∷ [])
unfolding is_chain
takes-reference true k kind at lvalues rvalues = takes-byte k kind Production.ReferenceType 82 at lvalues (omega arith) refl
takes-reference false k kind at lvalues rvalues = takes-byte k kind Production.ReferenceType 79 at rvalues (omega arith) refl

-- a reference type; as a parameter of a function type, it becomes a component before the parameters after it are read
reference-in : (r : Bool) (slot : Slot) (around : Around) (allowed : Option ℕ) (t : Term) (place : ℕ) (cs : List Component) (w : Written)
    → takes_all slot ≡ true
    → ReadsAt around allowed (OfKind TYPE) (Is (tree t true)) (place + 1) cs w
    → ReadsAs slot around allowed (reference r t) place cs (written (reference_letter r ∷ w.bytes) (more around w.components (reference r t)))
unfolding takes_all grammar
reference-in r any_type around allowed t place cs w all one =
    reference-reads r around allowed TYPE t place cs w (takes-reference r TYPE Kind.Type refl refl refl) one
reference-in r bare_type around allowed t place cs w all one =
    reference-reads r around allowed PLAIN t place cs w (takes-reference r PLAIN Kind.Plain refl refl refl) one
reference-in r item_type around allowed t place cs w all one =
    reference-reads r around allowed ITEM t place cs w (takes-reference r ITEM Kind.Item refl refl refl) one
reference-in r parameter_type around allowed t place cs w all one = λ items ref rest two.
    rest-reference r around allowed t items ref place cs w rest (elsewhere (omega arith) one) (elsewhere (omega arith) two)
reference-in r literal_type around allowed t place cs w all one = absurd (no-slot all)

-- ## Qualified types

-- a kind that takes qualified types
record QualifiedRules (k : ℕ) : Type 0 where
  restrict : TakesRule abi k (rule_of Production.RestrictType) (114 ∷ [])
  volatile : TakesRule abi k (rule_of Production.VolatileType) (86 ∷ [])
  const : TakesRule abi k (rule_of Production.ConstType) (75 ∷ [])

qualified-rules : (k : ℕ) (kind : Kind) → slice_get kinds k ≡ Some kind → choose kind 114 ≡ Some Production.RestrictType
    → choose kind 86 ≡ Some Production.VolatileType → choose kind 75 ≡ Some Production.ConstType → QualifiedRules k
unfolding is_chain
qualified-rules k kind at r v c = record {
  restrict = takes-byte k kind Production.RestrictType 114 at r (omega arith) refl;
  volatile = takes-byte k kind Production.VolatileType 86 at v (omega arith) refl;
  const = takes-byte k kind Production.ConstType 75 at c (omega arith) refl;
}

abbrev letters_for : (restrict volatile const : Bool) → List ℕ
letters_for restrict volatile const = qualifier_letters (record { restrict = restrict; volatile = volatile; const = const })

-- a type that is read right under the letters of qualifiers
qualified-at : (k : ℕ) (around : Around) (allowed : Option ℕ) (restrict volatile const : Bool) (t : Term) (place : ℕ) (cs : List Component)
    (w : Written) → QualifiedRules k → restrict || volatile || const ≡ true
    → ReadsAt around allowed (OfKind PLAIN) (Is (tree t true)) (place + length (letters_for restrict volatile const)) cs w
    → ReadsAt around allowed (OfKind k) (Is (tree (qualified_with restrict volatile const t) true)) place cs
    (written (letters_for restrict volatile const ++ w.bytes) (more around w.components (qualified_with restrict volatile const t)))
unfolding qualifier_letters
qualified-at k around allowed true volatile const t place cs w rules some one =
    same-written (ap (λ l. 114 ∷ l) (sym (append_assoc (mark_bytes volatile 86) (mark_bytes const 75) w.bytes)))
    (restrict-reads around allowed k volatile const t place cs w rules.restrict
    (elsewhere (omega (arith, length-append (mark_bytes volatile 86) (mark_bytes const 75))) one))
qualified-at k around allowed false true const t place cs w rules some one =
    volatile-reads around allowed k const t place cs w rules.volatile (elsewhere (omega arith) one)
qualified-at k around allowed false false true t place cs w rules some one =
    const-reads around allowed k t place cs w rules.const (elsewhere (omega arith) one)
qualified-at k around allowed false false false t place cs w rules some one = absurd (no-slot some)

qualified-in : (slot : Slot) (around : Around) (allowed : Option ℕ) (restrict volatile const : Bool) (t : Term) (place : ℕ)
    (cs : List Component)
    (w : Written) → takes_qualified slot ≡ true → restrict || volatile || const ≡ true
    → ReadsAt around allowed (OfKind PLAIN) (Is (tree t true)) (place + length (letters_for restrict volatile const)) cs w
    → ReadsAs slot around allowed (qualified_with restrict volatile const t) place cs
    (written (letters_for restrict volatile const ++ w.bytes) (more around w.components (qualified_with restrict volatile const t)))
unfolding takes_qualified grammar
qualified-in any_type around allowed r v c t place cs w all some one =
    qualified-at TYPE around allowed r v c t place cs w (qualified-rules TYPE Kind.Type refl refl refl refl) some one
qualified-in item_type around allowed r v c t place cs w all some one =
    qualified-at ITEM around allowed r v c t place cs w (qualified-rules ITEM Kind.Item refl refl refl refl) some one
qualified-in parameter_type around allowed r v c t place cs w all some one =
    in-rest around allowed (qualified_with r v c t) place cs
    (written (letters_for r v c ++ w.bytes) (more around w.components (qualified_with r v c t)))
    (qualified-at ITEM_BUT_REF around allowed r v c t place cs w (qualified-rules ITEM_BUT_REF Kind.ItemButRef refl refl refl refl) some one)
qualified-in bare_type around allowed r v c t place cs w all some one = absurd (no-slot all)
qualified-in literal_type around allowed r v c t place cs w all some one = absurd (no-slot all)

-- ## Each type

abbrev pub ReadingAt : Term → Type 0
ReadingAt t = ReadsSpots t (λ n. ways_of n t) (fits_of t)

abbrev pub Reading : Term → Type 1
Reading t = ReadsAll t (λ n. ways_of n t) (fits_of t)

pub reads-vendor : (name : List ℕ) → Reading (vendor name)
unfolding ways_of fits_of is_function_type
reads-vendor name =
    reads-type (vendor name) (λ n. text (codes "u" ++ counted name)) _ tt refl (λ n. keeps-text _)
    (λ slot around allowed place cs small room h.
    solid-in-all slot around allowed (vendor name) place cs (written (117 ∷ counted name) cs) h.0 refl
    (vendor-solid around allowed name place cs h.1))

-- a name before arguments is a reference if an equal component comes before it
found-before : (n : ℕ) (own : Term) (needs_N : Bool) (between spelling arguments : Spelling) (place : ℕ) (cs : List Component)
    → (first_equal n own 0 cs ≡ None → ⊥)
    → template_before n own needs_N between arguments place cs ≡ (component n own spelling and arguments) place cs
unfolding template_before referred numbered component
found-before n own needs_N between spelling arguments place cs never = go (first_equal n own 0 cs) refl
  where
    go : (o : Option ℕ) → first_equal n own 0 cs ≡ o
        → elim o as (λ _. Written) [
          | Some number ↦ (numbered number and arguments) place cs
          | None ↦ (elim needs_N as (λ _. Spelling) [
            | true ↦ in_N_and_E [] (between and ended n own and arguments)
            | false ↦ (between and ended n own and arguments)
          ]) place cs
        ] ≡ (let w = elim o as (λ _. Written) [ Some number ↦ numbered number place cs | None ↦ spelled_out n own spelling place cs ] in
        let rest = arguments (place + length w.bytes) w.components in written (w.bytes ++ rest.bytes) rest.components)
    go (Some number) is = refl
    go None is = absurd (never is)

-- a name with a tag can only be a reference
pub reads-tagged : (of_structor : Bool) (name : Term) (tag : List ℕ) → Reading name → Reading (tagged of_structor name tag)
unfolding ways_of fits_of type_fits fits_nowhere name_ways type_ways no_ways is_function_type
reads-tagged of_structor name tag r = record {
  at = each;
  before = λ typed k kind around allowed place cs arguments elements items last are read kept small room h.
      let same = found-before around.encoding own needs_N (between around.encoding) (whole around.encoding) (of_elements elements) place cs
      (λ none. (h.2 none).0) in
      subst (λ w. TemplateReads typed around allowed k (instance own items) place cs w) (sym same)
      (template-value typed around allowed k (instance own items) place cs _
      (referred-before typed k around allowed own tt kind place cs (whole around.encoding) arguments elements items last are read
      (keeps-whole around.encoding) kept (subst HasRoom same room) h));
}
  where
    own : Term
    own = tagged of_structor name tag

    needs_N : Bool
    needs_N = is_nested (without_tags name)

    between : ℕ → Spelling
    between n = (ways_of n name).between_N_and_E and text (codes "B" ++ counted tag)

    keeps-between : (n : ℕ) → Keeps (between n)
    keeps-between n = keeps-and (ways_of n name).between_N_and_E (text (codes "B" ++ counted tag)) (keeps name n).between_N_and_E (keeps-text _)

    whole : ℕ → Spelling
    whole n = elim needs_N as (λ _. Spelling) [ true ↦ in_N_and_E [] (between n) | false ↦ between n ]

    keeps-whole : (n : ℕ) → Keeps (whole n)
    keeps-whole n = keeps-choice needs_N (in_N_and_E [] (between n)) (between n) (keeps-N-and-E [] (between n) (keeps-between n)) (keeps-between n)

    typed : ReadsAll own (λ n. type_ways (component n own (whole n))) (type_fits own (λ slot. nowhere))
    typed = reads-type own whole (λ slot. nowhere) tt refl keeps-whole (λ slot around allowed place cs small room h. absurd h)

    prefixed : ReadsAll own (λ n. type_ways (component n own (between n))) (type_fits own (λ slot. nowhere))
    prefixed = reads-type own between (λ slot. nowhere) tt refl keeps-between (λ slot around allowed place cs small room h. absurd h)

    each : ReadsSpots own (λ n. ways_of n own) (fits_of own)
    each spot.as_type =
        let types = typed.at spot.as_type in
        each-slot _ (types any_type) (types bare_type) (types item_type) (types parameter_type) (types literal_type)
    each spot.as_prefix = prefixed.at spot.as_prefix
    each spot.as_prefix_template = prefixed.at spot.as_prefix_template
    each spot.as_argument = typed.at spot.as_argument
    each w = (reads-nowhere own (λ n. ways_of n own)).at w

pub reads-pointer : (t : Term) → Reading t → Reading (pointer t)
unfolding ways_of fits_of is_function_type
reads-pointer t r =
    reads-type (pointer t) (λ n. text (codes "P") and (ways_of n t).as_type) _ tt refl
    (λ n. keeps-front (codes "P") (ways_of n t).as_type (keeps t n).as_type)
    (λ slot around allowed place cs small room h.
    let x : Written = (ways_of around.encoding t).as_type (place + 1) cs in
    (in-slot slot around allowed (pointer t) refl).adds place cs (written (80 ∷ x.bytes) x.components)
    (pointer-solid (solid_kind slot) around allowed t place cs x (slot-rules slot).pointers
    (r.at spot.as_type any_type around allowed (place + 1) cs small (room-rest (text (codes "P"))
    (ways_of around.encoding t).as_type place cs room) h)))

pub reads-lvalue : (t : Term) → Reading t → Reading (lvalue t)
unfolding ways_of fits_of is_function_type
reads-lvalue t r =
    reads-type (lvalue t) (λ n. text (codes "R") and (ways_of n t).as_type) _ tt refl
    (λ n. keeps-front (codes "R") (ways_of n t).as_type (keeps t n).as_type)
    (λ slot around allowed place cs small room h.
    reference-in true slot around allowed t place cs ((ways_of around.encoding t).as_type (place + 1) cs) h.0
    (r.at spot.as_type any_type around allowed (place + 1) cs small (room-rest (text (codes "R"))
    (ways_of around.encoding t).as_type place cs room) h.1))

pub reads-rvalue : (t : Term) → Reading t → Reading (rvalue t)
unfolding ways_of fits_of is_function_type
reads-rvalue t r =
    reads-type (rvalue t) (λ n. text (codes "O") and (ways_of n t).as_type) _ tt refl
    (λ n. keeps-front (codes "O") (ways_of n t).as_type (keeps t n).as_type)
    (λ slot around allowed place cs small room h.
    reference-in false slot around allowed t place cs ((ways_of around.encoding t).as_type (place + 1) cs) h.0
    (r.at spot.as_type any_type around allowed (place + 1) cs small (room-rest (text (codes "O"))
    (ways_of around.encoding t).as_type place cs room) h.1))

-- Generated by tools/trees.py.
pub reads-complex : (t : Term) → Reading t → Reading (complex t)
unfolding ways_of fits_of is_function_type
reads-complex t r =
    reads-type (complex t) (λ n. text (codes "C") and (ways_of n t).as_type) _ tt refl
    (λ n. keeps-front (codes "C") (ways_of n t).as_type (keeps t n).as_type)
    (λ slot around allowed place cs small room h.
    let x : Written = (ways_of around.encoding t).as_type (place + 1) cs in
    solid-in-all slot around allowed (complex t) place cs (written (67 ∷ x.bytes) x.components) h.0 refl
    (complex-solid around allowed t place cs x
    (r.at spot.as_type any_type around allowed (place + 1) cs small (room-rest (text (codes "C"))
    (ways_of around.encoding t).as_type place cs room) h.1)))

pub reads-array : (digits : List ℕ) (t : Term) → Reading t → Reading (array digits t)
unfolding ways_of fits_of is_function_type
reads-array digits t r =
    let front : List ℕ = codes "A" ++ digits ++ codes "_" in
    reads-type (array digits t) (λ n. text front and (ways_of n t).as_type) _ tt refl
    (λ n. keeps-front front (ways_of n t).as_type (keeps t n).as_type)
    (λ slot around allowed place cs small room h.
    let x : Written = (ways_of around.encoding t).as_type (place + length front) cs in
    solid-in-all slot around allowed (array digits t) place cs (written (65 ∷ ((digits ++ 95 ∷ []) ++ x.bytes)) x.components) h.0 refl
    (array-solid around allowed digits t place cs x h.1
    (elsewhere (omega arith)
    (r.at spot.as_type any_type around allowed (place + length front) cs small (room-rest (text front)
    (ways_of around.encoding t).as_type place cs room)
    h.2))))

pub reads-vector : (digits : List ℕ) (t : Term) → Reading t → Reading (vector digits t)
unfolding ways_of fits_of is_function_type
reads-vector digits t r =
    let front : List ℕ = codes "Dv" ++ digits ++ codes "_" in
    reads-type _ (λ n. text front and (ways_of n t).as_type) _ tt refl
    (λ n. keeps-front front (ways_of n t).as_type (keeps t n).as_type)
    (λ slot around allowed place cs small room h.
    let x : Written = (ways_of around.encoding t).as_type (place + length front) cs in
    subst (λ l. ReadsAs slot around allowed (vector digits t) place cs (written l (more around x.components (vector digits t))))
    (ap (λ l. 68 ∷ 118 ∷ l) (sym (append_assoc digits (95 ∷ []) x.bytes)))
    ((with-d-in slot around allowed (vector digits t) h.0 refl).0 place cs (written (118 ∷ (digits ++ (95 ∷ x.bytes))) x.components)
    (vector-behind-d around allowed digits t (place + 1) cs x h.1
    (elsewhere (omega (arith, length-append digits (95 ∷ [])))
    (r.at spot.as_type any_type around allowed (place + length front) cs small (room-rest (text front)
    (ways_of around.encoding t).as_type place cs room)
    h.2)))))

pub reads-expansion : (t : Term) → Reading t → Reading (expansion t)
unfolding ways_of fits_of is_function_type under_expansion
reads-expansion t r =
    reads-type (expansion t) (λ n. text (codes "Dp") and (ways_of n t).as_type) _ tt refl
    (λ n. keeps-front (codes "Dp") (ways_of n t).as_type (keeps t n).as_type)
    (λ slot around allowed place cs small room h.
    let x : Written = (ways_of around.encoding t).as_type (place + 2) cs in
    expansion-in slot around allowed (expansion t) place cs (written (112 ∷ x.bytes) x.components) h.0
    (expansion-reads around allowed h.1.0 t (place + 1) cs x
    (elsewhere (omega arith)
    (r.at spot.as_type any_type (under_expansion around) h.1.0 (place + 2) cs small
    (room-rest (text (codes "Dp")) (ways_of around.encoding t).as_type place cs room) h.1.1))))

pub reads-member-pointer : (class member : Term) → Reading class → Reading member → Reading (member_pointer class member)
unfolding ways_of fits_of is_function_type
reads-member-pointer class member a b =
    reads-type (member_pointer class member) (λ n. text (codes "M") and (ways_of n class).as_type and (ways_of n member).as_type) _ tt refl
    (λ n. keeps-front (codes "M") ((ways_of n class).as_type and (ways_of n member).as_type)
    (keeps-and (ways_of n class).as_type (ways_of n member).as_type (keeps class n).as_type (keeps member n).as_type))
    (λ slot around allowed place cs small room h.
    let n : ℕ = around.encoding in
    let x : Written = (ways_of n class).as_type (place + 1) cs in
    let y : Written = (ways_of n member).as_type (place + 1 + length x.bytes) x.components in
    let inner : HasRoom (((ways_of n class).as_type and (ways_of n member).as_type) (place + 1) cs) =
    room-rest (text (codes "M")) ((ways_of n class).as_type and (ways_of n member).as_type) place cs room in
    (in-slot slot around allowed (member_pointer class member) refl).adds place cs (written (77 ∷ (x.bytes ++ y.bytes)) y.components)
    (member-pointer-solid (solid_kind slot) around allowed class member place cs x y (slot-rules slot).members
    (a.at spot.as_type any_type around allowed (place + 1) cs small
    (room-first (ways_of n class).as_type (ways_of n member).as_type (place + 1) cs (keeps member n).as_type inner) h.0)
    (b.at spot.as_type any_type around allowed (place + 1 + length x.bytes) x.components small
    (room-rest (ways_of n class).as_type (ways_of n member).as_type (place + 1) cs inner)
    (subst (λ q. (fits_of member).as_type any_type around allowed q x.components) (omega arith) h.1))))

pub reads-qualified : (q : Qualifiers) (t : Term) → Reading t → Reading (qualified q t)
unfolding ways_of fits_of is_function_type has_letters
reads-qualified q t r =
    reads-type (qualified q t) (λ n. text (qualifier_letters q) and (ways_of n t).under_qualifiers) _ tt refl
    (λ n. keeps-front (qualifier_letters q) (ways_of n t).under_qualifiers (keeps t n).under_qualifiers)
    (λ slot around allowed place cs small room h.
    let at : ℕ = place + length (qualifier_letters q) in
    qualified-in slot around allowed q.restrict q.volatile q.const t place cs ((ways_of around.encoding t).under_qualifiers at cs) h.0 h.1
    (r.at spot.as_type bare_type around allowed at cs small
    (room-rest (text (qualifier_letters q)) (ways_of around.encoding t).under_qualifiers place cs room) h.2))
