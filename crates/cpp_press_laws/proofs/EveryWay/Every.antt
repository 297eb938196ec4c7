-- What each spelling of a tree is read as, if the tree fits where it is spelled.
use Rattle.cpp_press_laws.proofs.Basics.{◌≡◌, ℕ, ◌+◌, ◌≤◌, length, List, [], ◌∷◌, ◌++◌, Option, Some, None, Bool, true, false, refl, ap, arith, subst, codes, ◌&&◌, ◌and◌, text, ENCODING, TYPE_ENTITY, COMPLETE_NAME, ENTITY, ITEMS, Qualifiers, RefQualifier, any_value, Term, instance, list, Around, Value, tree, tree_of, qualifiers_of, ref_of, unqualified, is_function_type, no_items, parameters, name_letters, mark_letter, Component, Spelling, first_equal, seq_id, reference, spelled_out, component, Ways, no_ways, type_ways, is_one_piece, entity_text, greatest, Written, written, ReadsAt, Is, HasRoom, IsSmall, Slot, any_type, bare_type, item_type, parameter_type, literal_type, Standing, Fitting, as_component, as_template, Role, in_type, in_name_with, letters_of, IsAbiMark, IsAbiRole, Fits, nowhere, fits_nowhere, type_fits, piece_fits, argument_fits, encoding_fits}
use Rattle.sym_shape.specs.declared.rule.Sym.TheVariants.{Kind as OfKind}
use Rattle.cpp_press_laws.proofs.ReadBack.References.{found-first, number-refers}
use Rattle.cpp_press_laws.proofs.ReadBack.Arguments.{items_value, any-argument, item-as-argument, list_kind}
use Rattle.cpp_press_laws.proofs.ReadBack.Names.{SoFar, Extends}
use Rattle.cpp_press_laws.proofs.Components.Parts.{IsComponent}
use Rattle.cpp_press_laws.proofs.Components.Keeping.{Keeps, keeps-component, keeps-and}
use Rattle.cpp_press_laws.proofs.ReadBack.Slots.{few-before, ReadsAs, is_bare, in-slot, fitting-in}
use Rattle.cpp_press_laws.proofs.ReadBack.Named.{PieceReads, ItemsRead}
use Rattle.cpp_press_laws.proofs.ReadBack.Between.{Named, SoFarWith, ExtendsWith, extends-with-behind-s, prefix-behind-s}
use Rattle.cpp_press_laws.proofs.ReadBack.Templates.{TemplateKind, InstancedAt, instanced-behind-s, of_elements, ReadElements, elements-room}
use Rattle.cpp_press_laws.proofs.Slots.{each-slot}
use Rattle.cpp_press_laws.proofs.Spots as spot
use Rattle.cpp_press_laws.proofs.Spots.{Spot}
use Rattle.cpp_press_laws.proofs.ReadBack.Reading.{elsewhere, more}
use Rattle.cpp_press_laws.proofs.ReadBack.Functions.{RestReads}

-- ## What is read

-- a tree is read as a name with qualifiers and a mark
pub record NameReads (around : Around) (allowed : Option ℕ) (k : ℕ) (t : Term) (q : Qualifiers) (ref : RefQualifier) (place : ℕ)
    (cs : List Component) (w : Written) : Type 0 where
  pub value : Value
  pub tree_is : tree_of value ≡ t
  pub qualifiers_are : qualifiers_of value ≡ q
  pub ref_is : ref_of value ≡ ref
  pub reads : ReadsAt around allowed (OfKind k) (Is value) place cs w

-- an instance in a type, or as an encoding's own name without letters
abbrev pub TemplateReads : (typed : Bool) → Around → Option ℕ → (k : ℕ) → Term → (place : ℕ) → List Component → Written → Type 0
TemplateReads true around allowed k t place cs w = ReadsAt around allowed (OfKind k) (Is (tree t false)) place cs w
TemplateReads false around allowed k t place cs w = NameReads around allowed k t unqualified any_value place cs w

pub template-value : (typed : Bool) (around : Around) (allowed : Option ℕ) (k : ℕ) (t : Term) (place : ℕ) (cs : List Component) (w : Written)
    → ReadsAt around allowed (OfKind k) (Is (tree t false)) place cs w → TemplateReads typed around allowed k t place cs w
unfolding tree_of qualifiers_of ref_of
template-value true around allowed k t place cs w one = one
template-value false around allowed k t place cs w one =
    record { value = tree t false; tree_is = refl; qualifiers_are = refl; ref_is = refl; reads = one }

-- a tree is read as the entity of a local name
abbrev pub EntityReads : Role → Around → Option ℕ → Term → (place : ℕ) → List Component → Written → Type 0
EntityReads in_type around allowed t place cs w = ReadsAt around allowed (OfKind TYPE_ENTITY) (Is (tree t false)) place cs w
EntityReads (in_name_with q ref) around allowed t place cs w = NameReads around allowed ENTITY t q ref place cs w

-- a tree is read as one more element before others
abbrev pub ArgumentReads : Bool → Around → Option ℕ → Term → (place : ℕ) → List Component → Written → Type 0
ArgumentReads in_pack around allowed t place cs w =
    (items : Term) (last : Value) (rest : Written) → no_items last ≡ items
    → ReadsAt around allowed (OfKind (list_kind in_pack)) (Is last) (place + length w.bytes) w.components rest
    → ReadsAt around allowed (OfKind (list_kind in_pack)) (Is (tree (list t items) true)) place cs
    (written (w.bytes ++ rest.bytes) rest.components)

-- a tree is read as a list of a kind
abbrev pub ListReads : ℕ → Around → Option ℕ → Term → (place : ℕ) → List Component → Written → Type 0
ListReads k around allowed t place cs w =
    (no_items (items_value t) ≡ t) × ReadsAt around allowed (OfKind k) (Is (items_value t)) place cs w

-- the parameters of a function type, and then the type's mark and end
abbrev pub with_end : RefQualifier → Written → Written
with_end ref w = written (w.bytes ++ (mark_letter ref ++ codes "E")) w.components

abbrev pub ParametersRead : RefQualifier → Around → Option ℕ → Term → (place : ℕ) → List Component → Written → Type 0
ParametersRead ref around allowed t place cs w =
    (items : Term) × (parameters items ≡ t) × RestReads around allowed items ref place cs (with_end ref w)

-- an entity that is one piece
pub record OnePiece (around : Around) (allowed : Option ℕ) (t : Term) (place : ℕ) (cs : List Component) (w : Written) : Type 0 where
  pub is : (arguments : Term) → is_one_piece (instance t arguments) ≡ true
  pub in_name : Named around allowed ENTITY t place cs w
  pub in_a_type : Named around allowed TYPE_ENTITY t place cs w

-- ## The ways of a tree

-- a spelling is read if it fits and has room
abbrev pub Leads : (ℕ → Spelling) → Fitting → (Around → Option ℕ → (place : ℕ) → List Component → Written → Type 0) → Type 0
Leads spelled fits reads =
    (around : Around) (allowed : Option ℕ) (place : ℕ) (cs : List Component) → IsSmall around → HasRoom (spelled around.encoding place cs)
    → fits around allowed place cs → reads around allowed place cs (spelled around.encoding place cs)

-- a type right under qualifiers has its own way
abbrev pub slot_way : Slot → Ways → Spelling
slot_way bare_type w = w.under_qualifiers
slot_way any_type w = w.as_type
slot_way item_type w = w.as_type
slot_way parameter_type w = w.as_type
slot_way literal_type w = w.as_type

abbrev pub ReadAt : Spot → (t : Term) → (ℕ → Ways) → Fits → Type 0
ReadAt spot.as_type t ways fits = (slot : Slot) → Leads (λ n. slot_way slot (ways n)) (fits.as_type slot) (λ around allowed. ReadsAs slot around allowed t)
ReadAt spot.as_prefix t ways fits = Leads (λ n. (ways n).as_prefix) fits.as_prefix (λ around allowed. Extends around allowed t)
ReadAt spot.as_prefix_template t ways fits = Leads (λ n. (ways n).as_prefix) fits.as_prefix_template (λ around allowed. ExtendsWith around allowed t)
ReadAt spot.between t ways fits = Leads (λ n. (ways n).between_N_and_E) fits.between (λ around allowed. SoFar around allowed t false 18)
ReadAt spot.between_template t ways fits = Leads (λ n. (ways n).between_N_and_E) fits.between_template (λ around allowed. SoFarWith around allowed t)
ReadAt spot.as_entity t ways fits =
    (role : Role) → IsAbiRole role → Leads (λ n. entity_text t (letters_of role) (ways n).between_N_and_E) (fits.as_entity role)
    (λ around allowed. EntityReads role around allowed t)
ReadAt spot.as_entity_template t ways fits = Leads (λ n. (ways n).between_N_and_E) fits.as_entity_template (λ around allowed. OnePiece around allowed t)
ReadAt spot.as_piece t ways fits = Leads (λ n. (ways n).as_piece) fits.as_piece (λ around allowed. PieceReads around allowed t)
ReadAt spot.as_encoding t ways fits =
    Leads (λ n. (ways n).as_encoding) (λ around. fits.as_encoding)
    (λ around allowed. ReadsAt around allowed (OfKind ENCODING) (Is (tree t true)))
ReadAt spot.as_name t ways fits =
    (q : Qualifiers) (ref : RefQualifier) → IsAbiMark ref → Leads (λ n. (ways n).as_name (name_letters q ref)) (fits.as_name q ref)
    (λ around allowed. NameReads around allowed COMPLETE_NAME t q ref)
ReadAt spot.as_argument t ways fits =
    (in_pack : Bool) → Leads (λ n. (ways n).as_argument) (fits.as_argument in_pack)
    (λ around allowed. ArgumentReads in_pack around allowed t)
ReadAt spot.as_items t ways fits = Leads (λ n. (ways n).as_parameters) (fits.as_parameters item_type) (λ around allowed. ItemsRead around allowed t)
ReadAt spot.as_more_items t ways fits =
    Leads (λ n. (ways n).as_more_parameters) (fits.as_more_parameters item_type)
    (λ around allowed. ListReads ITEMS around allowed t)
ReadAt spot.as_parameters t ways fits =
    (ref : RefQualifier) → IsAbiMark ref → Leads (λ n. (ways n).as_parameters) (fits.as_parameters parameter_type)
    (λ around allowed. ParametersRead ref around allowed t)
ReadAt spot.as_more_parameters t ways fits =
    (ref : RefQualifier) → IsAbiMark ref → Leads (λ n. (ways n).as_more_parameters) (fits.as_more_parameters parameter_type)
    (λ around allowed place cs w. RestReads around allowed t ref place cs (with_end ref w))
ReadAt spot.as_elements t ways fits =
    (in_pack : Bool) → Leads (λ n. (ways n).as_elements) (fits.as_elements in_pack)
    (λ around allowed. ListReads (list_kind in_pack) around allowed t)

abbrev pub ReadsSpots : (t : Term) → (ℕ → Ways) → Fits → Type 0
ReadsSpots t ways fits = (each : Spot) → ReadAt each t ways fits

pub record ReadsAll (t : Term) (ways : ℕ → Ways) (fits : Fits) : Type 1 where
  pub at : ReadsSpots t ways fits
  pub before : (typed : Bool) (k : ℕ) → TemplateKind typed k → (around : Around) (allowed : Option ℕ) (place : ℕ) (cs : List Component)
      (arguments : Fitting) (elements : Spelling) (items : Term) (last : Value) → no_items last ≡ items
      → ReadElements around allowed last arguments elements → Keeps (of_elements elements) → IsSmall around
      → HasRoom ((ways around.encoding).before typed (of_elements elements) place cs) → fits.before typed arguments around allowed place cs
      → TemplateReads typed around allowed k (instance t items) place cs ((ways around.encoding).before typed (of_elements elements) place cs)

-- ## Trees of one way

pub reads-nowhere : (t : Term) (ways : ℕ → Ways) → ReadsAll t ways fits_nowhere
unfolding fits_nowhere
reads-nowhere t ways = record {
  at = each;
  before = λ typed k kind around allowed place cs arguments elements items last are read keeps small room h. absurd h;
}
  where
    each : ReadsSpots t ways fits_nowhere
    each spot.as_type = λ slot around allowed place cs small room h. absurd h
    each spot.as_prefix = λ around allowed place cs small room h. absurd h
    each spot.as_prefix_template = λ around allowed place cs small room h. absurd h
    each spot.between = λ around allowed place cs small room h. absurd h
    each spot.between_template = λ around allowed place cs small room h. absurd h
    each spot.as_entity = λ role good around allowed place cs small room h. absurd h
    each spot.as_entity_template = λ around allowed place cs small room h. absurd h
    each spot.as_piece = λ around allowed place cs small room h. absurd h
    each spot.as_encoding = λ around allowed place cs small room h. absurd h
    each spot.as_name = λ q ref good around allowed place cs small room h. absurd h
    each spot.as_argument = λ in_pack around allowed place cs small room h. absurd h
    each spot.as_items = λ around allowed place cs small room h. absurd h
    each spot.as_more_items = λ around allowed place cs small room h. absurd h
    each spot.as_parameters = λ ref good around allowed place cs small room h. absurd h
    each spot.as_more_parameters = λ ref good around allowed place cs small room h. absurd h
    each spot.as_elements = λ in_pack around allowed place cs small room h. absurd h

pub reads-piece : (t : Term) (ways : ℕ → Ways) (fitting : Fitting)
    → Leads (λ n. (ways n).as_piece) fitting (λ around allowed. PieceReads around allowed t) → ReadsAll t ways (piece_fits fitting)
unfolding piece_fits fits_nowhere
reads-piece t ways fitting one = record {
  at = each;
  before = (reads-nowhere t ways).before;
}
  where
    each : ReadsSpots t ways (piece_fits fitting)
    each spot.as_piece = one
    each w = (reads-nowhere t ways).at w

pub reads-argument : (t : Term) (ways : ℕ → Ways) (fitting : (in_pack : Bool) → Fitting)
    → ((in_pack : Bool) → Leads (λ n. (ways n).as_argument) (fitting in_pack) (λ around allowed. ArgumentReads in_pack around allowed t))
    → ReadsAll t ways (argument_fits fitting)
unfolding argument_fits fits_nowhere
reads-argument t ways fitting one = record {
  at = each;
  before = (reads-nowhere t ways).before;
}
  where
    each : ReadsSpots t ways (argument_fits fitting)
    each spot.as_argument = one
    each w = (reads-nowhere t ways).at w

pub reads-encoding : (t : Term) (ways : ℕ → Ways) (standing : (allowed : Option ℕ) → Standing)
    → Leads (λ n. (ways n).as_encoding) (λ around. standing) (λ around allowed. ReadsAt around allowed (OfKind ENCODING) (Is (tree t true)))
    → ReadsAll t ways (encoding_fits standing)
unfolding encoding_fits fits_nowhere
reads-encoding t ways standing one = record {
  at = each;
  before = (reads-nowhere t ways).before;
}
  where
    each : ReadsSpots t ways (encoding_fits standing)
    each spot.as_encoding = one
    each w = (reads-nowhere t ways).at w

-- ## Types

-- a type as an argument
pub typed-argument : (in_pack : Bool) (around : Around) (allowed : Option ℕ) (t : Term) (place : ℕ) (cs : List Component) (w : Written)
    → ReadsAs item_type around allowed t place cs w → ArgumentReads in_pack around allowed t place cs w
typed-argument in_pack around allowed t place cs w one items last rest are two =
    any-argument in_pack around allowed t items last place cs w rest are (item-as-argument (elsewhere (omega arith) one)) (elsewhere (omega arith) two)

-- a reference to a component, before the component's arguments
pub referred-before : (typed : Bool) (k : ℕ) (around : Around) (allowed : Option ℕ) (t : Term) → IsComponent t → TemplateKind typed k → (place : ℕ)
    (cs : List Component) (spelling : Spelling) (arguments : Fitting) (elements : Spelling) (items : Term) (last : Value)
    → no_items last ≡ items
    → ReadElements around allowed last arguments elements → Keeps spelling → Keeps (of_elements elements)
    → HasRoom ((component around.encoding t spelling and of_elements elements) place cs)
    → as_template t nowhere (λ n. text []) arguments around allowed place cs
    → ReadsAt around allowed (OfKind k) (Is (tree (instance t items) false)) place cs
    ((component around.encoding t spelling and of_elements elements) place cs)
unfolding component reference
referred-before typed k around allowed t is_one kind place cs spelling arguments elements items last are read keeps kept room fits =
    go (first_equal around.encoding t 0 cs) refl room
    (few-before (component around.encoding t spelling and of_elements elements) place cs
    (keeps-and (component around.encoding t spelling) (of_elements elements) (keeps-component around.encoding t spelling keeps) kept) room)
  where
    go : (o : Option ℕ) → first_equal around.encoding t 0 cs ≡ o
        → (let w = elim o as (λ _. Written) [
          | Some number ↦ reference number place cs
          | None ↦ spelled_out around.encoding t spelling
              place cs
        ] in
        let rest = of_elements elements (place + length w.bytes) w.components in HasRoom (written (w.bytes ++ rest.bytes) rest.components)
        → length cs ≤ greatest
        → ReadsAt around allowed (OfKind k) (Is (tree (instance t items) false)) place cs (written (w.bytes ++ rest.bytes) rest.components))
    go (Some number) is enough few =
        let f = found-first around.encoding t 0 number cs is in
        let named : f.0 ≡ number = omega (arith, f.1) in
        let args : Written = elements (place + length (reference number place cs).bytes + 1) cs in
        subst (λ n. InstancedAt around allowed k t place cs (reference n place cs)) named
        (instanced-behind-s typed k around allowed t kind place cs (written (seq_id f.0 ++ 95 ∷ []) cs)
        (number-refers around allowed t f.0 (place + 1) cs few is_one fits.0 f.2))
        items last args are
        (read (place + length (reference number place cs).bytes) cs (fits.1 number is)
        (elements-room (reference number) elements place cs enough))
    go None is enough few = absurd (fits.2 is).0

-- a type that is a component, from its spelling in each slot
pub reads-type : (t : Term) (spelling : ℕ → Spelling) (spelled : Slot → Fitting) → IsComponent t → is_function_type t ≡ false
    → ((n : ℕ) → Keeps (spelling n))
    → ((slot : Slot) → Leads spelling (spelled slot) (λ around allowed place cs w. ReadsAs slot around allowed t place cs
    (written w.bytes (more around w.components t))))
    → ReadsAll t (λ n. type_ways (component n t (spelling n))) (type_fits t spelled)
unfolding type_ways no_ways type_fits fits_nowhere
reads-type t spelling spelled is other keeps out = record {
  at = each;
  before = λ typed k kind around allowed place cs arguments elements items last are read kept small room h.
      template-value typed around allowed k (instance t items) place cs _
      (referred-before typed k around allowed t is kind place cs (spelling around.encoding) arguments elements items last are read
      (keeps around.encoding) kept room h);
}
  where
    bare : (slot : Slot) → is_function_type t && is_bare slot ≡ false
    bare slot = ap (λ b. b && is_bare slot) other

    whole : (slot : Slot) → Leads (λ n. component n t (spelling n)) (as_component t (spelled slot))
        (λ around allowed. ReadsAs slot around allowed t)
    whole slot around allowed place cs small room h =
        let s = in-slot slot around allowed t (bare slot) in
        fitting-in around allowed t is (ReadsAs slot around allowed t) place cs (spelling around.encoding) (spelled slot) s.behind_s
        (keeps around.encoding) room h (λ fits enough. out slot around allowed place cs small enough fits)

    each : ReadsSpots t (λ n. type_ways (component n t (spelling n))) (type_fits t spelled)
    each spot.as_type = each-slot _ (whole any_type) (whole bare_type) (whole item_type) (whole parameter_type) (whole literal_type)
    each spot.as_prefix = λ around allowed place cs small room h.
        fitting-in around allowed t is (Extends around allowed t) place cs (spelling around.encoding) nowhere (prefix-behind-s around allowed t)
        (keeps around.encoding) room h (λ none enough. absurd none)
    each spot.as_prefix_template = λ around allowed place cs small room h.
        fitting-in around allowed t is (ExtendsWith around allowed t) place cs (spelling around.encoding) nowhere
        (extends-with-behind-s around allowed t) (keeps around.encoding) room h (λ none enough. absurd none)
    each spot.as_argument = λ in_pack around allowed place cs small room h.
        typed-argument in_pack around allowed t place cs (component around.encoding t (spelling around.encoding) place cs)
        (whole item_type around allowed place cs small room h)
    each w = (reads-nowhere t (λ n. type_ways (component n t (spelling n)))).at w
