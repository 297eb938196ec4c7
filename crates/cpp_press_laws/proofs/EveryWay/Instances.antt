-- Template names with their arguments are read in each of their ways.
use Rattle.cpp_press_laws.proofs.Basics.{◌≡◌, ℕ, ◌+◌, length, List, [], ◌++◌, Option, Bool, true, false, refl, arith, inl, inr, ◌⊎◌, sym, ◌∙◌, length-append, codes, ◌and◌, text, nothing, ENTITY, nil, within, Term, instance, tagged, Around, tree_of, is_function_type, inside, no_items, name_letters, Component, Spelling, ended, component, ways_of, no_ways, name_ways, in_N_and_E, is_one_piece, entity_text, Written, HasRoom, IsSmall, nowhere, Slot, any_type, bare_type, item_type, parameter_type, literal_type, Fitting, as_component, behind_bytes, Behind, Role, in_type, in_name_with, letters_of, IsWithoutLetters, fits_nowhere, encoding_fits, piece_fits, argument_fits, type_fits, fits_of, IsAbiRole}
use Rattle.cpp_press_laws.proofs.ReadBack.Names.{SoFar, Extends}
use Rattle.cpp_press_laws.proofs.Components.Keeping.{Keeps, keeps-text, keeps-and, keeps-front, keeps-behind, keeps-ended, choice, keeps, keeps_before}
use Rattle.cpp_press_laws.proofs.ReadBack.Slots.{room-first, room-rest, ReadsAs, solid_kind, in-slot, fitting-in}
use Rattle.cpp_press_laws.proofs.ReadBack.Between.{ElementsRead, ExtendsWith, extends-with-behind-s, prefix-behind-s}
use Rattle.cpp_press_laws.proofs.ReadBack.Templates.{slot-rules, TemplateKind, of_elements, ReadElements, elements-room}
use Rattle.cpp_press_laws.proofs.EveryWay.Every.{referred-before, OnePiece, TemplateReads, template-value, EntityReads, Leads, typed-argument, reads-nowhere}
use Rattle.cpp_press_laws.proofs.EveryWay.Types.{Reading, ReadingAt}
use Rattle.cpp_press_laws.proofs.Components.Encodings.{no-encoding}
use Rattle.cpp_press_laws.proofs.EveryWay.Std.{entity-nested}
use Rattle.cpp_press_laws.proofs.EveryWay.Names.{plain-name, no-letters, nested-room, name-by-letters, elements-behind}
use Rattle.cpp_press_laws.proofs.Slots.{each-slot}
use Rattle.cpp_press_laws.proofs.Spots as spot
use Rattle.cpp_press_laws.proofs.ReadBack.Arguments.{items_value}
use Rattle.cpp_press_laws.proofs.ReadBack.Reading.{more}

pub items-kept : (t : Term) → no_items (items_value t) ≡ t
unfolding no_items tree_of
items-kept nil = refl
items-kept _ = refl

-- ## Arguments

abbrev pub elements_of : (a : Term) → Fitting
elements_of a around allowed place cs = (fits_of a).as_elements false (inside around) allowed (place + 1) cs

abbrev pub spelled_arguments : ℕ → (a : Term) → Spelling
spelled_arguments n a = of_elements (ways_of n a).as_elements

keeps-arguments : (n : ℕ) (a : Term) → Keeps (spelled_arguments n a)
keeps-arguments n a =
    keeps-front (codes "I") ((ways_of n a).as_elements and text (codes "E")) (keeps-behind (ways_of n a).as_elements (codes "E")
    (keeps a n).as_elements)

elements-read : (a : Term) → Reading a → (around : Around) (allowed : Option ℕ) → IsSmall around
    → ReadElements around allowed (items_value a) (elements_of a) (ways_of around.encoding a).as_elements
unfolding inside
elements-read a r around allowed small place cs fits room = (r.at spot.as_elements false (inside around) allowed (place + 1) cs small room fits).1

-- ## Between N and E

abbrev pub instance_between : ℕ → (t a : Term) → Spelling
instance_between n t a = (ways_of n t).between_N_and_E and ended n t and spelled_arguments n a

abbrev pub instance_joined : (t a : Term) → Fitting
instance_joined t a around allowed place cs =
    (fits_of t).between_template around allowed place cs
    × Behind ((ways_of around.encoding t).between_N_and_E and ended around.encoding t) (elements_of a around allowed) place cs

keeps-rest : (n : ℕ) (t a : Term) → Keeps (ended n t and spelled_arguments n a)
keeps-rest n t a = keeps-and (ended n t) (spelled_arguments n a) (keeps-ended n t) (keeps-arguments n a)

-- the elements after a name that has become a component
behind-name : (t a : Term) → Reading a → (around : Around) (allowed : Option ℕ) (place : ℕ) (cs : List Component) → IsSmall around
    → HasRoom (instance_between around.encoding t a place cs)
    → Behind ((ways_of around.encoding t).between_N_and_E and ended around.encoding t) (elements_of a around allowed) place cs
    → (let w = (ways_of around.encoding t).between_N_and_E place cs in
    let made = more around w.components t in
    ElementsRead around allowed (items_value a) (place + length w.bytes) made
    ((ways_of around.encoding a).as_elements (place + length w.bytes + 0 + 1) made))
unfolding ended
behind-name t a ra around allowed place cs small room fits =
    let n : ℕ = around.encoding in
    let w : Written = (ways_of n t).between_N_and_E place cs in
    elements-behind around allowed (items_value a) (elements_of a) (ways_of n a).as_elements t w place (place + length (w.bytes ++ []))
    (elements-read a ra around allowed small)
    (room-rest (ways_of n t).between_N_and_E (ended n t and spelled_arguments n a) place cs room) (omega
    (arith, length-append w.bytes [])) fits

instance-nested : (t a : Term) → Reading t → Reading a → (around : Around) (allowed : Option ℕ) (place : ℕ) (cs : List Component)
    → IsSmall around
    → HasRoom (instance_between around.encoding t a place cs) → instance_joined t a around allowed place cs
    → SoFar around allowed (instance t a) false 18 place cs (instance_between around.encoding t a place cs)
unfolding ended
instance-nested t a rt ra around allowed place cs small room h =
    let n : ℕ = around.encoding in
    let w : Written = (ways_of n t).between_N_and_E place cs in
    (rt.at spot.between_template) around allowed place cs small
    (room-first (ways_of n t).between_N_and_E (ended n t and spelled_arguments n a) place cs (keeps-rest n t a) room) h.0 a (items_value a)
    ((ways_of n a).as_elements (place + length w.bytes + 0 + 1) (more around w.components t)) (items-kept a)
    (behind-name t a ra around allowed place cs small room h.1)

-- ## As the entity of a local name

-- a name that fits between N and E isn't one piece, even with arguments
pub not-one-piece : (t a : Term) (around : Around) (allowed : Option ℕ) (place : ℕ) (cs : List Component)
    → (fits_of t).between_template around allowed place cs → is_one_piece (instance t a) ≡ false
unfolding fits_of is_one_piece encoding_fits piece_fits argument_fits type_fits fits_nowhere
not-one-piece (within x p) a around allowed place cs h = no-encoding x around allowed place cs h.0
not-one-piece (tagged of_structor name tag) a around allowed place cs h = absurd h
not-one-piece _ a around allowed place cs h = refl

piece-entity : (t a : Term) → Reading t → Reading a → (role : Role) (around : Around) (allowed : Option ℕ) (place : ℕ) (cs : List Component)
    → IsSmall around → HasRoom (instance_between around.encoding t a place cs) → IsWithoutLetters (letters_of role)
    → OnePiece around allowed t place cs ((ways_of around.encoding t).between_N_and_E place cs)
    → Behind ((ways_of around.encoding t).between_N_and_E and ended around.encoding t) (elements_of a around allowed) place cs
    → EntityReads role around allowed (instance t a) place cs (instance_between around.encoding t a place cs)
unfolding letters_of ended
piece-entity t a rt ra in_type around allowed place cs small room none one fits =
    let w : Written = (ways_of around.encoding t).between_N_and_E place cs in
    one.in_a_type.instanced a (items_value a)
    ((ways_of around.encoding a).as_elements (place + length w.bytes + 0 + 1) (more around w.components t)) (items-kept a)
    (behind-name t a ra around allowed place cs small room fits)
piece-entity t a rt ra (in_name_with q ref) around allowed place cs small room none one fits =
    let w : Written = (ways_of around.encoding t).between_N_and_E place cs in
    plain-name ENTITY around allowed (instance t a) q ref place cs _ (no-letters (name_letters q ref) none)
    (one.in_name.instanced a (items_value a)
    ((ways_of around.encoding a).as_elements (place + length w.bytes + 0 + 1) (more around w.components t)) (items-kept a)
    (behind-name t a ra around allowed place cs small room fits))

pub one-piece-is : (t a : Term) (around : Around) (allowed : Option ℕ) (place : ℕ) (cs : List Component)
    → (fits_of t).as_entity_template around allowed place cs → is_one_piece (instance t a) ≡ false → ⊥
unfolding fits_of is_one_piece encoding_fits piece_fits argument_fits type_fits fits_nowhere
one-piece-is (within x p) a around allowed place cs h k = let e : true ≡ false = sym h.0 ∙ k in cc
one-piece-is _ a around allowed place cs h k = h

instance-entity : (t a : Term) → Reading t → Reading a → (role : Role) → IsAbiRole role → (around : Around) (allowed : Option ℕ) (place : ℕ)
    (cs : List Component)
    → IsSmall around → (b : Bool) → is_one_piece (instance t a) ≡ b
    → HasRoom (choice b (instance_between around.encoding t a) (in_N_and_E (letters_of role) (instance_between around.encoding t a)) place cs)
    → (IsWithoutLetters (letters_of role)
    × (fits_of t).as_entity_template around allowed place cs
    × Behind ((ways_of around.encoding t).between_N_and_E and ended around.encoding t) (elements_of a around allowed) place cs)
    ⊎ behind_bytes (codes "N" ++ letters_of role) (instance_joined t a) around allowed place cs
    → EntityReads role around allowed (instance t a) place cs
    (choice b (instance_between around.encoding t a) (in_N_and_E (letters_of role) (instance_between around.encoding t a)) place cs)
instance-entity t a rt ra role good around allowed place cs small true is room (inl h) =
    let n : ℕ = around.encoding in
    piece-entity t a rt ra role around allowed place cs small room h.0
    (rt.at spot.as_entity_template around allowed place cs small
    (room-first (ways_of n t).between_N_and_E (ended n t and spelled_arguments n a) place cs (keeps-rest n t a) room) h.1) h.2
instance-entity t a rt ra role good around allowed place cs small false is room (inl h) = absurd (never h.1)
  where
    never : (fits_of t).as_entity_template around allowed place cs → ⊥
    never fits = one-piece-is t a around allowed place cs fits is
instance-entity t a rt ra role good around allowed place cs small true is room (inr h) =
    absurd (let e : true ≡ false = sym is ∙ not-one-piece t a around allowed (place + length (codes "N" ++ letters_of role)) cs h.0 in cc)
instance-entity t a rt ra role good around allowed place cs small false is room (inr h) =
    let at : ℕ = place + length (codes "N" ++ letters_of role) in
    entity-nested role good around allowed (instance t a) place cs (instance_between around.encoding t a)
    (instance-nested t a rt ra around allowed at cs small (nested-room (letters_of role)
    (instance_between around.encoding t a) place cs room) h)

-- ## In its ways

instance-own : (t a : Term) → Reading t → Reading a → (typed : Bool) (k : ℕ) → TemplateKind typed k → (around : Around) (allowed : Option ℕ)
    (place : ℕ) (cs : List Component) → IsSmall around
    → HasRoom ((ways_of around.encoding t).before typed (spelled_arguments around.encoding a) place cs)
    → (fits_of t).before typed (elements_of a) around allowed place cs
    → TemplateReads typed around allowed k (instance t a) place cs ((ways_of around.encoding t).before typed
    (spelled_arguments around.encoding a) place cs)
instance-own t a rt ra typed k kind around allowed place cs small room h =
    rt.before typed k kind around allowed place cs (elements_of a) (ways_of around.encoding a).as_elements a (items_value a) (items-kept a)
    (elements-read a ra around allowed small) (keeps-arguments around.encoding a) small room h

pub reads-instance : (t a : Term) → Reading t → Reading a → Reading (instance t a)
unfolding ways_of fits_of fits_nowhere name_ways no_ways is_function_type entity_text
reads-instance t a rt ra = record {
  at = each;
  before = λ typed k kind around allowed place cs arguments elements items last are read kept small room h.
      template-value typed around allowed k (instance (instance t a) items) place cs _
      (referred-before typed k around allowed (instance t a) tt kind place cs nothing arguments elements items last are read
      (keeps-text []) kept room h);
}
  where
    whole : (slot : Slot) → Leads (λ n. component n (instance t a) ((ways_of n t).before true (spelled_arguments n a)))
        (as_component (instance t a) ((fits_of t).before true (elements_of a))) (λ around allowed. ReadsAs slot around allowed (instance t a))
    whole slot around allowed place cs small room h =
        let s = in-slot slot around allowed (instance t a) refl in
        let n : ℕ = around.encoding in
        fitting-in around allowed (instance t a) tt (ReadsAs slot around allowed (instance t a)) place cs ((ways_of n t).before true
        (spelled_arguments n a))
        ((fits_of t).before true (elements_of a)) s.behind_s (keeps_before t a n true) room h
        (λ fits enough. s.adds place cs ((ways_of n t).before true (spelled_arguments n a) place cs)
        (instance-own t a rt ra true (solid_kind slot) (slot-rules slot) around allowed place cs small enough fits))

    each : ReadingAt (instance t a)
    each spot.as_type = each-slot _ (whole any_type) (whole bare_type) (whole item_type) (whole parameter_type) (whole literal_type)
    each spot.as_prefix = λ around allowed place cs small room h.
        let n : ℕ = around.encoding in
        let prefix : Spelling = (ways_of n t).as_prefix in
        fitting-in around allowed (instance t a) tt (Extends around allowed (instance t a)) place cs (prefix and spelled_arguments n a)
        (λ inner others at ds. (fits_of t).as_prefix_template inner others at ds
        × Behind (ways_of inner.encoding t).as_prefix (elements_of a inner others) at ds)
        (prefix-behind-s around allowed (instance t a)) (keeps-and prefix (spelled_arguments n a) (keeps t n).as_prefix
        (keeps-arguments n a)) room h
        (λ fits enough.
        let w : Written = prefix place cs in
        (rt.at spot.as_prefix_template) around allowed place cs small (room-first prefix (spelled_arguments n a) place cs
        (keeps-arguments n a) enough) fits.0
        a (items_value a) ((ways_of n a).as_elements (place + length w.bytes + 1) w.components) (items-kept a)
        (elements-read a ra around allowed small (place + length w.bytes) w.components fits.1
        (elements-room prefix (ways_of n a).as_elements place cs enough)))
    each spot.as_prefix_template = λ around allowed place cs small room h.
        let n : ℕ = around.encoding in
        fitting-in around allowed (instance t a) tt (ExtendsWith around allowed (instance t a)) place cs
        ((ways_of n t).as_prefix and spelled_arguments n a)
        nowhere (extends-with-behind-s around allowed (instance t a))
        (keeps-and (ways_of n t).as_prefix (spelled_arguments n a) (keeps t n).as_prefix (keeps-arguments n a)) room h
        (λ fits enough. absurd fits)
    each spot.between = λ around allowed place cs small room h. instance-nested t a rt ra around allowed place cs small room h
    each spot.as_entity = λ role good around allowed place cs small room h.
        instance-entity t a rt ra role good around allowed place cs small (is_one_piece (instance t a)) refl room h
    each spot.as_name = λ q ref good around allowed place cs small room h.
        let n : ℕ = around.encoding in
        name-by-letters around allowed (instance t a) q ref good place cs ((ways_of n t).before false (spelled_arguments n a))
        (instance_between n t a)
        ((fits_of t).before false (elements_of a)) (instance_joined t a) room h
        (λ fits enough. instance-own t a rt ra false 8 refl around allowed place cs small enough fits)
        (λ at fits enough. instance-nested t a rt ra around allowed at cs small enough fits)
    each spot.as_argument = λ in_pack around allowed place cs small room h.
        typed-argument in_pack around allowed (instance t a) place cs _ (whole item_type around allowed place cs small room h)
    each w = (reads-nowhere (instance t a) (λ n. ways_of n (instance t a))).at w
