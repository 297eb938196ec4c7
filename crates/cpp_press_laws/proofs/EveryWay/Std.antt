-- Names of a piece after St are read in each of their ways.
use Rattle.cpp_press_laws.proofs.Basics.{◌≡◌, ℕ, ◌+◌, length, List, [], ◌∷◌, ◌++◌, Option, Bool, true, false, refl, arith, sym, subst, length-append, codes, ◌&&◌, ◌and◌, text, Kind, Production, COMPLETE_NAME, ENTITY, TYPE_ENTITY, SOURCE_OR_LOCAL, any_value, Term, in_std, instance, operator, literal_operator, source, lambda, unnamed, Around, Value, tree, unqualified, is_function_type, no_items, qualifier_letters, mark_letter, name_letters, Component, Spelling, ended, component, ways_of, no_ways, name_ways, in_N_and_E, template_before, is_operator, is_one_piece, entity_text, Written, written, ReadsAt, Is, HasRoom, IsSmall, Slot, any_type, bare_type, item_type, parameter_type, literal_type, Fitting, as_component, behind_bytes, Behind, names_function, begins_name, Role, in_type, in_name_with, letters_of, fits_nowhere, fits_of, IsAbiRole}
use Rattle.sym_shape.specs.declared.rule.Sym.TheVariants.{Kind as OfKind}
use Rattle.cpp_press_laws.proofs.ReadBack.Reading.{takes-byte, more, grammar}
use Rattle.cpp_press_laws.proofs.ReadBack.Names.{SoFar, Extends}
use Rattle.cpp_press_laws.proofs.Components.Keeping.{Keeps, keeps-and, keeps-front, keeps-ended, keeps-choice, keeps-N-and-E, choice, keeps}
use Rattle.cpp_press_laws.proofs.ReadBack.Slots.{room-first, room-rest, ReadsAs, solid_kind, in-slot, fitting-in}
use Rattle.cpp_press_laws.proofs.ReadBack.Named.{std-rule, std-type-rule, PieceReads}
use Rattle.cpp_press_laws.proofs.ReadBack.Between.{in_I_and_E, Named, named-std, named-std-type, Nested, nested-std, whole-nested, ExtendsWith, extends-with-behind-s, prefix-behind-s, prefix-nested, prefix-with-nested}
use Rattle.cpp_press_laws.proofs.ReadBack.Templates.{TypeRules, slot-rules, TemplateKind, of_elements, ReadElements, template-reads}
use Rattle.cpp_press_laws.proofs.EveryWay.Every.{NameReads, TemplateReads, template-value, EntityReads, Leads, typed-argument, reads-nowhere}
use Rattle.cpp_press_laws.proofs.EveryWay.Types.{Reading, ReadingAt}
use Rattle.cpp_press_laws.proofs.EveryWay.Names.{letters-nested, nested-room, name-by-letters, elements-behind}
use Rattle.cpp_press_laws.proofs.Slots.{each-slot}
use Rattle.cpp_press_laws.proofs.Spots as spot

-- ## Between N and E

-- a whole name between N and E, as the entity of a local name
pub entity-nested : (role : Role) → IsAbiRole role → (around : Around) (allowed : Option ℕ) (t : Term) (place : ℕ) (cs : List Component) (between : Spelling)
    → SoFar around allowed t false 18 (place + length (codes "N" ++ letters_of role)) cs (between (place + length
    (codes "N" ++ letters_of role)) cs)
    → EntityReads role around allowed t place cs (in_N_and_E (letters_of role) between place cs)
unfolding letters_of in_N_and_E grammar
entity-nested in_type good around allowed t place cs between so_far =
    whole-nested TYPE_ENTITY around allowed t place cs (between (place + 1) cs)
    (takes-byte TYPE_ENTITY Kind.TypeEntity Production.NestedType 78 refl refl (omega arith) refl) so_far
entity-nested (in_name_with q ref) good around allowed t place cs between so_far =
    letters-nested ENTITY around allowed t q ref good place cs (between (place + length (codes "N" ++ name_letters q ref)) cs)
    (takes-byte ENTITY Kind.Entity Production.NestedName 78 refl refl (omega arith) refl) so_far

no-letters-at-all : name_letters unqualified any_value ≡ []
unfolding name_letters qualifier_letters mark_letter
no-letters-at-all = refl

-- an instance between N and E, in a type or as an encoding's own name
pub template-nested : (typed : Bool) (k : ℕ) (around : Around) (allowed : Option ℕ) (t : Term) → TemplateKind typed k → (place : ℕ)
    (cs : List Component) (w : Written) → SoFar around allowed t false 18 (place + 1) cs w
    → TemplateReads typed around allowed k t place cs (written (78 ∷ (w.bytes ++ (69 ∷ []))) w.components)
unfolding grammar
template-nested true k around allowed t rules place cs w so_far = whole-nested k around allowed t place cs w rules.nested so_far
template-nested false k around allowed t eight place cs w so_far =
    subst (λ j. NameReads around allowed j t unqualified any_value place cs (written (78 ∷ (w.bytes ++ (69 ∷ []))) w.components)) (sym eight)
    (subst (λ ls. NameReads around allowed COMPLETE_NAME t unqualified any_value place cs (written ((78 ∷ ls) ++ (w.bytes ++ (69 ∷ []))) w.components))
    no-letters-at-all
    (letters-nested 8 around allowed t unqualified any_value tt place cs w
    (takes-byte COMPLETE_NAME Kind.CompleteName Production.NestedName 78 refl refl (omega arith) refl)
    (subst (λ ls. SoFar around allowed t false 18 (place + length (78 ∷ ls)) cs w) (sym no-letters-at-all) so_far)))

-- ## After St

begins-unless : (p : Term) → names_function p ≡ true → is_operator p ≡ false → begins_name p ≡ true
unfolding names_function is_operator begins_name
begins-unless (source internal name) h k = refl
begins-unless (lambda parameters j) h k = refl
begins-unless (unnamed j) h k = refl
begins-unless (operator a b) h k = absurd (let e : true ≡ false = k in cc)
begins-unless (literal_operator name) h k = absurd (let e : true ≡ false = k in cc)
begins-unless _ h k = absurd (let e : false ≡ true = h in cc)

abbrev pub std_spelling : ℕ → Term → Spelling
std_spelling n p = text (codes "St") and (ways_of n p).as_piece

abbrev pub std_fits : Term → Fitting
std_fits p around allowed place cs = (names_function p ≡ true) × (fits_of p).as_piece around allowed (place + 2) cs

-- the N that a type needs for a name, or nothing
abbrev pub maybe_N : Bool → List ℕ
maybe_N b = elim b as (λ _. List ℕ) [ true ↦ codes "N" | false ↦ [] ]

keeps-std : (n : ℕ) (p : Term) → Keeps (std_spelling n p)
keeps-std n p = keeps-front (codes "St") (ways_of n p).as_piece (keeps p n).as_piece

std-piece : (p : Term) → Reading p → (around : Around) (allowed : Option ℕ) (place : ℕ) (cs : List Component) → IsSmall around
    → HasRoom (std_spelling around.encoding p place cs) → std_fits p around allowed place cs
    → PieceReads around allowed p (place + 2) cs ((ways_of around.encoding p).as_piece (place + 2) cs)
std-piece p r around allowed place cs small room h =
    (r.at spot.as_piece) around allowed (place + 2) cs small (room-rest (text (codes "St")) (ways_of around.encoding p).as_piece place cs room) h.1

std-nested : (p : Term) → Reading p → (around : Around) (allowed : Option ℕ) (place : ℕ) (cs : List Component) → IsSmall around
    → HasRoom (std_spelling around.encoding p place cs) → std_fits p around allowed place cs
    → Nested around allowed (in_std p) place cs (std_spelling around.encoding p place cs)
std-nested p r around allowed place cs small room h =
    nested-std around allowed p place cs ((ways_of around.encoding p).as_piece (place + 2) cs)
    ((std-piece p r around allowed place cs small room h).pieces 14 (std-rule p h.0))

std-named : (p : Term) → Reading p → (around : Around) (allowed : Option ℕ) (place : ℕ) (cs : List Component) → IsSmall around
    → HasRoom (std_spelling around.encoding p place cs) → std_fits p around allowed place cs
    → Named around allowed COMPLETE_NAME (in_std p) place cs (std_spelling around.encoding p place cs)
std-named p r around allowed place cs small room h =
    named-std around allowed p place cs ((ways_of around.encoding p).as_piece (place + 2) cs)
    ((std-piece p r around allowed place cs small room h).pieces 14 (std-rule p h.0))

std-typed : (p : Term) → Reading p → (k : ℕ) → TypeRules k → (around : Around) (allowed : Option ℕ) (place : ℕ) (cs : List Component)
    → is_operator p ≡ false → IsSmall around
    → HasRoom (std_spelling around.encoding p place cs) → std_fits p around allowed place cs
    → Named around allowed k (in_std p) place cs (std_spelling around.encoding p place cs)
std-typed p r k rules around allowed place cs none small room h =
    named-std-type k around allowed p place cs ((ways_of around.encoding p).as_piece (place + 2) cs) rules.with_s
    ((std-piece p r around allowed place cs small room h).pieces SOURCE_OR_LOCAL (std-type-rule p (begins-unless p h.0 none)))

-- a piece after St as a type
std-type-reads : (p : Term) → Reading p → (b : Bool) → is_operator p ≡ b → (k : ℕ) → TypeRules k → (around : Around) (allowed : Option ℕ)
    (place : ℕ) (cs : List Component) → IsSmall around
    → HasRoom (choice b (in_N_and_E [] (std_spelling around.encoding p)) (std_spelling around.encoding p) place cs)
    → behind_bytes (maybe_N b) (std_fits p) around allowed place cs
    → ReadsAt around allowed (OfKind k) (Is (tree (in_std p) false)) place cs
    (choice b (in_N_and_E [] (std_spelling around.encoding p)) (std_spelling around.encoding p) place cs)
unfolding in_N_and_E
std-type-reads p r true is k rules around allowed place cs small room h =
    whole-nested k around allowed (in_std p) place cs (std_spelling around.encoding p (place + 1) cs) rules.nested
    (std-nested p r around allowed (place + 1) cs small (nested-room [] (std_spelling around.encoding p) place cs room) h).bare
std-type-reads p r false is k rules around allowed place cs small room h =
    (std-typed p r k rules around allowed place cs is small room (subst (λ q. std_fits p around allowed q cs) (omega arith) h)).bare

-- what comes before arguments, with an N or without
std-before : (typed b : Bool) (p : Term) → Reading p → is_operator p ≡ b → (k : ℕ) → TemplateKind typed k
    → (around : Around) (allowed : Option ℕ)
    (place : ℕ) (cs : List Component) (arguments : Fitting) (elements : Spelling) (items : Term) (last : Value) → no_items last ≡ items
    → ReadElements around allowed last arguments elements → Keeps (of_elements elements) → IsSmall around
    → (let whole = std_spelling around.encoding p and ended around.encoding (in_std p) and of_elements elements in
    let other = choice (typed && b) (in_N_and_E [] whole) whole in
    HasRoom (other place cs)
    → (elim typed as (λ _. Fitting) [ true ↦ behind_bytes (maybe_N b) (std_fits p) | false ↦ std_fits p ]) around allowed place cs
    → Behind ((text (maybe_N (typed && b)) and std_spelling around.encoding p) and ended around.encoding (in_std p))
    (arguments around allowed) place cs
    → TemplateReads typed around allowed k (instance (in_std p) items) place cs (other place cs))
unfolding in_N_and_E ended
std-before true true p r is k rules around allowed place cs arguments elements items last are read kept small room h behind =
    let n : ℕ = around.encoding in
    let w : Written = std_spelling n p (place + 1) cs in
    let rest : Spelling = ended n (in_std p) and of_elements elements in
    let args : Written = elements (place + 1 + length w.bytes + 0 + 1) (more around w.components (in_std p)) in
    let inner : HasRoom ((std_spelling n p and rest) (place + 1) cs) = nested-room [] (std_spelling n p and rest) place cs room in
    template-nested true k around allowed (instance (in_std p) items) rules place cs (written
    (w.bytes ++ in_I_and_E args.bytes) args.components)
    ((std-nested p r around allowed (place + 1) cs small
    (room-first (std_spelling n p) rest (place + 1) cs (keeps-and (ended n (in_std p)) (of_elements elements) (keeps-ended n
    (in_std p)) kept) inner)
    h).instanced items last args are
    (elements-behind around allowed last arguments elements (in_std p) w (place + 1) (place + length ((78 ∷ w.bytes) ++ [])) read
    (room-rest (std_spelling n p) rest (place + 1) cs inner) (omega (arith, length-append w.bytes [])) behind))
std-before true false p r is k rules around allowed place cs arguments elements items last are read kept small room h behind =
    let n : ℕ = around.encoding in
    let w : Written = std_spelling n p place cs in
    let rest : Spelling = ended n (in_std p) and of_elements elements in
    (std-typed p r k rules around allowed place cs is small
    (room-first (std_spelling n p) rest place cs (keeps-and (ended n (in_std p)) (of_elements elements) (keeps-ended n (in_std p)) kept) room)
    (subst (λ q. std_fits p around allowed q cs) (omega arith) h)).instanced items last
    (elements (place + length w.bytes + 0 + 1) (more around w.components (in_std p))) are
    (elements-behind around allowed last arguments elements (in_std p) w place (place + length (w.bytes ++ [])) read
    (room-rest (std_spelling n p) rest place cs room) (omega (arith, length-append w.bytes []))
    (subst (λ q. arguments around allowed (place + length ((std_spelling n p q cs).bytes ++ []))
    (more around (std_spelling n p q cs).components (in_std p))) (omega arith) behind))
std-before false b p r is k eight around allowed place cs arguments elements items last are read kept small room h behind =
    let n : ℕ = around.encoding in
    let w : Written = std_spelling n p place cs in
    let rest : Spelling = ended n (in_std p) and of_elements elements in
    let args : Written = elements (place + length w.bytes + 0 + 1) (more around w.components (in_std p)) in
    template-value false around allowed k (instance (in_std p) items) place cs _
    ((subst (λ j. Named around allowed j (in_std p) place cs w) (sym eight)
    (std-named p r around allowed place cs small
    (room-first (std_spelling n p) rest place cs (keeps-and (ended n (in_std p)) (of_elements elements) (keeps-ended n (in_std p)) kept) room)
    h)).instanced items last args are
    (elements-behind around allowed last arguments elements (in_std p) w place (place + length (w.bytes ++ [])) read
    (room-rest (std_spelling n p) rest place cs room) (omega (arith, length-append w.bytes []))
    (subst (λ q. arguments around allowed (place + length ((std_spelling n p q cs).bytes ++ []))
    (more around (std_spelling n p q cs).components (in_std p))) (omega arith) behind)))

pub reads-in-std : (p : Term) → Reading p → Reading (in_std p)
unfolding ways_of fits_of fits_nowhere name_ways no_ways template_before is_function_type is_one_piece entity_text
reads-in-std p r = record {
  at = each;
  before = λ typed k kind around allowed place cs arguments elements items last are read kept small room h.
      let n : ℕ = around.encoding in
      let whole : Spelling = std_spelling n p and ended n (in_std p) and of_elements elements in
      let wholly : Keeps whole = keeps-and (std_spelling n p) (ended n (in_std p) and of_elements elements) (keeps-std n p)
      (keeps-and (ended n (in_std p)) (of_elements elements) (keeps-ended n (in_std p)) kept) in
      template-reads typed k around allowed (in_std p) tt kind place cs
      (elim typed as (λ _. Fitting) [ true ↦ behind_bytes (maybe_N (is_operator p)) (std_fits p) | false ↦ std_fits p ])
      (λ m. text (maybe_N (typed && is_operator p)) and std_spelling m p) arguments elements
      (choice (typed && is_operator p) (in_N_and_E [] whole) whole) items last
      (TemplateReads typed around allowed k (instance (in_std p) items) place cs)
      (template-value typed around allowed k (instance (in_std p) items) place cs) are read kept
      (keeps-choice (typed && is_operator p) (in_N_and_E [] whole) whole (keeps-N-and-E [] whole wholly) wholly) room h
      (λ none enough. std-before typed (is_operator p) p r refl k kind around allowed place cs arguments elements items last are read
      kept small
      enough (h.2 none).0 (h.2 none).1);
}
  where
    whole : (slot : Slot) → Leads (λ n. component n (in_std p) (choice (is_operator p) (in_N_and_E [] (std_spelling n p)) (std_spelling n p)))
        (as_component (in_std p) (behind_bytes (maybe_N (is_operator p)) (std_fits p))) (λ around allowed. ReadsAs slot around allowed
        (in_std p))
    whole slot around allowed place cs small room h =
        let s = in-slot slot around allowed (in_std p) refl in
        let n : ℕ = around.encoding in
        let spelled : Spelling = choice (is_operator p) (in_N_and_E [] (std_spelling n p)) (std_spelling n p) in
        fitting-in around allowed (in_std p) tt (ReadsAs slot around allowed (in_std p)) place cs spelled (behind_bytes (maybe_N
        (is_operator p)) (std_fits p))
        s.behind_s
        (keeps-choice (is_operator p) (in_N_and_E [] (std_spelling n p)) (std_spelling n p)
        (keeps-N-and-E [] (std_spelling n p) (keeps-std n p)) (keeps-std n p)) room h
        (λ fits enough. s.adds place cs (spelled place cs)
        (std-type-reads p r (is_operator p) refl (solid_kind slot) (slot-rules slot) around allowed place cs small enough fits))

    each : ReadingAt (in_std p)
    each spot.as_type = each-slot _ (whole any_type) (whole bare_type) (whole item_type) (whole parameter_type) (whole literal_type)
    each spot.as_prefix = λ around allowed place cs small room h.
        fitting-in around allowed (in_std p) tt (Extends around allowed (in_std p)) place cs (std_spelling around.encoding p) (std_fits p)
        (prefix-behind-s around allowed (in_std p)) (keeps-std around.encoding p) room h
        (λ fits enough. prefix-nested around allowed (in_std p) place cs (std_spelling around.encoding p place cs)
        (std-nested p r around allowed place cs small enough fits).bare)
    each spot.as_prefix_template = λ around allowed place cs small room h.
        fitting-in around allowed (in_std p) tt (ExtendsWith around allowed (in_std p)) place cs (std_spelling around.encoding p) (std_fits p)
        (extends-with-behind-s around allowed (in_std p)) (keeps-std around.encoding p) room h
        (λ fits enough. prefix-with-nested around allowed (in_std p) place cs (std_spelling around.encoding p place cs)
        (std-nested p r around allowed place cs small enough fits).instanced)
    each spot.between = λ around allowed place cs small room h. (std-nested p r around allowed place cs small room h).bare
    each spot.between_template = λ around allowed place cs small room h. (std-nested p r around allowed place cs small room h).instanced
    each spot.as_entity = λ role good around allowed place cs small room h.
        let at : ℕ = place + length (codes "N" ++ letters_of role) in
        entity-nested role good around allowed (in_std p) place cs (std_spelling around.encoding p)
        (std-nested p r around allowed at cs small (nested-room (letters_of role) (std_spelling around.encoding p) place cs room) h).bare
    each spot.as_name = λ q ref good around allowed place cs small room h.
        name-by-letters around allowed (in_std p) q ref good place cs (std_spelling around.encoding p) (std_spelling around.encoding p)
        (std_fits p) (std_fits p)
        room h
        (λ fits enough. template-value false around allowed COMPLETE_NAME (in_std p) place cs _
        (std-named p r around allowed place cs small enough fits).bare)
        (λ at fits enough. (std-nested p r around allowed at cs small enough fits).bare)
    each spot.as_argument = λ in_pack around allowed place cs small room h.
        typed-argument in_pack around allowed (in_std p) place cs _ (whole item_type around allowed place cs small room h)
    each w = (reads-nowhere (in_std p) (λ n. ways_of n (in_std p))).at w
