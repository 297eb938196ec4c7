-- Names of a prefix and a piece are read in each of their ways.
use Rattle.cpp_press_laws.proofs.Basics.{◌≡◌, ℕ, ◌+◌, length, List, [], ◌∷◌, ◌++◌, Option, Bool, true, false, refl, ap, arith, inl, inr, ◌⊎◌, sym, subst, ◌∙◌, length-append, codes, ◌and◌, text, Kind, Production, COMPLETE_NAME, ENTITY, TYPE_ENTITY, Qualifiers, within, string_literal, RefQualifier, any_value, Term, instance, lambda, behind, Around, tree, tree_of, qualifiers_of, ref_of, unqualified, Prefix, Showing, is_function_type, after, extended, in_signature, name_letters, Component, Spelling, ended, component, ways_of, no_ways, name_ways, with_letters, in_N_and_E, template_before, piece_ways, is_encoding, is_one_piece, entity_text, Written, written, HasRoom, IsSmall, names_member, names_entity, names_in, Slot, any_type, bare_type, item_type, parameter_type, literal_type, Fitting, as_component, behind_bytes, one_piece, Behind, begins_name, Role, in_type, in_name_with, letters_of, IsWithoutLetters, fits_nowhere, fits_of, IsAbiRole, IsAbiMark, type_fits, piece_fits, argument_fits, encoding_fits}
use Rattle.cpp_press_laws.proofs.Components.Encodings.{scope-first, no-encoding}
use Rattle.cpp_press_laws.proofs.ReadBack.Reading.{takes-byte, more, grammar}
use Rattle.cpp_press_laws.proofs.ReadBack.Names.{SoFar, Extends}
use Rattle.cpp_press_laws.proofs.Components.Keeping.{Keeps, keeps-and, keeps-ended, keeps-N-and-E, choice, keeps}
use Rattle.cpp_press_laws.proofs.ReadBack.Slots.{room-first, room-rest, ReadsAs, solid_kind, in-slot, fitting-in}
use Rattle.cpp_press_laws.proofs.ReadBack.Named.{member-rule, entity-rule, type-entity-rule, NameRule, PieceReads}
use Rattle.cpp_press_laws.proofs.ReadBack.Between.{in_I_and_E, Named, named-piece, Nested, nested-within, whole-nested, ExtendsWith, extends-with-behind-s, prefix-behind-s, prefix-piece, prefix-with-piece, prefix-nested, prefix-with-nested}
use Rattle.cpp_press_laws.proofs.ReadBack.Templates.{slot-rules, of_elements, template-reads}
use Rattle.cpp_press_laws.proofs.EveryWay.Every.{NameReads, TemplateReads, template-value, EntityReads, Leads, typed-argument, reads-nowhere}
use Rattle.cpp_press_laws.proofs.EveryWay.Types.{Reading, ReadingAt}
use Rattle.cpp_press_laws.proofs.EveryWay.Std.{entity-nested, template-nested}
use Rattle.cpp_press_laws.proofs.EveryWay.Names.{letters-nested, no-qualifiers, no-letters, nested-room, elements-behind}
use Rattle.cpp_press_laws.proofs.Slots.{each-slot}
use Rattle.cpp_press_laws.proofs.Spots as spot
use Rattle.cpp_press_laws.proofs.ReadBack.Symbols.{string-literal-reads}

-- ## Encodings as prefixes

within-scope : (around : Around) (x p : Term) → around.prefix ≡ behind x true → extended around.prefix p ≡ within x p
unfolding extended
within-scope around x p is = ap (λ y. extended y p) is

-- ## After a prefix

abbrev pub joined_spelling : ℕ → (x p : Term) → Spelling
joined_spelling n x p = (ways_of n x).as_prefix and (ways_of n p).as_piece

abbrev pub joined_fits : (x p : Term) → Fitting
joined_fits x p around allowed place cs =
    (fits_of x).as_prefix around allowed place cs
    × (names_member p ≡ true)
    × Behind (ways_of around.encoding x).as_prefix ((fits_of p).as_piece (after x true around) allowed) place cs

keeps-joined : (n : ℕ) (x p : Term) → Keeps (joined_spelling n x p)
keeps-joined n x p = keeps-and (ways_of n x).as_prefix (ways_of n p).as_piece (keeps x n).as_prefix (keeps p n).as_piece

-- a piece fits alike after each prefix
pub piece-anywhere : (p : Term) (scope : Option Term) (encoding : ℕ) (in_lambda in_expansion : Bool) (showing : Showing) (one other : Prefix) (allowed : Option ℕ)
    (place : ℕ) (cs : List Component)
    → (fits_of p).as_piece (record { scope = scope; encoding = encoding; in_lambda = in_lambda; in_expansion = in_expansion; prefix = one; showing = showing }) allowed place cs
    → (fits_of p).as_piece (record { scope = scope; encoding = encoding; in_lambda = in_lambda; in_expansion = in_expansion; prefix = other; showing = showing }) allowed place cs
unfolding fits_of type_fits piece_fits argument_fits encoding_fits fits_nowhere in_signature
piece-anywhere (lambda parameters k) scope encoding in_lambda in_expansion showing one other allowed place cs h = h
piece-anywhere _ scope encoding in_lambda in_expansion showing one other allowed place cs h = h

joined-nested : (x p : Term) → Reading x → Reading p → (around : Around) (allowed : Option ℕ) (place : ℕ) (cs : List Component)
    → IsSmall around
    → HasRoom (joined_spelling around.encoding x p place cs) → joined_fits x p around allowed place cs
    → Nested around allowed (within x p) place cs (joined_spelling around.encoding x p place cs)
unfolding extended after
joined-nested x p rx rp around allowed place cs small room h =
    let n : ℕ = around.encoding in
    let w : Written = (ways_of n x).as_prefix place cs in
    let one : Written = (ways_of n p).as_piece (place + length w.bytes) w.components in
    nested-within around allowed x p place cs w one
    (rx.at spot.as_prefix around allowed place cs small (room-first (ways_of n x).as_prefix (ways_of n p).as_piece place cs
    (keeps p n).as_piece room) h.0)
    (λ listed. named-piece (after x listed around) allowed 19 p (within x p) (place + length w.bytes) w.components one
    (rp.at spot.as_piece (after x listed around) allowed (place + length w.bytes) w.components small
    (room-rest (ways_of n x).as_prefix (ways_of n p).as_piece place cs room)
    (piece-anywhere p around.scope n around.in_lambda around.in_expansion around.showing (behind x true) (behind x listed) allowed _ _ h.2))
    (member-rule p h.1) refl)

-- ## In the scope of an encoding

abbrev pub local_fits : (x p : Term) → (may : Bool) → Fitting
local_fits x p may around allowed place cs = (is_encoding x ≡ true)
    × one_piece (behind x true) may (fits_of p).as_piece around allowed place cs

-- a piece in the scope of an encoding is read as a piece
local-piece : (x p : Term) (may : Bool) → Reading p → (around : Around) (allowed : Option ℕ) (place : ℕ) (cs : List Component)
    → IsSmall around
    → HasRoom (joined_spelling around.encoding x p place cs) → local_fits x p may around allowed place cs
    → PieceReads around allowed p place cs ((ways_of around.encoding p).as_piece place cs)
local-piece x p may rp around allowed place cs small room h =
    (rp.at spot.as_piece) around allowed place cs small
    (subst HasRoom (scope-first x around.encoding (ways_of around.encoding p).as_piece place cs h.0) room) h.1.2

-- the name of one piece, for a kind that reads entities
local-named : (x p : Term) (may : Bool) → Reading p → (k : ℕ) → NameRule k p → (around : Around) (allowed : Option ℕ) (place : ℕ)
    (cs : List Component) → IsSmall around
    → HasRoom (joined_spelling around.encoding x p place cs) → local_fits x p may around allowed place cs
    → Named around allowed k (within x p) place cs (joined_spelling around.encoding x p place cs)
local-named x p may rp k rule around allowed place cs small room h =
    subst (Named around allowed k (within x p) place cs) (sym (scope-first x around.encoding
    (ways_of around.encoding p).as_piece place cs h.0))
    (named-piece around allowed k p (within x p) place cs ((ways_of around.encoding p).as_piece place cs)
    (local-piece x p may rp around allowed place cs small room h) rule (within-scope around x p h.1.0))

-- a piece of an entity in a name begins a name, or is a string literal
entity-piece : (p : Term) → names_entity p ≡ true → (begins_name p ≡ true) ⊎ (p ≡ string_literal)
unfolding names_entity
entity-piece string_literal h = inr refl
entity-piece _ h = inl h

string-named : (x : Term) (around : Around) (allowed : Option ℕ) (place : ℕ) (cs : List Component) → is_encoding x ≡ true
    → around.prefix ≡ behind x true
    → NameReads around allowed ENTITY (within x string_literal) unqualified any_value place cs
    (joined_spelling around.encoding x string_literal place cs)
unfolding tree_of qualifiers_of ref_of ways_of piece_ways no_ways
string-named x around allowed place cs is scoped =
    subst (NameReads around allowed ENTITY (within x string_literal) unqualified any_value place cs)
    (sym (scope-first x around.encoding (text (codes "s")) place cs is)) (record {
      value = tree (extended around.prefix string_literal) true;
      tree_is = within-scope around x string_literal scoped;
      qualifiers_are = refl;
      ref_is = refl;
      reads = string-literal-reads around allowed place cs;
    })

local-in-name : (x p : Term) → Reading p → (around : Around) (allowed : Option ℕ) (place : ℕ) (cs : List Component) → IsSmall around
    → HasRoom (joined_spelling around.encoding x p place cs) → local_fits x p (names_entity p) around allowed place cs
    → NameReads around allowed ENTITY (within x p) unqualified any_value place cs (joined_spelling around.encoding x p place cs)
local-in-name x p rp around allowed place cs small room h = go (entity-piece p h.1.1)
  where
    go : (begins_name p ≡ true) ⊎ (p ≡ string_literal)
        → NameReads around allowed ENTITY (within x p) unqualified any_value place cs (joined_spelling around.encoding x p place cs)
    go (inl begins) =
        template-value false around allowed ENTITY (within x p) place cs _
        (local-named x p (names_entity p) rp ENTITY (entity-rule p begins) around allowed place cs small room h).bare
    go (inr is) =
        subst (λ y. NameReads around allowed ENTITY (within x y) unqualified any_value place cs
        (joined_spelling around.encoding x y place cs)) (sym is)
        (string-named x around allowed place cs h.0 h.1.0)

abbrev pub begun_fits : (x p : Term) → Fitting
begun_fits x p around allowed place cs = local_fits x p (begins_name p) around allowed place cs ⊎ joined_fits x p around allowed place cs

begun-extends : (x p : Term) → Reading x → Reading p → (around : Around) (allowed : Option ℕ) (place : ℕ) (cs : List Component)
    → IsSmall around
    → HasRoom (joined_spelling around.encoding x p place cs) → begun_fits x p around allowed place cs
    → (let w = joined_spelling around.encoding x p place cs in
    Extends around allowed (within x p) place cs (written w.bytes (more around w.components (within x p)))
    × ExtendsWith around allowed (within x p) place cs (written w.bytes (more around w.components (within x p))))
begun-extends x p rx rp around allowed place cs small room (inl h) =
    let w : Written = (ways_of around.encoding p).as_piece place cs in
    let same = scope-first x around.encoding (ways_of around.encoding p).as_piece place cs h.0 in
    let begins = (local-piece x p (begins_name p) rp around allowed place cs small room h).begins h.1.1 in
    let scoped = within-scope around x p h.1.0 in (
      subst (λ v. Extends around allowed (within x p) place cs (written v.bytes (more around v.components (within x p)))) (sym same)
          (prefix-piece around allowed p (within x p) place cs w begins scoped),
      subst (λ v. ExtendsWith around allowed (within x p) place cs (written v.bytes (more around v.components (within x p)))) (sym same)
          (prefix-with-piece around allowed p (within x p) place cs w begins scoped),
    )
begun-extends x p rx rp around allowed place cs small room (inr h) =
    let j = joined-nested x p rx rp around allowed place cs small room h in (
      prefix-nested around allowed (within x p) place cs (joined_spelling around.encoding x p place cs) j.bare,
      prefix-with-nested around allowed (within x p) place cs (joined_spelling around.encoding x p place cs) j.instanced,
    )

-- ## As the entity of a local name

within-entity : (x p : Term) → Reading x → Reading p → (role : Role) → IsAbiRole role → (around : Around) (allowed : Option ℕ) (place : ℕ) (cs : List Component)
    → IsSmall around → (b : Bool) → is_encoding x ≡ b
    → HasRoom (choice b (joined_spelling around.encoding x p) (in_N_and_E (letters_of role) (joined_spelling around.encoding x p)) place cs)
    → (IsWithoutLetters (letters_of role) × local_fits x p (names_in role p) around allowed place cs)
    ⊎ behind_bytes (codes "N" ++ letters_of role) (joined_fits x p) around allowed place cs
    → EntityReads role around allowed (within x p) place cs
    (choice b (joined_spelling around.encoding x p) (in_N_and_E (letters_of role) (joined_spelling around.encoding x p)) place cs)
unfolding letters_of names_in
within-entity x p rx rp in_type good around allowed place cs small true is room (inl h) =
    (local-named x p (begins_name p) rp TYPE_ENTITY (type-entity-rule p h.1.1.1) around allowed place cs small room h.1).bare
within-entity x p rx rp (in_name_with q ref) good around allowed place cs small true is room (inl h) =
    no-qualifiers ENTITY around allowed (within x p) q ref place cs (joined_spelling around.encoding x p place cs) (no-letters
    (name_letters q ref) h.0)
    (local-in-name x p rp around allowed place cs small room h.1)
within-entity x p rx rp role good around allowed place cs small false is room (inl h) = absurd (let e : false ≡ true = sym is ∙ h.1.0 in cc)
within-entity x p rx rp role good around allowed place cs small true is room (inr h) =
    absurd (let e : true ≡ false = sym is ∙ no-encoding x around allowed (place + length (codes "N" ++ letters_of role)) cs h.0 in cc)
within-entity x p rx rp role good around allowed place cs small false is room (inr h) =
    let at : ℕ = place + length (codes "N" ++ letters_of role) in
    entity-nested role good around allowed (within x p) place cs (joined_spelling around.encoding x p)
    (joined-nested x p rx rp around allowed at cs small (nested-room (letters_of role)
    (joined_spelling around.encoding x p) place cs room) h).bare

-- ## As a name

-- a name between N and E, with letters or without
name-nested : (around : Around) (allowed : Option ℕ) (t : Term) (q : Qualifiers) (ref : RefQualifier) → IsAbiMark ref → (place : ℕ) (cs : List Component)
    (between : Spelling)
    → ((at : ℕ) → at ≡ place + length (78 ∷ name_letters q ref) → HasRoom (between at cs)
    → SoFar around allowed t false 18 at cs (between at cs))
    → HasRoom (with_letters (name_letters q ref) (in_N_and_E [] between) between place cs)
    → NameReads around allowed COMPLETE_NAME t q ref place cs (with_letters (name_letters q ref) (in_N_and_E [] between) between place cs)
unfolding with_letters in_N_and_E grammar
name-nested around allowed t q ref good place cs between so_far room = go (name_letters q ref) refl room
  where
    nested : (ls : List ℕ) → name_letters q ref ≡ ls → HasRoom (between (place + length (78 ∷ ls)) cs)
        → (let w = between (place + length (78 ∷ ls)) cs in
        NameReads around allowed COMPLETE_NAME t q ref place cs (written ((78 ∷ ls) ++ (w.bytes ++ (69 ∷ []))) w.components))
    nested ls are enough =
        let w : Written = between (place + length (78 ∷ ls)) cs in
        subst (λ x. NameReads around allowed COMPLETE_NAME t q ref place cs (written ((78 ∷ x) ++ (w.bytes ++ (69 ∷ []))) w.components)) are
        (letters-nested 8 around allowed t q ref good place cs w
        (takes-byte COMPLETE_NAME Kind.CompleteName Production.NestedName 78 refl refl (omega arith) refl)
        (subst (λ x. SoFar around allowed t false 18 (place + length (78 ∷ x)) cs w) (sym are)
        (so_far (place + length (78 ∷ ls)) (ap (λ x. place + length (78 ∷ x)) (sym are)) enough)))

    go : (ls : List ℕ) → name_letters q ref ≡ ls → HasRoom (with_letters ls (in_N_and_E [] between) between place cs)
        → NameReads around allowed COMPLETE_NAME t q ref place cs (with_letters ls (in_N_and_E [] between) between place cs)
    go [] are enough = nested [] are (nested-room [] between place cs enough)
    go (l ∷ ls) are enough = nested (l ∷ ls) are (nested-room (l ∷ ls) between place cs enough)

pub reads-within : (x p : Term) → Reading x → Reading p → Reading (within x p)
unfolding ways_of fits_of fits_nowhere name_ways no_ways template_before is_function_type is_one_piece entity_text in_N_and_E ended
reads-within x p rx rp = record {
  at = each;
  before = λ typed k kind around allowed place cs arguments elements items last are read kept small room h.
      let n : ℕ = around.encoding in
      let rest : Spelling = ended n (within x p) and of_elements elements in
      let whole : Spelling = joined_spelling n x p and rest in
      let resting : Keeps rest = keeps-and (ended n (within x p)) (of_elements elements) (keeps-ended n (within x p)) kept in
      let w : Written = joined_spelling n x p (place + 1) cs in
      let args : Written = elements (place + 1 + length w.bytes + 0 + 1) (more around w.components (within x p)) in
      template-reads typed k around allowed (within x p) tt kind place cs (behind_bytes (codes "N") (joined_fits x p))
      (λ m. text (codes "N") and (ways_of m (within x p)).between_N_and_E) arguments elements (in_N_and_E [] whole) items last
      (TemplateReads typed around allowed k (instance (within x p) items) place cs)
      (template-value typed around allowed k (instance (within x p) items) place cs) are read kept
      (keeps-N-and-E [] whole (keeps-and (joined_spelling n x p) rest (keeps-joined n x p) resting)) room h
      (λ none enough.
      let inner : HasRoom (whole (place + 1) cs) = nested-room [] whole place cs enough in
      template-nested typed k around allowed (instance (within x p) items) kind place cs
      (written (w.bytes ++ in_I_and_E args.bytes) args.components)
      ((joined-nested x p rx rp around allowed (place + 1) cs small (room-first (joined_spelling n x p) rest (place + 1) cs resting inner)
      (h.2 none).0).instanced items last args are
      (elements-behind around allowed last arguments elements (within x p) w (place + 1) (place + length ((78 ∷ w.bytes) ++ [])) read
      (room-rest (joined_spelling n x p) rest (place + 1) cs inner) (omega (arith, length-append w.bytes [])) (h.2 none).1)));
}
  where
    whole : (slot : Slot) → Leads (λ n. component n (within x p) (in_N_and_E [] (joined_spelling n x p)))
        (as_component (within x p) (behind_bytes (codes "N") (joined_fits x p))) (λ around allowed. ReadsAs slot around allowed (within x p))
    whole slot around allowed place cs small room h =
        let s = in-slot slot around allowed (within x p) refl in
        let n : ℕ = around.encoding in
        fitting-in around allowed (within x p) tt (ReadsAs slot around allowed (within x p)) place cs (in_N_and_E [] (joined_spelling n x p))
        (behind_bytes (codes "N") (joined_fits x p)) s.behind_s (keeps-N-and-E [] (joined_spelling n x p) (keeps-joined n x p)) room h
        (λ fits enough. s.adds place cs (in_N_and_E [] (joined_spelling n x p) place cs)
        (whole-nested (solid_kind slot) around allowed (within x p) place cs (joined_spelling n x p (place + 1) cs) (slot-rules slot).nested
        (joined-nested x p rx rp around allowed (place + 1) cs small (nested-room [] (joined_spelling n x p) place cs enough) fits).bare))

    each : ReadingAt (within x p)
    each spot.as_type = each-slot _ (whole any_type) (whole bare_type) (whole item_type) (whole parameter_type) (whole literal_type)
    each spot.as_prefix = λ around allowed place cs small room h.
        fitting-in around allowed (within x p) tt (Extends around allowed (within x p)) place cs (joined_spelling around.encoding x p)
        (begun_fits x p)
        (prefix-behind-s around allowed (within x p)) (keeps-joined around.encoding x p) room h
        (λ fits enough. (begun-extends x p rx rp around allowed place cs small enough fits).0)
    each spot.as_prefix_template = λ around allowed place cs small room h.
        fitting-in around allowed (within x p) tt (ExtendsWith around allowed (within x p)) place cs (joined_spelling around.encoding x p)
        (begun_fits x p)
        (extends-with-behind-s around allowed (within x p)) (keeps-joined around.encoding x p) room h
        (λ fits enough. (begun-extends x p rx rp around allowed place cs small enough fits).1)
    each spot.between = λ around allowed place cs small room h. (joined-nested x p rx rp around allowed place cs small room h).bare
    each spot.between_template = λ around allowed place cs small room h. (joined-nested x p rx rp around allowed place cs small room h).instanced
    each spot.as_entity = λ role good around allowed place cs small room h.
        within-entity x p rx rp role good around allowed place cs small (is_encoding x) refl room h
    each spot.as_entity_template = λ around allowed place cs small room h. record {
      is = λ arguments. h.0;
      in_name = local-named x p (begins_name p) rp ENTITY (entity-rule p h.1.1) around allowed place cs small room h;
      in_a_type = local-named x p (begins_name p) rp TYPE_ENTITY (type-entity-rule p h.1.1) around allowed place cs small room h;
    }
    each spot.as_name = λ q ref good around allowed place cs small room h.
        name-nested around allowed (within x p) q ref good place cs (joined_spelling around.encoding x p)
        (λ at there enough. (joined-nested x p rx rp around allowed at cs small enough
        (subst (λ y. joined_fits x p around allowed y cs) (sym there) h)).bare) room
    each spot.as_argument = λ in_pack around allowed place cs small room h.
        typed-argument in_pack around allowed (within x p) place cs _ (whole item_type around allowed place cs small room h)
    each w = (reads-nowhere (within x p) (λ n. ways_of n (within x p))).at w
