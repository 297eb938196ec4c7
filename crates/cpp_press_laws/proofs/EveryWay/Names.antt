-- Names of a piece alone are read in each of their ways, and names after the letters of an encoding.
use Rattle.cpp_press_laws.proofs.Basics.{◌≡◌, ℕ, ◌+◌, length, List, [], ◌∷◌, ◌++◌, Option, Bool, true, false, refl, ap, arith, sym, subst, ◌∙◌, append_assoc, length-append, cond, codes, TakesRule, ◌and◌, text, Kind, Production, COMPLETE_NAME, ARGUMENT_LIST, abi, rule_of, Qualifiers, RefQualifier, any_value, lvalue_only, rvalue_only, explicit_object, Term, alone, instance, outermost, Around, Value, tree, named, tree_of, qualifiers_of, ref_of, unqualified, is_function_type, extended, inside, qualifier_letters, mark_letter, name_letters, Component, Spelling, ended, component, ways_of, no_ways, name_ways, with_letters, in_N_and_E, template_before, Written, written, ReadsAt, Is, HasRoom, Slot, any_type, bare_type, item_type, parameter_type, literal_type, Fitting, as_component, one_piece, names_type, names_function, begins_name, IsAbiMark, IsWithoutLetters, by_letters, fits_nowhere, fits_of}
use Rattle.sym_shape.specs.declared.rule.Sym.TheVariants.{Kind as OfKind}
use Rattle.cpp_press_laws.proofs.ReadBack.Reading.{takes-byte, more, elsewhere, grammar, same-written}
use Rattle.cpp_press_laws.proofs.ReadBack.Functions.{mark_bytes}
use Rattle.cpp_press_laws.proofs.ReadBack.Names.{SoFar, Extends, nest-whole}
use Rattle.cpp_press_laws.proofs.ReadBack.Encodings.{nested-name}
use Rattle.cpp_press_laws.proofs.Components.Keeping.{keeps-text, keeps-and, keeps-ended, keeps}
use Rattle.cpp_press_laws.proofs.ReadBack.Slots.{room-first, room-rest, ReadsAs, solid_kind, in-slot, fitting-in}
use Rattle.cpp_press_laws.proofs.ReadBack.Named.{NameRule, own-rule}
use Rattle.cpp_press_laws.proofs.ReadBack.Between.{ElementsRead, named-piece, ExtendsWith, extends-with-behind-s, prefix-behind-s, prefix-piece, prefix-with-piece}
use Rattle.cpp_press_laws.proofs.ReadBack.Templates.{slot-rules, TemplateKind, of_elements, ReadElements, elements-room, template-reads}
use Rattle.cpp_press_laws.proofs.EveryWay.Every.{NameReads, TemplateReads, template-value, Leads, typed-argument, reads-nowhere}
use Rattle.cpp_press_laws.proofs.EveryWay.Types.{Reading, ReadingAt}
use Rattle.cpp_press_laws.proofs.Slots.{each-slot}
use Rattle.cpp_press_laws.proofs.Spots as spot

-- ## Letters

letters-joined : (a b c d x : List ℕ) → a ++ (b ++ (c ++ (d ++ x))) ≡ ((a ++ b ++ c) ++ d) ++ x
letters-joined a b c d x =
    sym (append_assoc a b (c ++ (d ++ x))) ∙ sym (append_assoc (a ++ b) c (d ++ x)) ∙ sym (append_assoc ((a ++ b) ++ c) d x)

-- a name between N and E, after the letters of its encoding
pub letters-nested : (k : ℕ) (around : Around) (allowed : Option ℕ) (t : Term) (q : Qualifiers) (ref : RefQualifier) → IsAbiMark ref → (place : ℕ)
    (cs : List Component) (w : Written) → TakesRule abi k (rule_of Production.NestedName) (78 ∷ [])
    → SoFar around allowed t false 18 (place + length (78 ∷ name_letters q ref)) cs w
    → NameReads around allowed k t q ref place cs (written ((78 ∷ name_letters q ref) ++ (w.bytes ++ (69 ∷ []))) w.components)
unfolding tree_of qualifiers_of ref_of name_letters qualifier_letters
letters-nested k around allowed t q ref good place cs w takes so_far =
    let r : List ℕ = mark_bytes q.restrict 114 in
    let v : List ℕ = mark_bytes q.volatile 86 in
    let c : List ℕ = mark_bytes q.const 75 in
    let m : List ℕ = mark_letter ref in
    let whole : Written = written (w.bytes ++ (69 ∷ [])) w.components in
    record {
      value = named t q ref;
      tree_is = refl;
      qualifiers_are = refl;
      ref_is = refl;
      reads = same-written (ap (λ l. 78 ∷ l) (letters-joined r v c m whole.bytes))
          (nested-name k around allowed t false q.restrict q.volatile q.const ref good place cs whole takes
          (elsewhere (omega (arith, length-append ((r ++ v) ++ c) m, length-append (r ++ v) c, length-append r v))
          (nest-whole around allowed t (place + length (78 ∷ name_letters q ref)) cs w so_far)));
    }

-- without letters there are no qualifiers and no mark
pub without-letters : (q : Qualifiers) (ref : RefQualifier) → name_letters q ref ≡ [] → (unqualified ≡ q) × (any_value ≡ ref)
unfolding name_letters qualifier_letters mark_letter
without-letters q ref none = go q.restrict q.volatile q.const ref none
  where
    go : (r v c : Bool) (m : RefQualifier)
        → (cond r (codes "r") [] ++ cond v (codes "V") [] ++ cond c (codes "K") []) ++ mark_letter m ≡ []
        → (unqualified ≡ record { restrict = r; volatile = v; const = c }) × (any_value ≡ m)
    go false false false any_value h = (refl, refl)
    go false false false lvalue_only h = cc
    go false false false rvalue_only h = cc
    go false false false explicit_object h = cc
    go true v c m h = cc
    go false true c m h = cc
    go false false true m h = cc

pub no-letters : (ls : List ℕ) → IsWithoutLetters ls → ls ≡ []
no-letters [] h = refl
no-letters (l ∷ ls) h = absurd h

-- a tree as a name without letters
pub plain-name : (k : ℕ) (around : Around) (allowed : Option ℕ) (t : Term) (q : Qualifiers) (ref : RefQualifier) (place : ℕ)
    (cs : List Component)
    (w : Written) → name_letters q ref ≡ [] → ReadsAt around allowed (OfKind k) (Is (tree t false)) place cs w
    → NameReads around allowed k t q ref place cs w
unfolding tree_of qualifiers_of ref_of
plain-name k around allowed t q ref place cs w none one =
    let same = without-letters q ref none in
    record { value = tree t false; tree_is = refl; qualifiers_are = same.0; ref_is = same.1; reads = one }

-- a name that is read without qualifiers and mark is read with any qualifiers and mark that have no letters
pub no-qualifiers : (k : ℕ) (around : Around) (allowed : Option ℕ) (t : Term) (q : Qualifiers) (ref : RefQualifier) (place : ℕ)
    (cs : List Component)
    (w : Written) → name_letters q ref ≡ [] → NameReads around allowed k t unqualified any_value place cs w
    → NameReads around allowed k t q ref place cs w
no-qualifiers k around allowed t q ref place cs w none one =
    let same = without-letters q ref none in
    record {
      value = one.value;
      tree_is = one.tree_is;
      qualifiers_are = one.qualifiers_are ∙ same.0;
      ref_is = one.ref_is ∙ same.1;
      reads = one.reads;
    }

takes-nested-name : TakesRule abi 8 (rule_of Production.NestedName) (78 ∷ [])
unfolding grammar
takes-nested-name = takes-byte COMPLETE_NAME Kind.CompleteName Production.NestedName 78 refl refl (omega arith) refl

-- a name has room after letters, if the whole between N and E has room
pub nested-room : (letters : List ℕ) (name : Spelling) (place : ℕ) (cs : List Component) → HasRoom (in_N_and_E letters name place cs)
    → HasRoom (name (place + length (codes "N" ++ letters)) cs)
unfolding in_N_and_E
nested-room letters name place cs room =
    room-first name (text (codes "E")) (place + length (codes "N" ++ letters)) cs (keeps-text _)
    (room-rest (text (codes "N" ++ letters)) (name and text (codes "E")) place cs room)

-- an encoding's own name: without letters it is spelled out, and after letters it is between N and E
pub name-by-letters : (around : Around) (allowed : Option ℕ) (t : Term) (q : Qualifiers) (ref : RefQualifier) → IsAbiMark ref → (place : ℕ)
    (cs : List Component)
    (own between : Spelling) (fit_own fit_between : Fitting) → HasRoom (with_letters (name_letters q ref) own between place cs)
    → by_letters (name_letters q ref) fit_own fit_between around allowed place cs
    → (fit_own around allowed place cs → HasRoom (own place cs) → NameReads around allowed COMPLETE_NAME t unqualified any_value place cs (own place cs))
    → ((at : ℕ) → fit_between around allowed at cs → HasRoom (between at cs) → SoFar around allowed t false 18 at cs (between at cs))
    → NameReads around allowed COMPLETE_NAME t q ref place cs (with_letters (name_letters q ref) own between place cs)
unfolding with_letters by_letters in_N_and_E
name-by-letters around allowed t q ref good place cs own between fit_own fit_between room fits bare nested = go (name_letters q ref) refl room fits
  where
    go : (ls : List ℕ) → name_letters q ref ≡ ls → HasRoom (with_letters ls own between place cs)
        → by_letters ls fit_own fit_between around allowed place cs
        → NameReads around allowed COMPLETE_NAME t q ref place cs (with_letters ls own between place cs)
    go [] none enough h = no-qualifiers 8 around allowed t q ref place cs (own place cs) none (bare h enough)
    go (l ∷ ls) are enough h =
        let at : ℕ = place + length (78 ∷ l ∷ ls) in
        let w : Written = between at cs in
        subst (λ x. NameReads around allowed COMPLETE_NAME t q ref place cs (written ((78 ∷ x) ++ (w.bytes ++ (69 ∷ []))) w.components)) are
        (letters-nested 8 around allowed t q ref good place cs w takes-nested-name
        (subst (λ x. SoFar around allowed t false 18 (place + length (78 ∷ x)) cs w) (sym are)
        (nested at h (nested-room (l ∷ ls) between place cs enough))))

-- ## A piece alone

outermost-alone : (around : Around) (p : Term) → around.prefix ≡ outermost → extended around.prefix p ≡ alone p
unfolding extended
outermost-alone around p is = ap (λ x. extended x p) is

alone-rule : (typed : Bool) (k : ℕ) (p : Term) → TemplateKind typed k
    → elim typed as (λ _. Bool) [ true ↦ names_type p | false ↦ names_function p ] ≡ true
    → NameRule k p
alone-rule true k p rules h = rules.names p h
alone-rule false k p eight h = subst (λ j. NameRule j p) (sym eight) (own-rule p h)

-- arguments after a name that becomes a component, at the place where they are spelled
pub elements-behind : (around : Around) (allowed : Option ℕ) (last : Value) (arguments : Fitting) (elements : Spelling) (own : Term)
    (w : Written)
    (place at : ℕ) → ReadElements around allowed last arguments elements
    → HasRoom ((ended around.encoding own and of_elements elements) (place + length w.bytes) w.components)
    → at ≡ place + length w.bytes → arguments around allowed at (more around w.components own)
    → ElementsRead around allowed last (place + length w.bytes) (more around w.components own)
    (elements (place + length w.bytes + 0 + 1) (more around w.components own))
unfolding ended
elements-behind around allowed last arguments elements own w place at read room there fits =
    let from : ℕ = place + length w.bytes + 0 in
    let made : List Component = more around w.components own in
    subst (λ q. ReadsAt (inside around) allowed (OfKind ARGUMENT_LIST) (Is last) (q + 1) made (elements (from + 1) made)) (omega arith)
    (read from made (subst (λ q. arguments around allowed q made) (omega (arith, there)) fits)
    (elements-room (ended around.encoding own) elements (place + length w.bytes) w.components room))

pub reads-alone : (p : Term) → Reading p → Reading (alone p)
unfolding ways_of fits_of fits_nowhere name_ways no_ways with_letters template_before is_function_type ended
reads-alone p r = record {
  at = each;
  before = λ typed k kind around allowed place cs arguments elements items last are read kept small room h.
      let n : ℕ = around.encoding in
      let own : Spelling = (ways_of n p).as_piece in
      let w : Written = own place cs in
      template-reads typed k around allowed (alone p) tt kind place cs
      (one_piece outermost (elim typed as (λ _. Bool) [ true ↦ names_type p | false ↦ names_function p ]) (fits_of p).as_piece)
      (λ m. (ways_of m p).as_piece) arguments elements
      (own and ended n (alone p) and of_elements elements) items last
      (TemplateReads typed around allowed k (instance (alone p) items) place cs)
      (template-value typed around allowed k (instance (alone p) items) place cs) are read kept
      (keeps-and own (ended n (alone p) and of_elements elements) (keeps p n).as_piece
      (keeps-and (ended n (alone p)) (of_elements elements) (keeps-ended n (alone p)) kept)) room h
      (λ none enough.
      let f = h.2 none in
      template-value typed around allowed k (instance (alone p) items) place cs _
      ((named-piece around allowed k p (alone p) place cs w
      (r.at spot.as_piece around allowed place cs small (room-first own (ended n (alone p) and of_elements elements) place cs
      (keeps-and (ended n (alone p)) (of_elements elements) (keeps-ended n (alone p)) kept) enough) f.0.2)
      (alone-rule typed k p kind f.0.1) (outermost-alone around p f.0.0)).instanced items last
      (elements (place + length w.bytes + 0 + 1) (more around w.components (alone p))) are
      (elements-behind around allowed last arguments elements (alone p) w place (place + length (w.bytes ++ [])) read
      (room-rest own (ended n (alone p) and of_elements elements) place cs enough) (omega (arith, length-append w.bytes [])) f.1)));
}
  where
    whole : (slot : Slot) → Leads (λ n. component n (alone p) (ways_of n p).as_piece)
        (as_component (alone p) (one_piece outermost (names_type p) (fits_of p).as_piece))
        (λ around allowed. ReadsAs slot around allowed (alone p))
    whole slot around allowed place cs small room h =
        let s = in-slot slot around allowed (alone p) refl in
        fitting-in around allowed (alone p) tt (ReadsAs slot around allowed (alone p)) place cs (ways_of around.encoding p).as_piece
        (one_piece outermost (names_type p) (fits_of p).as_piece) s.behind_s
        (keeps p around.encoding).as_piece room h
        (λ fits enough. s.adds place cs ((ways_of around.encoding p).as_piece place cs)
        (named-piece around allowed (solid_kind slot) p (alone p) place cs ((ways_of around.encoding p).as_piece place cs)
        (r.at spot.as_piece around allowed place cs small enough fits.2) ((slot-rules slot).names p fits.1) (outermost-alone around p fits.0)).bare)

    each : ReadingAt (alone p)
    each spot.as_type = each-slot _ (whole any_type) (whole bare_type) (whole item_type) (whole parameter_type) (whole literal_type)
    each spot.as_prefix = λ around allowed place cs small room h.
        fitting-in around allowed (alone p) tt (Extends around allowed (alone p)) place cs (ways_of around.encoding p).as_piece
        (one_piece outermost (begins_name p) (fits_of p).as_piece)
        (prefix-behind-s around allowed (alone p)) (keeps p around.encoding).as_piece room h
        (λ fits enough. prefix-piece around allowed p (alone p) place cs ((ways_of around.encoding p).as_piece place cs)
        ((r.at spot.as_piece around allowed place cs small enough fits.2).begins fits.1) (outermost-alone around p fits.0))
    each spot.as_prefix_template = λ around allowed place cs small room h.
        fitting-in around allowed (alone p) tt (ExtendsWith around allowed (alone p)) place cs (ways_of around.encoding p).as_piece
        (one_piece outermost (begins_name p) (fits_of p).as_piece)
        (extends-with-behind-s around allowed (alone p)) (keeps p around.encoding).as_piece room h
        (λ fits enough. prefix-with-piece around allowed p (alone p) place cs ((ways_of around.encoding p).as_piece place cs)
        ((r.at spot.as_piece around allowed place cs small enough fits.2).begins fits.1) (outermost-alone around p fits.0))
    each spot.as_name = λ q ref good around allowed place cs small room h.
        let own : Spelling = (ways_of around.encoding p).as_piece in
        let none : name_letters q ref ≡ [] = no-letters (name_letters q ref) h.0 in
        subst (λ ls. NameReads around allowed COMPLETE_NAME (alone p) q ref place cs (with_letters ls own own place cs)) (sym none)
        (plain-name 8 around allowed (alone p) q ref place cs (own place cs) none
        (named-piece around allowed 8 p (alone p) place cs (own place cs)
        (r.at spot.as_piece around allowed place cs small (subst (λ ls. HasRoom (with_letters ls own own place cs)) none room) h.1.2)
        (own-rule p h.1.1) (outermost-alone around p h.1.0)).bare)
    each spot.as_argument = λ in_pack around allowed place cs small room h.
        typed-argument in_pack around allowed (alone p) place cs _ (whole item_type around allowed place cs small room h)
    each w = (reads-nowhere (alone p) (λ n. ways_of n (alone p))).at w
