-- A spelling that fits adds the components in it or finds them, and adds more bytes than components. This file shows this
-- for kinds of spellings, and for each way of a tree, by the sort of the tree.
use Rattle.cpp_press_laws.proofs.Basics.{sym, ◌∙◌, arith, ◌≡◌, ℕ, ◌+◌, ◌≤◌, inl, inr, length, List, [], ◌++◌, Option, Some, None, Bool, true, false, refl, ◌⊎◌, ◌∷◌, subst, length-append, codes, ◌and◌, text, false≢true, Qualifiers, RefQualifier, Term, string_literal, count, arguments_of, Around, name_letters, Component, Spelling, first_equal, seq_id, reference, spelled_out, component, ended, referred, Ways, no_ways, type_ways, template_before, entity_text, begun, encoding_ways, piece_ways, argument_ways, in_N_and_E, with_letters, Written, written, Standing, Fitting, as_component, as_reference, as_template, behind_bytes, Slot, any_type, bare_type, item_type, parameter_type, literal_type, Role, letters_of, Fits, nowhere, fits_nowhere, type_fits, piece_fits, argument_fits, encoding_fits, Behind, IsWithoutLetters, by_letters}
use Rattle.cpp_press_laws.proofs.Components.Parts.{IsComponent, Shut, Inside, Whole, Unqualified, Has, has-before, has-itself, has-closed, found-stands}
use Rattle.cpp_press_laws.proofs.Components.KnownTrees.{In}
use Rattle.cpp_press_laws.proofs.Fitting as fit
use Rattle.cpp_press_laws.proofs.Fitting.{Fit}
use Rattle.cpp_press_laws.proofs.Components.Complete.{Complete, complete-ended, complete-has}

-- at least k more bytes than components are added
abbrev pub FewBy : ℕ → List Component → Written → Type 0
FewBy k cs w = length w.components + k ≤ length cs + length w.bytes

-- What is written after the components `cs` keeps them, and adds at least k more bytes than components. If `cs` is complete, so
-- are the components after what is written, and they include the trees of `P`.
pub record AddsParts (k n : ℕ) (P : Term → Type 0) (cs : List Component) (w : Written) : Type 0 where
  pub complete : Complete cs → Complete w.components
  pub has : Complete cs → (x : Term) → P x → Has n x w.components
  pub keeps : (m : ℕ) (x : Term) → Has m x cs → Has m x w.components
  pub few : FewBy k cs w

-- a spelling that fits adds the trees of `P` or finds them
abbrev pub Adds : (k n : ℕ) → (P : Term → Type 0) → Standing → Spelling → Type 0
Adds k n P F spelling = (place : ℕ) (cs : List Component) → F place cs → AddsParts k n P cs (spelling place cs)

abbrev pub Either : (P Q : Term → Type 0) → (x : Term) → Type 0
Either P Q x = P x ⊎ Q x

abbrev pub No : (x : Term) → Type 0
No x = ⊥

-- ## Lists

pub none-added : {n : ℕ} {cs : List Component} (k : ℕ) (bytes : List ℕ) → k ≤ length bytes → AddsParts k n No cs (written bytes cs)
none-added k bytes le =
    record { complete = λ all. all; has = λ all x none. absurd none; keeps = λ m x has. has; few = omega (arith, le) }

pub both-added : {n : ℕ} {P Q : Term → Type 0} {cs : List Component} {w v : Written} (k m l : ℕ) → l ≤ k + m → AddsParts k n P cs w
    → AddsParts m n Q w.components v → AddsParts l n (Either P Q) cs (written (w.bytes ++ v.bytes) v.components)
both-added {n} {P} {Q} {cs} {w} {v} k m l le a b = record {
  complete = λ all. b.complete (a.complete all);
  has = λ all x is. elim is [ inl one ↦ b.keeps n x (a.has all x one) | inr other ↦ b.has (a.complete all) x other ];
  keeps = λ o x has. b.keeps o x (a.keeps o x has);
  few = omega (arith, le, a.few, b.few, length-append w.bytes v.bytes);
}

pub fewer-added : {k n : ℕ} {P Q : Term → Type 0} {cs : List Component} {w : Written} → AddsParts k n P cs w → In Q P → AddsParts k n Q cs w
fewer-added a more = record { complete = a.complete; has = λ all x is. a.has all x (more x is); keeps = a.keeps; few = a.few }

-- what a spelling adds when fixed bytes come before it, and when they come after it
pub after-bytes : {n : ℕ} {P : Term → Type 0} {cs : List Component} {w : Written} (k m : ℕ) (bytes : List ℕ) → m ≤ length bytes + k
    → AddsParts k n P cs w → AddsParts m n P cs (written (bytes ++ w.bytes) w.components)
after-bytes {n} {P} {cs} {w} k m bytes le a =
    record { complete = a.complete; has = a.has; keeps = a.keeps; few = omega (arith, le, a.few, length-append bytes w.bytes) }

pub before-bytes : {n : ℕ} {P : Term → Type 0} {cs : List Component} {w : Written} (k m : ℕ) (bytes : List ℕ) → m ≤ length bytes + k
    → AddsParts k n P cs w → AddsParts m n P cs (written (w.bytes ++ bytes) w.components)
before-bytes {n} {P} {cs} {w} k m bytes le a =
    record { complete = a.complete; has = a.has; keeps = a.keeps; few = omega (arith, le, a.few, length-append w.bytes bytes) }

pub nested-added : {n : ℕ} {P : Term → Type 0} {cs : List Component} {w : Written} (k : ℕ) (letters : List ℕ) → AddsParts k n P cs w
    → AddsParts k n P cs (written ((codes "N" ++ letters) ++ (w.bytes ++ codes "E")) w.components)
nested-added k letters a = after-bytes k k (codes "N" ++ letters) (omega arith) (before-bytes k k (codes "E") (omega arith) a)

pub fewer-by : {n : ℕ} {P : Term → Type 0} {cs : List Component} {w : Written} (k m : ℕ) → m ≤ k → AddsParts k n P cs w → AddsParts m n P cs w
fewer-by k m le a = after-bytes k m [] (omega (arith, le)) a

-- a tree that is spelled out becomes a component
pub tree-ended : {n : ℕ} {own : Term} {cs : List Component} {w : Written} (bytes : List ℕ) → length w.bytes ≤ length bytes
    → AddsParts 2 n (Inside own) cs w
    → AddsParts 1 n (Whole own) cs (written bytes (w.components ++ record { tree = own; encoding = n } ∷ []))
tree-ended {n} {own} {cs} {w} bytes le a =
    let one : List Component = record { tree = own; encoding = n } ∷ [] in
    record {
      complete = λ all. complete-ended n own w.components (a.complete all) (a.has all);
      has = λ all x is. elim is [
        | inl same ↦ subst (λ y. Has n y (w.components ++ one)) (sym same.1) (has-itself n own w.components)
        | inr i ↦ has-before n x w.components one (a.has all x i)
      ];
      keeps = λ m x has. has-before m x w.components one (a.keeps m x has);
      few = omega (arith, le, a.few, length-append w.components one);
    }

pub tree-found : {n : ℕ} {own : Term} {cs : List Component} (number : ℕ) (bytes : List ℕ) → first_equal n own 0 cs ≡ Some number
    → 1 ≤ length bytes → AddsParts 1 n (Whole own) cs (written bytes cs)
tree-found {n} {own} {cs} number bytes is some = record {
  complete = λ all. all;
  has = λ all. complete-has n own cs all (found-stands n own 0 number cs is);
  keeps = λ m x has. has;
  few = omega (arith, some);
}

-- the trees without free parameters that a spelling adds in an encoding are added outside the encoding, too
pub outside-added : {k n m : ℕ} {P : Term → Type 0} {cs : List Component} {w : Written} → AddsParts k n P cs w
    → AddsParts k m (λ x. Shut (P x) x) cs w
outside-added {k} {n} {m} {P} {cs} {w} a =
    record { complete = a.complete; has = λ all x s. has-closed n m x w.components s.0 (a.has all x s.1); keeps = a.keeps; few = a.few }

-- ## Places

pub behind-and : (first rest : Spelling) (G : Standing) (place : ℕ) (cs : List Component) → Behind (first and rest) G place cs
    → Behind first (Behind rest G) place cs
behind-and first rest G place cs fits =
    let f : Written = first place cs in
    let g : Written = rest (place + length f.bytes) f.components in
    let same : place + length (f.bytes ++ g.bytes) ≡ place + length f.bytes + length g.bytes = omega
    (arith, length-append f.bytes g.bytes) in
    subst (λ p. G p g.components) same fits

pub at-once : (G : Standing) (place : ℕ) (cs : List Component) → G (place + 0) cs → G place cs
at-once G place cs fits = let same : place + 0 ≡ place = omega arith in subst (λ p. G p cs) same fits

-- ## Spellings

pub and-adds : {n : ℕ} {P Q : Term → Type 0} {F G : Standing} {first rest : Spelling} (k m l : ℕ) → l ≤ k + m → Adds k n P F first
    → Adds m n Q G rest → Adds l n (Either P Q) (λ place cs. F place cs × Behind first G place cs) (first and rest)
and-adds {n} {P} {Q} {F} {G} {first} {rest} k m l le one more place cs (fits, behind) =
    let f : Written = first place cs in
    both-added k m l le (one place cs fits) (more (place + length f.bytes) f.components behind)

pub component-adds : (n : ℕ) (own : Term) (F : Standing) (spelling : Spelling) → Adds 2 n (Inside own) F spelling
    → Adds 1 n (Whole own) (λ place cs. first_equal n own 0 cs ≡ None → F place cs) (component n own spelling)
unfolding component reference spelled_out ended
component-adds n own F spelling one place cs fits = go (first_equal n own 0 cs) refl
  where
    go : (o : Option ℕ) → first_equal n own 0 cs ≡ o → AddsParts 1 n (Whole own) cs (elim o as (λ _. Written)
        [ Some number ↦ reference number place cs | None ↦ spelled_out n own spelling place cs ])
    go (Some number) is = tree-found number (codes "S" ++ seq_id number ++ codes "_") is (omega arith)
    go None is =
        let w : Written = spelling place cs in
        tree-ended (w.bytes ++ []) (omega (arith, length-append w.bytes [])) (one place cs (fits is))

-- a template name and its arguments, without an N
pub whole-adds : (m n : ℕ) (own : Term) (Q : Term → Type 0) (F G : Standing) (between arguments : Spelling) → Adds 2 n (Inside own) F between
    → Adds m n Q G arguments → (place : ℕ) (cs : List Component) → F place cs → Behind between (Behind (ended n own) G) place cs
    → AddsParts m n (Either (Whole own) Q) cs ((between and ended n own and arguments) place cs)
unfolding ended
whole-adds m n own Q F G between arguments one more place cs fits behind =
    let f : Written = between place cs in
    let now : List Component = f.components ++ record { tree = own; encoding = n } ∷ [] in
    both-added 1 m m (omega arith) (tree-ended f.bytes (omega arith) (one place cs fits)) (more (place + length f.bytes + 0) now behind)

abbrev pub TemplateFits : (n : ℕ) → Term → (F : Standing) → (front : Spelling) → (G : Standing) → Standing
TemplateFits n own F front G place cs =
    ((number : ℕ) → first_equal n own 0 cs ≡ Some number → Behind (reference number) G place cs)
    × (first_equal n own 0 cs ≡ None → F place cs × Behind (front and ended n own) G place cs)

-- a template name and its arguments: the name is a reference if an equal component comes before; otherwise it is spelled out
referred-adds : (m n : ℕ) (own : Term) (Q : Term → Type 0) (G : Standing) (arguments other : Spelling) → Adds m n Q G arguments
    → (place : ℕ) (cs : List Component)
    → ((number : ℕ) → first_equal n own 0 cs ≡ Some number → Behind (reference number) G place cs)
    → (first_equal n own 0 cs ≡ None → AddsParts m n (Either (Whole own) Q) cs (other place cs))
    → AddsParts m n (Either (Whole own) Q) cs (referred n own arguments other place cs)
unfolding referred reference
referred-adds m n own Q G arguments other more place cs found new = go (first_equal n own 0 cs) refl
  where
    go : (o : Option ℕ) → first_equal n own 0 cs ≡ o → AddsParts m n (Either (Whole own) Q) cs (elim o as (λ _. Written)
        [ Some number ↦ (reference number and arguments) place cs | None ↦ other place cs ])
    go (Some number) is =
        let bytes : List ℕ = codes "S" ++ seq_id number ++ codes "_" in
        both-added 1 m m (omega arith) (tree-found number bytes is (omega arith)) (more (place + length bytes) cs (found number is))
    go None is = new is

pub template-adds : (m n : ℕ) (own : Term) (Q : Term → Type 0) (F G : Standing) (between arguments : Spelling)
    → Adds 2 n (Inside own) F between → Adds m n Q G arguments
    → Adds m n (Either (Whole own) Q) (TemplateFits n own F between G) (template_before n own false between arguments)
unfolding template_before
template-adds m n own Q F G between arguments one more place cs (found, new) =
    referred-adds m n own Q G arguments (between and ended n own and arguments) more place cs found
    (λ none. whole-adds m n own Q F G between arguments one more place cs (new none).0
    (behind-and between (ended n own) G place cs (new none).1))

-- a template name and its arguments: if the name is spelled out, it is between N and E
pub nested-template-adds : (m n : ℕ) (own : Term) (Q : Term → Type 0) (F G : Standing) (between arguments : Spelling)
    → Adds 2 n (Inside own) F between → Adds m n Q G arguments
    → Adds m n (Either (Whole own) Q) (TemplateFits n own (λ place cs. F (place + 1) cs) (text (codes "N") and between) G)
    (template_before n own true between arguments)
unfolding template_before in_N_and_E
nested-template-adds m n own Q F G between arguments one more place cs (found, new) =
    referred-adds m n own Q G arguments (in_N_and_E [] (between and ended n own and arguments)) more place cs found
    (λ none. nested-added m [] (whole-adds m n own Q F G between arguments one more (place + 1) cs (new none).0
    (behind-and (text (codes "N")) between (Behind (ended n own) G) place cs
    (behind-and (text (codes "N") and between) (ended n own) G place cs (new none).1))))

-- a name without letters, or with them
pub letters-add : (k m : ℕ) → m ≤ k → (letters : List ℕ) (n : ℕ) (P : Term → Type 0) (around : Around) (allowed : Option ℕ) (F G : Fitting)
    (own between : Spelling) → Adds k n P (F around allowed) own → Adds k n P (G around allowed) between
    → Adds m n P (by_letters letters F G around allowed) (with_letters letters own between)
unfolding by_letters with_letters in_N_and_E
letters-add k m le [] n P around allowed F G own between one two place cs fits = fewer-by k m le (one place cs fits)
letters-add k m le (l ∷ ls) n P around allowed F G own between one two place cs fits =
    fewer-by k m le (nested-added k (l ∷ ls) (two (place + length (codes "N" ++ l ∷ ls)) cs fits))

-- a name that has no letters
pub no-letters-add : (k : ℕ) (letters : List ℕ) (n : ℕ) (P : Term → Type 0) (F : Standing) (own between : Spelling) → Adds k n P F own
    → Adds 0 n P (λ place cs. IsWithoutLetters letters × F place cs) (with_letters letters own between)
unfolding with_letters
no-letters-add k [] n P F own between one place cs fits = fewer-by k 0 (omega arith) (one place cs fits.1)
no-letters-add k (l ∷ ls) n P F own between one place cs fits = absurd fits.0

-- a type right under qualifiers has a way of its own
unfoldable pub way_at : Slot → Ways → Spelling
way_at bare_type w = w.under_qualifiers
way_at _ w = w.as_type

abbrev pub AtSlot : Slot → Term → (x : Term) → Type 0
AtSlot bare_type t x = Unqualified t x
AtSlot _ t x = Whole t x

-- a slot that isn't right under qualifiers
abbrev pub IsNotBare : Slot → Type 0
IsNotBare bare_type = ⊥
IsNotBare _ = Unit {0}

-- how many arguments a name ends in
unfoldable pub arguments_count : Term → ℕ
arguments_count t = elim (arguments_of t) as (λ _. ℕ) [ None ↦ 0 | Some a ↦ count a ]

-- the least number of bytes of a piece of a name
unfoldable pub surplus : Term → ℕ
surplus string_literal = 1
surplus _ = 2

pub surplus-some : (p : Term) → 1 ≤ surplus p
unfolding surplus
surplus-some string_literal = omega arith
surplus-some _ = omega arith

-- a piece that isn't a string literal has at least two bytes
pub surplus-named : (f : Term → Bool) → f string_literal ≡ false → (p : Term) → f p ≡ true → 2 ≤ surplus p
unfolding surplus
surplus-named f never string_literal is = absurd (false≢true (sym never ∙ is))
surplus-named f never _ is = omega arith

-- what a tree adds or finds in one of its ways, if it fits there
abbrev pub AddAt : Fit → (t : Term) → Fits → (ℕ → Ways) → Type 0
AddAt fit.as_type t f w =
    (slot : Slot) (around : Around) (allowed : Option ℕ)
    → Adds 1 around.encoding (AtSlot slot t) (f.as_type slot around allowed) (way_at slot (w around.encoding))
AddAt fit.as_prefix t f w =
    (around : Around) (allowed : Option ℕ)
    → Adds 1 around.encoding (Whole t) (f.as_prefix around allowed) (w around.encoding).as_prefix
AddAt fit.as_prefix_template t f w =
    (around : Around) (allowed : Option ℕ)
    → Adds 1 around.encoding (Whole t) (f.as_prefix_template around allowed) (w around.encoding).as_prefix
AddAt fit.between t f w =
    (around : Around) (allowed : Option ℕ)
    → Adds 2 around.encoding (Inside t) (f.between around allowed) (w around.encoding).between_N_and_E
AddAt fit.between_template t f w =
    (around : Around) (allowed : Option ℕ)
    → Adds 2 around.encoding (Inside t) (f.between_template around allowed) (w around.encoding).between_N_and_E
AddAt fit.as_entity t f w =
    (role : Role) (around : Around) (allowed : Option ℕ)
    → Adds (arguments_count t) around.encoding (Inside t) (f.as_entity role around allowed) (entity_text t (letters_of role)
    (w around.encoding).between_N_and_E)
AddAt fit.as_entity_template t f w =
    (around : Around) (allowed : Option ℕ)
    → Adds 2 around.encoding (Inside t) (f.as_entity_template around allowed) (w around.encoding).between_N_and_E
AddAt fit.as_piece t f w =
    (around : Around) (allowed : Option ℕ)
    → Adds (surplus t) around.encoding (Inside t) (f.as_piece around allowed) (w around.encoding).as_piece
AddAt fit.as_encoding t f w = (allowed : Option ℕ) (n m : ℕ) → Adds 0 m (Inside t) (f.as_encoding allowed) (w n).as_encoding
AddAt fit.as_name t f w =
    (q : Qualifiers) (ref : RefQualifier) (around : Around) (allowed : Option ℕ)
    → Adds (arguments_count t) around.encoding (Inside t) (f.as_name q ref around allowed) ((w around.encoding).as_name (name_letters q ref))
AddAt fit.as_argument t f w =
    (in_pack : Bool) (around : Around) (allowed : Option ℕ)
    → Adds 1 around.encoding (Whole t) (f.as_argument in_pack around allowed) (w around.encoding).as_argument
AddAt fit.as_parameters t f w =
    (slot : Slot) → IsNotBare slot → (around : Around) (allowed : Option ℕ)
    → Adds 0 around.encoding (Inside t) (f.as_parameters slot around allowed) (w around.encoding).as_parameters
AddAt fit.as_more_parameters t f w =
    (slot : Slot) → IsNotBare slot → (around : Around) (allowed : Option ℕ)
    → Adds 0 around.encoding (Inside t) (f.as_more_parameters slot around allowed) (w around.encoding).as_more_parameters
AddAt fit.as_elements t f w =
    (in_pack : Bool) (around : Around) (allowed : Option ℕ)
    → Adds (count t) around.encoding (Inside t) (f.as_elements in_pack around allowed) (w around.encoding).as_elements

abbrev pub AddsAt : (t : Term) → Fits → (ℕ → Ways) → Type 0
AddsAt t f w = (each : Fit) → AddAt each t f w

pub record WaysAdd (t : Term) (f : Fits) (w : ℕ → Ways) : Type 1 where
  pub at : AddsAt t f w
  pub before : (typed : Bool) (m : ℕ) (around : Around) (allowed : Option ℕ) (G : Fitting) (arguments : Spelling) (Q : Term → Type 0)
      → Adds m around.encoding Q (G around allowed) arguments
      → Adds m around.encoding (Either (Whole t) Q) (f.before typed G around allowed) ((w around.encoding).before typed arguments)

-- ## Parts

-- a component that fits
pub in-component : (around : Around) (allowed : Option ℕ) (own : Term) (spelled : Fitting) (s : Spelling)
    → Adds 2 around.encoding (Inside own) (spelled around allowed) s
    → Adds 1 around.encoding (Whole own) (as_component own spelled around allowed) (component around.encoding own s)
in-component around allowed own spelled s one place cs fits =
    component-adds around.encoding own (spelled around allowed) s one place cs fits.1

pub nowhere-adds : (k n : ℕ) (P : Term → Type 0) (s : Spelling) → Adds k n P (λ place cs. ⊥) s
nowhere-adds k n P s place cs fits = absurd fits

pub reference-adds : (around : Around) (allowed : Option ℕ) (own : Term) (s : Spelling)
    → Adds 1 around.encoding (Whole own) (as_reference own around allowed) (component around.encoding own s)
reference-adds around allowed own s =
    in-component around allowed own (λ around allowed place cs. ⊥) s (nowhere-adds 2 around.encoding (Inside own) s)

-- a spelling that adds or finds trees adds or finds any subset of them
pub fewer-adds : (k n : ℕ) (P Q : Term → Type 0) (F : Standing) (s : Spelling) → In Q P → Adds k n P F s → Adds k n Q F s
fewer-adds k n P Q F s more one place cs fits = fewer-added (one place cs fits) more

-- the spelling of a tree without components adds nothing
pub leaf-adds : (k n : ℕ) (P : Term → Type 0) (F : Standing) (bytes : List ℕ) → k ≤ length bytes → In P No → Adds k n P F (text bytes)
leaf-adds k n P F bytes long none place cs fits = fewer-added (none-added k bytes long) none

pub no-whole : (t : Term) → (IsComponent t → ⊥) → In (Inside t) No → In (Whole t) No
no-whole t never none x (inl same) = never same.0
no-whole t never none x (inr i) = none x i

-- a template name that has an equal component before it, and its arguments
pub found-and-adds : (m : ℕ) (around : Around) (allowed : Option ℕ) (own : Term) (front : ℕ → Spelling) (G : Fitting) (s arguments : Spelling)
    (Q : Term → Type 0) → Adds m around.encoding Q (G around allowed) arguments
    → Adds m around.encoding (Either (Whole own) Q) (as_template own nowhere front G around allowed)
    (component around.encoding own s and arguments)
unfolding component reference
found-and-adds m around allowed own front G s arguments Q more place cs fits = go (first_equal around.encoding own 0 cs) refl
  where
    go : (o : Option ℕ) → first_equal around.encoding own 0 cs ≡ o
        → (let w = elim o as (λ _. Written) [
          | Some number ↦ reference number place cs
          | None ↦ spelled_out around.encoding own s place cs
        ] in
        let rest = arguments (place + length w.bytes) w.components in
        AddsParts m around.encoding (Either (Whole own) Q) cs (written (w.bytes ++ rest.bytes) rest.components))
    go (Some number) is =
        let bytes : List ℕ = codes "S" ++ seq_id number ++ codes "_" in
        both-added 1 m m (omega arith) (tree-found number bytes is (omega arith)) (more (place + length bytes) cs (fits.1 number is))
    go None is = absurd (fits.2 is).0

-- a template name that can only be a reference to a component before it, as `template_before` spells it, and its arguments
pub found-template-adds : (m : ℕ) (around : Around) (allowed : Option ℕ) (own : Term) (front : ℕ → Spelling) (G : Fitting) (needs_N : Bool)
    (between arguments : Spelling) (Q : Term → Type 0) → Adds m around.encoding Q (G around allowed) arguments
    → Adds m around.encoding (Either (Whole own) Q) (as_template own nowhere front G around allowed)
    (template_before around.encoding own needs_N between arguments)
unfolding template_before
found-template-adds m around allowed own front G needs_N between arguments Q more place cs fits =
    referred-adds m around.encoding own Q (G around allowed) arguments _ more place cs fits.1 (λ is. absurd (fits.2 is).0)

pub in-template : (m : ℕ) (around : Around) (allowed : Option ℕ) (own : Term) (spelled : Fitting) (between : ℕ → Spelling) (G : Fitting)
    (arguments : Spelling) (Q : Term → Type 0) → Adds 2 around.encoding (Inside own) (spelled around allowed) (between around.encoding)
    → Adds m around.encoding Q (G around allowed) arguments
    → Adds m around.encoding (Either (Whole own) Q) (as_template own spelled between G around allowed)
    (template_before around.encoding own false (between around.encoding) arguments)
in-template m around allowed own spelled between G arguments Q one more place cs fits =
    template-adds m around.encoding own Q (spelled around allowed) (G around allowed) (between around.encoding) arguments one more place cs
    (fits.1, fits.2)

pub in-nested-template : (m : ℕ) (around : Around) (allowed : Option ℕ) (own : Term) (spelled : Fitting) (between : ℕ → Spelling) (G : Fitting)
    (arguments : Spelling) (Q : Term → Type 0) → Adds 2 around.encoding (Inside own) (spelled around allowed) (between around.encoding)
    → Adds m around.encoding Q (G around allowed) arguments
    → Adds m around.encoding (Either (Whole own) Q) (as_template own (behind_bytes (codes "N") spelled) (λ n. text
    (codes "N") and between n) G around allowed)
    (template_before around.encoding own true (between around.encoding) arguments)
in-nested-template m around allowed own spelled between G arguments Q one more place cs fits =
    nested-template-adds m around.encoding own Q (spelled around allowed) (G around allowed)
    (between around.encoding) arguments one more place cs
    (fits.1, fits.2)

-- ## The ways of each sort

pub component-at : {n : ℕ} {t : Term} {F : Standing} (slot : Slot) (w : Ways) → In (Unqualified t) (Whole t) → Adds 1 n (Whole t) F w.as_type
    → Adds 1 n (Whole t) F w.under_qualifiers → Adds 1 n (AtSlot slot t) F (way_at slot w)
unfolding way_at
component-at any_type w same one other = one
component-at {n} {t} {F} bare_type w same one other = fewer-adds 1 n (Whole t) (Unqualified t) F w.under_qualifiers same other
component-at item_type w same one other = one
component-at parameter_type w same one other = one
component-at literal_type w same one other = one

-- a tree that fits nowhere
pub nowhere-ways-add : (t : Term) (w : ℕ → Ways) → WaysAdd t fits_nowhere w
unfolding fits_nowhere
nowhere-ways-add t w = record {
  at = each;
  before = λ typed m around allowed G arguments Q more place cs fits. absurd fits;
}
  where
    each : AddsAt t fits_nowhere w
    each fit.as_type = λ slot around allowed place cs fits. absurd fits
    each fit.as_prefix = λ around allowed place cs fits. absurd fits
    each fit.as_prefix_template = λ around allowed place cs fits. absurd fits
    each fit.between = λ around allowed place cs fits. absurd fits
    each fit.between_template = λ around allowed place cs fits. absurd fits
    each fit.as_entity = λ role around allowed place cs fits. absurd fits
    each fit.as_entity_template = λ around allowed place cs fits. absurd fits
    each fit.as_piece = λ around allowed place cs fits. absurd fits
    each fit.as_encoding = λ allowed n m place cs fits. absurd fits
    each fit.as_name = λ q ref around allowed place cs fits. absurd fits
    each fit.as_argument = λ in_pack around allowed place cs fits. absurd fits
    each fit.as_parameters = λ slot other around allowed place cs fits. absurd fits
    each fit.as_more_parameters = λ slot other around allowed place cs fits. absurd fits
    each fit.as_elements = λ in_pack around allowed place cs fits. absurd fits

pub type-ways-add : (t : Term) (spelled : Slot → Fitting) (s : ℕ → Spelling) → In (Unqualified t) (Whole t)
    → ((slot : Slot) (around : Around) (allowed : Option ℕ)
    → Adds 2 around.encoding (Inside t) (spelled slot around allowed) (s around.encoding))
    → WaysAdd t (type_fits t spelled) (λ n. type_ways (component n t (s n)))
unfolding type_fits fits_nowhere type_ways no_ways
type-ways-add t spelled s same one = record {
  at = each;
  before = λ typed m around allowed G arguments Q more. found-and-adds m around allowed t (λ n. text []) G (s around.encoding) arguments Q more;
}
  where
    each : AddsAt t (type_fits t spelled) (λ n. type_ways (component n t (s n)))
    each fit.as_type = λ slot around allowed. component-at slot _ same (in-component around allowed t (spelled slot) (s around.encoding) (one slot around allowed)) (in-component around allowed t (spelled slot) (s around.encoding) (one slot around allowed))
    each fit.as_prefix = λ around allowed. reference-adds around allowed t (s around.encoding)
    each fit.as_prefix_template = λ around allowed. reference-adds around allowed t (s around.encoding)
    each fit.as_argument = λ in_pack around allowed. in-component around allowed t (spelled item_type) (s around.encoding)
        (one item_type around allowed)
    each w = (nowhere-ways-add t (λ n. type_ways (component n t (s n)))).at w

pub piece-ways-add : (t : Term) (fitting : Fitting) (s : ℕ → Spelling)
    → ((around : Around) (allowed : Option ℕ) → Adds (surplus t) around.encoding (Inside t) (fitting around allowed) (s around.encoding))
    → WaysAdd t (piece_fits fitting) (λ n. piece_ways (s n))
unfolding piece_fits fits_nowhere piece_ways no_ways
piece-ways-add t fitting s one = record {
  at = each;
  before = (nowhere-ways-add t (λ n. piece_ways (s n))).before;
}
  where
    each : AddsAt t (piece_fits fitting) (λ n. piece_ways (s n))
    each fit.as_piece = one
    each w = (nowhere-ways-add t (λ n. piece_ways (s n))).at w

pub argument-ways-add : (t : Term) (fitting : Bool → Fitting) (s : ℕ → Spelling) → In (Whole t) (Inside t)
    → ((in_pack : Bool) (around : Around) (allowed : Option ℕ)
    → Adds 1 around.encoding (Inside t) (fitting in_pack around allowed) (s around.encoding))
    → WaysAdd t (argument_fits fitting) (λ n. argument_ways (s n))
unfolding argument_fits fits_nowhere argument_ways no_ways
argument-ways-add t fitting s same one = record {
  at = each;
  before = (nowhere-ways-add t (λ n. argument_ways (s n))).before;
}
  where
    each : AddsAt t (argument_fits fitting) (λ n. argument_ways (s n))
    each fit.as_argument = λ in_pack around allowed. fewer-adds 1 around.encoding (Inside t) (Whole t) (fitting in_pack around allowed)
        (s around.encoding) same
        (one in_pack around allowed)
    each w = (nowhere-ways-add t (λ n. argument_ways (s n))).at w

pub encoding-ways-add : (t : Term) (standing : (allowed : Option ℕ) → Standing) (s : (encoding : ℕ) → Spelling) (raw : Term → Type 0)
    → In (Inside t) (λ x. Shut (raw x) x)
    → ((allowed : Option ℕ) (place : ℕ) (cs : List Component) → standing allowed place cs
    → AddsParts 0 place raw cs (s place place cs))
    → WaysAdd t (encoding_fits standing) (λ n. encoding_ways s)
unfolding encoding_fits fits_nowhere encoding_ways no_ways begun
encoding-ways-add t standing s raw same one = record {
  at = each;
  before = (nowhere-ways-add t (λ n. encoding_ways s)).before;
}
  where
    each : AddsAt t (encoding_fits standing) (λ n. encoding_ways s)
    each fit.as_encoding = λ allowed n m place cs fits. fewer-added (outside-added (one allowed place cs fits)) same
    each w = (nowhere-ways-add t (λ n. encoding_ways s)).at w
