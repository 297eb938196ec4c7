-- Types are read wherever types may be, both as references and spelled out.
use Rattle.cpp_press_laws.proofs.Basics.{◌≡◌, ℕ, ◌+◌, ◌≤◌, length, List, [], ◌∷◌, ◌++◌, Option, Some, None, Bool, true, false, refl, arith, sym, subst, append-nil, length-append, ◌∙◌, ◌&&◌, TakesRule, ◌and◌, Kind, Production, ABBREVIATION, TYPE, PLAIN, ITEM, ITEM_BUT_REF, SOLID, LITERAL, LITERAL_TYPE, abi, rule_of, RefQualifier, Signed, Term, integer, list, Around, tree, is_function_type, signed_text, Component, Spelling, first_equal, seq_id, reference, ended, spelled_out, component, IsSpellableNumber, greatest, Written, written, ReadsAt, Is, HasRoom, Slot, any_type, bare_type, item_type, parameter_type, literal_type, IsFirst, Fitting, as_component, MayBeReferred, and-true}
use Rattle.sym_shape.specs.declared.rule.Sym.TheVariants.{Kind as OfKind}
use Rattle.cpp_press_laws.proofs.ReadBack.Reading.{takes-byte, elsewhere, grammar, more}
use Rattle.cpp_press_laws.proofs.ReadBack.References.{found-first, number-refers}
use Rattle.cpp_press_laws.proofs.ReadBack.Types.{HasTypes, types-any, types-bare, types-item, types-parameter, solid-with-s, type-behind-s, behind-s}
use Rattle.cpp_press_laws.proofs.ReadBack.Functions.{rest-item, RestReads}
use Rattle.cpp_press_laws.proofs.ReadBack.Arguments.{integer-reads}
use Rattle.cpp_press_laws.proofs.ReadBack.Literals.{integer-literal}
use Rattle.cpp_press_laws.proofs.Components.Parts.{IsComponent}
use Rattle.cpp_press_laws.proofs.Components.Keeping.{Keeps, keeps-component}

-- ## Room

pub room-first : (first rest : Spelling) (place : ℕ) (cs : List Component) → Keeps rest → HasRoom ((first and rest) place cs)
    → HasRoom (first place cs)
room-first first rest place cs keeps room =
    let f : Written = first place cs in
    let at : ℕ = place + length f.bytes in
    record {
      short = omega (arith, room.short, length-append f.bytes (rest at f.components).bytes);
      few = omega (arith, room.few, keeps.kept at f.components);
    }

pub room-rest : (first rest : Spelling) (place : ℕ) (cs : List Component) → HasRoom ((first and rest) place cs)
    → HasRoom (rest (place + length (first place cs).bytes) (first place cs).components)
room-rest first rest place cs room =
    let f : Written = first place cs in
    record {
      short = omega (arith, room.short, length-append f.bytes (rest (place + length f.bytes) f.components).bytes);
      few = room.few;
    }

pub few-before : (spelling : Spelling) (place : ℕ) (cs : List Component) → Keeps spelling → HasRoom (spelling place cs) → length cs ≤ greatest
few-before spelling place cs keeps room = omega (arith, keeps.kept place cs, room.few)

spelled-room : (n : ℕ) (own : Term) (spelling : Spelling) (place : ℕ) (cs : List Component) → HasRoom (spelled_out n own spelling place cs)
    → HasRoom (spelling place cs)
unfolding spelled_out ended
spelled-room n own spelling place cs room =
    let w : Written = spelling place cs in
    record {
      short = omega (arith, room.short, length-append w.bytes []);
      few = omega (arith, room.few, length-append w.components (record { tree = own; encoding = n } ∷ []));
    }

pub room-component : (n : ℕ) (own : Term) (spelling : Spelling) (place : ℕ) (cs : List Component) → first_equal n own 0 cs ≡ None
    → HasRoom (component n own spelling place cs) → HasRoom (spelling place cs)
unfolding component
room-component n own spelling place cs none room =
    spelled-room n own spelling place cs (subst (λ o. HasRoom (elim o as (λ _. Written) [
      | Some number ↦ reference number place cs
      | None ↦ spelled_out n own spelling place cs
    ])) none room)

-- ## Where types are

-- What is written is read as a type: as a parameter before others in a function type, and before a number in a literal.
abbrev pub ReadsAs : Slot → Around → Option ℕ → Term → (place : ℕ) → List Component → Written → Type 0
ReadsAs any_type around allowed t place cs w = ReadsAt around allowed (OfKind TYPE) (Is (tree t true)) place cs w
ReadsAs bare_type around allowed t place cs w = ReadsAt around allowed (OfKind PLAIN) (Is (tree t true)) place cs w
ReadsAs item_type around allowed t place cs w = ReadsAt around allowed (OfKind ITEM) (Is (tree t true)) place cs w
ReadsAs parameter_type around allowed t place cs w =
    (items : Term) (ref : RefQualifier) (rest : Written) → RestReads around allowed items ref (place + length w.bytes) w.components rest
    → RestReads around allowed (list t items) ref place cs (written (w.bytes ++ rest.bytes) rest.components)
ReadsAs literal_type around allowed t place cs w =
    (n : Signed) → IsSpellableNumber n
    → ReadsAt around allowed (OfKind LITERAL) (Is (tree (integer t n) true)) place cs (written (w.bytes ++ signed_text n) w.components)

-- in each slot, the kind of the types that have either a letter of their own or a name
abbrev pub solid_kind : Slot → ℕ
solid_kind literal_type = LITERAL_TYPE
solid_kind _ = SOLID

-- how a type is read in a slot: after an S; spelled out, as a new component; or spelled out, but as no new component
pub record InSlot (around : Around) (allowed : Option ℕ) (t : Term) (solid : ℕ) (reads : ℕ → List Component → Written → Type 0) : Type 0 where
  pub behind_s : (place : ℕ) (cs : List Component) (w : Written) → ReadsAt around allowed (OfKind ABBREVIATION) (Is (tree t true)) (place + 1) cs w
      → reads place cs (written (83 ∷ w.bytes) w.components)
  pub adds : (place : ℕ) (cs : List Component) (w : Written) → ReadsAt around allowed (OfKind solid) (Is (tree t false)) place cs w
      → reads place cs (written w.bytes (more around w.components t))
  pub keeps : (place : ℕ) (cs : List Component) (w : Written) → ReadsAt around allowed (OfKind solid) (Is (tree t true)) place cs w
      → reads place cs w

in-kind : (k : ℕ) (around : Around) (allowed : Option ℕ) (t : Term) → HasTypes around allowed k t
    → InSlot around allowed t SOLID (λ place cs w. ReadsAt around allowed (OfKind k) (Is (tree t true)) place cs w)
in-kind k around allowed t has = record {
  behind_s = λ place cs w one. type-behind-s k around allowed place t cs w has (elsewhere (omega arith) one);
  adds = λ place cs w one. has.solid.adds place cs w (elsewhere (omega arith) one);
  keeps = λ place cs w one. has.solid.keeps place cs w (elsewhere (omega arith) one);
}

-- a parameter of a function type that begins with neither an R nor an O
pub in-rest : (around : Around) (allowed : Option ℕ) (t : Term) (place : ℕ) (cs : List Component) (w : Written)
    → ReadsAt around allowed (OfKind ITEM_BUT_REF) (Is (tree t true)) place cs w → ReadsAs parameter_type around allowed t place cs w
in-rest around allowed t place cs w one items ref rest two =
    rest-item around allowed t items ref place cs w rest (elsewhere (omega arith) one) (elsewhere (omega arith) two)

in-parameter : (around : Around) (allowed : Option ℕ) (t : Term) → InSlot around allowed t SOLID (ReadsAs parameter_type around allowed t)
in-parameter around allowed t =
    let i = in-kind ITEM_BUT_REF around allowed t (types-parameter around allowed t) in
    record {
      behind_s = λ place cs w one. in-rest around allowed t place cs _ (i.behind_s place cs w one);
      adds = λ place cs w one. in-rest around allowed t place cs _ (i.adds place cs w one);
      keeps = λ place cs w one. in-rest around allowed t place cs w (i.keeps place cs w one);
    }

-- the type of a literal
literal-keeps : (around : Around) (allowed : Option ℕ) (t : Term) (place : ℕ) (cs : List Component) (w : Written)
    → ReadsAt around allowed (OfKind LITERAL_TYPE) (Is (tree t true)) place cs w → ReadsAs literal_type around allowed t place cs w
literal-keeps around allowed t place cs w one n good =
    integer-literal true around allowed t n place cs w (written (signed_text n) w.components)
    (elsewhere (omega arith) one)
    (integer-reads around allowed n (place + 0 + length w.bytes) w.components good)

takes-S : (slot : Slot) → TakesRule abi (solid_kind slot) (rule_of Production.TypeWithS) (83 ∷ [])
unfolding grammar
takes-S literal_type = takes-byte LITERAL_TYPE Kind.LiteralType Production.TypeWithS 83 refl refl (omega arith) refl
takes-S _ = takes-byte SOLID Kind.Solid Production.TypeWithS 83 refl refl (omega arith) refl

in-literal : (around : Around) (allowed : Option ℕ) (t : Term) → InSlot around allowed t LITERAL_TYPE (ReadsAs literal_type around allowed t)
in-literal around allowed t = record {
  behind_s = λ place cs w one. literal-keeps around allowed t place cs (written (83 ∷ w.bytes) w.components)
      (solid-with-s LITERAL_TYPE around allowed place t true cs w (takes-S literal_type) (behind-s around allowed t (place + 1) cs w (elsewhere (omega arith) one)));
  adds = λ place cs w one n good.
      integer-literal false around allowed t n place cs w (written (signed_text n) (more around w.components t))
      (elsewhere (omega arith) one)
      (integer-reads around allowed n (place + 0 + length w.bytes) (more around w.components t) good);
  keeps = literal-keeps around allowed t;
}

unfoldable pub is_bare : Slot → Bool
is_bare bare_type = true
is_bare _ = false

-- any type in any slot, except for a function type directly under qualifiers
pub in-slot : (slot : Slot) (around : Around) (allowed : Option ℕ) (t : Term) → is_function_type t && is_bare slot ≡ false
    → InSlot around allowed t (solid_kind slot) (ReadsAs slot around allowed t)
unfolding is_bare
in-slot any_type around allowed t h = in-kind TYPE around allowed t (types-any around allowed t)
in-slot bare_type around allowed t h = in-kind PLAIN around allowed t (types-bare around allowed t (sym (and-true (is_function_type t)) ∙ h))
in-slot item_type around allowed t h = in-kind ITEM around allowed t (types-item around allowed t)
in-slot parameter_type around allowed t h = in-parameter around allowed t
in-slot literal_type around allowed t h = in-literal around allowed t

-- ## Components

-- an abbreviation or a reference after an S is read as `reads` says
abbrev pub BehindS : Around → Option ℕ → Term → (ℕ → List Component → Written → Type 0) → Type 0
BehindS around allowed t reads =
    (place : ℕ) (cs : List Component) (w : Written) → ReadsAt around allowed (OfKind ABBREVIATION) (Is (tree t true)) (place + 1) cs w
    → reads place cs (written (83 ∷ w.bytes) w.components)

-- a component is spelled as a reference if an equal one comes before, and is otherwise spelled out
pub component-in : (around : Around) (allowed : Option ℕ) (own : Term) → IsComponent own → (reads : ℕ → List Component → Written → Type 0) (place : ℕ)
    (cs : List Component) (spelling : Spelling) → BehindS around allowed own reads → length cs ≤ greatest → MayBeReferred around allowed own
    → (IsFirst around own cs → reads place cs (written (spelling place cs).bytes (more around (spelling place cs).components own)))
    → reads place cs (component around.encoding own spelling place cs)
unfolding component reference spelled_out ended
component-in around allowed own is_one reads place cs spelling behind few may out = go (first_equal around.encoding own 0 cs) refl
  where
    go : (o : Option ℕ) → first_equal around.encoding own 0 cs ≡ o → reads place cs (elim o as (λ _. Written) [
      | Some number ↦ reference number place cs
      | None ↦ spelled_out around.encoding own spelling place cs
    ])
    go (Some number) is =
        let f = found-first around.encoding own 0 number cs is in
        let named : f.0 ≡ number = omega (arith, f.1) in
        subst (λ n. reads place cs (reference n place cs)) named
        (behind place cs (written (seq_id f.0 ++ 95 ∷ []) cs) (number-refers around allowed own f.0 (place + 1) cs few is_one may f.2))
    go None is =
        subst (λ l. reads place cs (written l (more around (spelling place cs).components own))) (sym (append-nil
        (spelling place cs).bytes)) (out is)

-- a component that fits is read as a reference, or as its own spelling
pub fitting-in : (around : Around) (allowed : Option ℕ) (own : Term) → IsComponent own → (reads : ℕ → List Component → Written → Type 0) (place : ℕ)
    (cs : List Component) (spelling : Spelling) (spelled : Fitting) → BehindS around allowed own reads
    → Keeps spelling
    → HasRoom (component around.encoding own spelling place cs) → as_component own spelled around allowed place cs
    → (spelled around allowed place cs → HasRoom (spelling place cs)
    → reads place cs (written (spelling place cs).bytes (more around (spelling place cs).components own)))
    → reads place cs (component around.encoding own spelling place cs)
fitting-in around allowed own is reads place cs spelling spelled behind keeps room fits out =
    component-in around allowed own is reads place cs spelling behind
    (few-before (component around.encoding own spelling) place cs (keeps-component around.encoding own spelling keeps) room) fits.0
    (λ none. out (fits.1 none) (room-component around.encoding own spelling place cs none room))
