-- Template names that come before their arguments are read, in types and in encodings' own names: after an S, and
-- spelled out.
use Rattle.cpp_press_laws.proofs.Basics.{◌≡◌, ℕ, ◌+◌, ◌≤◌, length, List, [], ◌∷◌, ◌++◌, Option, Some, None, Bool, true, false, refl, arith, sym, subst, length-append, TakesRule, ◌and◌, text, codes, Kind, Production, ABBREVIATION, SOLID, MAYBE_ARGUMENTS, ARGUMENTS_ALONE, ARGUMENTS, LITERAL_TYPE, abi, rule_of, Term, instance, parameter, Around, Value, tree, applied, no_items, parameter_so_far, listed_so_far, ordinal, Component, Spelling, first_equal, seq_id, reference, referred, greatest, Written, written, ReadsAt, Is, HasRoom, Slot, any_type, bare_type, item_type, parameter_type, literal_type, names_type, IsFirst, Fitting, as_template, parameter_named}
use Rattle.sym_shape.specs.declared.rule.Sym.TheVariants.{Kind as OfKind}
use Rattle.cpp_grammar.specs.Values as value
use Rattle.cpp_press_laws.proofs.ReadBack.Tokens.{ordinal_digits}
use Rattle.cpp_press_laws.proofs.ReadBack.Reading.{takes-byte, elsewhere, grammar, read-by-parts, more, Means}
use Rattle.cpp_press_laws.proofs.ReadBack.References.{found-first, number-refers}
use Rattle.cpp_press_laws.proofs.ReadBack.Functions.{IsInScope, parameter-parts}
use Rattle.cpp_press_laws.proofs.ReadBack.Encodings.{abbreviated-name, type-with-arguments}
use Rattle.cpp_press_laws.proofs.Components.Parts.{IsComponent}
use Rattle.cpp_press_laws.proofs.Components.Keeping.{Keeps, keeps-referred}
use Rattle.cpp_press_laws.proofs.ReadBack.Slots.{room-rest, few-before}
use Rattle.cpp_press_laws.proofs.ReadBack.Named.{NameRule, type-rule, literal-type-rule}
use Rattle.cpp_press_laws.proofs.ReadBack.Between.{in_I_and_E, ElementsRead}
use Rattle.cpp_press_laws.proofs.ReadBack.Slots.{solid_kind}
use Rattle.cpp_press_laws.proofs.ReadBack.Arguments.{arguments-read, takes-maybe-arguments}
use Rattle.cpp_press_laws.proofs.ReadBack.Types.{behind-s}

-- ## Kinds of template names

-- the productions by which a kind of types reads names
pub record TypeRules (k : ℕ) : Type 0 where
  pub with_s : TakesRule abi k (rule_of Production.TypeWithS) (83 ∷ [])
  pub nested : TakesRule abi k (rule_of Production.NestedType) (78 ∷ [])
  pub parameters : TakesRule abi k (rule_of Production.Parameter) (84 ∷ [])
  pub locals : TakesRule abi k (rule_of Production.LocalType) (90 ∷ [])
  pub pointers : TakesRule abi k (rule_of Production.Pointer) (80 ∷ [])
  pub members : TakesRule abi k (rule_of Production.MemberPointer) (77 ∷ [])
  pub names : (p : Term) → names_type p ≡ true → NameRule k p

solid-rules : TypeRules SOLID
unfolding grammar
solid-rules = record {
  with_s = takes-byte SOLID Kind.Solid Production.TypeWithS 83 refl refl (omega arith) refl;
  nested = takes-byte SOLID Kind.Solid Production.NestedType 78 refl refl (omega arith) refl;
  parameters = takes-byte SOLID Kind.Solid Production.Parameter 84 refl refl (omega arith) refl;
  locals = takes-byte SOLID Kind.Solid Production.LocalType 90 refl refl (omega arith) refl;
  pointers = takes-byte SOLID Kind.Solid Production.Pointer 80 refl refl (omega arith) refl;
  members = takes-byte SOLID Kind.Solid Production.MemberPointer 77 refl refl (omega arith) refl;
  names = type-rule;
}

literal-rules : TypeRules LITERAL_TYPE
unfolding grammar
literal-rules = record {
  with_s = takes-byte LITERAL_TYPE Kind.LiteralType Production.TypeWithS 83 refl refl (omega arith) refl;
  nested = takes-byte LITERAL_TYPE Kind.LiteralType Production.NestedType 78 refl refl (omega arith) refl;
  parameters = takes-byte LITERAL_TYPE Kind.LiteralType Production.Parameter 84 refl refl (omega arith) refl;
  locals = takes-byte LITERAL_TYPE Kind.LiteralType Production.LocalType 90 refl refl (omega arith) refl;
  pointers = takes-byte LITERAL_TYPE Kind.LiteralType Production.Pointer 80 refl refl (omega arith) refl;
  members = takes-byte LITERAL_TYPE Kind.LiteralType Production.MemberPointer 77 refl refl (omega arith) refl;
  names = literal-type-rule;
}

pub slot-rules : (slot : Slot) → TypeRules (solid_kind slot)
slot-rules literal_type = literal-rules
slot-rules any_type = solid-rules
slot-rules bare_type = solid-rules
slot-rules item_type = solid-rules
slot-rules parameter_type = solid-rules

-- a kind that reads a template name before its arguments: a kind of types, or the kind of encodings' own names
abbrev pub TemplateKind : (typed : Bool) → ℕ → Type 0
TemplateKind true k = TypeRules k
TemplateKind false k = k ≡ 8

-- ## After an S

-- what is written, with any arguments after it, is read as an instance
abbrev pub InstancedAt : Around → Option ℕ → (k : ℕ) → (t : Term) → (place : ℕ) → List Component → Written → Type 0
InstancedAt around allowed k t place cs w =
    (items : Term) (last : Value) (args : Written) → no_items last ≡ items
    → ElementsRead around allowed last (place + length w.bytes) w.components args
    → ReadsAt around allowed (OfKind k) (Is (tree (instance t items) false)) place cs (written
    (w.bytes ++ in_I_and_E args.bytes) args.components)

pub instanced-behind-s : (typed : Bool) (k : ℕ) (around : Around) (allowed : Option ℕ) (t : Term) → TemplateKind typed k → (place : ℕ)
    (cs : List Component) (w : Written) → ReadsAt around allowed (OfKind ABBREVIATION) (Is (tree t true)) (place + 1) cs w
    → InstancedAt around allowed k t place cs (written (83 ∷ w.bytes) w.components)
unfolding grammar
instanced-behind-s true k around allowed t rules place cs w one items last args are two =
    type-with-arguments k around allowed t items true place cs w (written (in_I_and_E args.bytes) args.components) rules.with_s
    (behind-s around allowed t (place + 1) cs w (elsewhere (omega arith) one))
    (arguments-read true around allowed MAYBE_ARGUMENTS t items last (place + 1 + length w.bytes) w.components args takes-maybe-arguments are
    (elsewhere (omega arith) two))
instanced-behind-s false k around allowed t eight place cs w one items last args are two =
    subst (λ j. ReadsAt around allowed (OfKind j) (Is (tree (instance t items) false)) place cs
    (written ((83 ∷ w.bytes) ++ in_I_and_E args.bytes) args.components)) (sym eight)
    (abbreviated-name around allowed t items place cs w (written (in_I_and_E args.bytes) args.components)
    (elsewhere (omega arith) one)
    (arguments-read true around allowed ARGUMENTS t items last (place + 1 + 0 + length w.bytes) w.components args
    (takes-byte ARGUMENTS Kind.Arguments Production.Arguments 73 refl refl (omega arith) refl) are
    (elsewhere (omega arith) two)))

-- a parameter with arguments
pub parameter-instanced : (kind : ℕ) (around : Around) (allowed : Option ℕ) (k place : ℕ) (cs : List Component) → IsInScope around allowed k
    → TakesRule abi kind (rule_of Production.Parameter) (84 ∷ [])
    → InstancedAt around allowed kind (parameter k) place cs (written (84 ∷ ordinal k) (more around cs (parameter k)))
unfolding grammar applied parameter_so_far parameter_named listed_so_far
parameter-instanced kind around allowed k place cs is takes items last args are one =
    let behind : Written = written (in_I_and_E args.bytes) args.components in
    read-by-parts Production.Parameter kind (84 ∷ []) (value.text (ordinal_digits k) ∷ tree items true ∷ []) (written (ordinal k) cs ∷ behind ∷ [])
    takes tt refl
    (parameter-parts Production.Parameter around allowed place k (place + 1) cs
    (Means Production.Parameter 84 around place (tree (instance (parameter k) items) false)) (OfKind ARGUMENTS_ALONE) (tree items true) behind is
    (λ s. refl) (λ s. refl)
    (arguments-read true around allowed ARGUMENTS_ALONE (parameter k) items last _ (more around cs (parameter k)) args
    (takes-byte ARGUMENTS_ALONE Kind.ArgumentsAlone Production.Arguments 73 refl refl (omega arith) refl) are
    (elsewhere (omega arith) one)) (λ began s. refl))

-- ## Template names

-- arguments with these elements
abbrev pub of_elements : Spelling → Spelling
of_elements elements = text (codes "I") and elements and text (codes "E")

-- elements that fit are read
abbrev pub ReadElements : Around → Option ℕ → (last : Value) → Fitting → (elements : Spelling) → Type 0
ReadElements around allowed last arguments elements =
    (place : ℕ) (cs : List Component) → arguments around allowed place cs → HasRoom (elements (place + 1) cs)
    → ElementsRead around allowed last place cs (elements (place + 1) cs)

-- the arguments have room after whatever is written
pub elements-room : (first elements : Spelling) (place : ℕ) (cs : List Component) → HasRoom ((first and of_elements elements) place cs)
    → HasRoom (elements (place + length (first place cs).bytes + 1) (first place cs).components)
elements-room first elements place cs room =
    let w : Written = first place cs in
    let at : ℕ = place + length w.bytes in
    let behind = room-rest (text (codes "I")) (elements and text (codes "E")) at w.components (room-rest first
    (of_elements elements) place cs room) in
    record {
      short = omega (arith, behind.short, length-append (elements (at + 1) w.components).bytes (69 ∷ []));
      few = behind.few;
    }

-- A template name that fits before arguments is read: the arguments come after a reference to the name, or after its spelling.
pub template-reads : (typed : Bool) (k : ℕ) (around : Around) (allowed : Option ℕ) (t : Term) → IsComponent t → TemplateKind typed k → (place : ℕ)
    (cs : List Component) (spelled : Fitting) (front : ℕ → Spelling) (arguments : Fitting) (elements other : Spelling) (items : Term)
    (last : Value)
    (R : Written → Type 0)
    → ((w : Written) → ReadsAt around allowed (OfKind k) (Is (tree (instance t items) false)) place cs w → R w)
    → no_items last ≡ items → ReadElements around allowed last arguments elements → Keeps (of_elements elements) → Keeps other
    → HasRoom (referred around.encoding t (of_elements elements) other place cs)
    → as_template t spelled front arguments around allowed place cs
    → (IsFirst around t cs → HasRoom (other place cs) → R (other place cs))
    → R (referred around.encoding t (of_elements elements) other place cs)
unfolding referred reference
template-reads typed k around allowed t is_one kind place cs spelled front arguments elements other items last R from are reads keeps kept
    room fits out =
    go (first_equal around.encoding t 0 cs) refl room
    (few-before (referred around.encoding t (of_elements elements) other) place cs (keeps-referred around.encoding t _ other keeps kept) room)
  where
    go : (o : Option ℕ) → first_equal around.encoding t 0 cs ≡ o → HasRoom (elim o as (λ _. Written) [
      | Some number ↦ (reference number and of_elements elements) place cs
      | None ↦ other place cs
    ])
        → length cs ≤ greatest
        → R (elim o as (λ _. Written) [
          | Some number ↦ (reference number and of_elements elements) place cs
          | None ↦ other place cs
        ])
    go (Some number) is enough few =
        let f = found-first around.encoding t 0 number cs is in
        let named : f.0 ≡ number = omega (arith, f.1) in
        let args : Written = elements (place + length (reference number place cs).bytes + 1) cs in
        from _ (subst (λ n. InstancedAt around allowed k t place cs (reference n place cs)) named
        (instanced-behind-s typed k around allowed t kind place cs (written (seq_id f.0 ++ 95 ∷ []) cs)
        (number-refers around allowed t f.0 (place + 1) cs few is_one fits.0 f.2))
        items last args are
        (reads (place + length (reference number place cs).bytes) cs (fits.1 number is)
        (elements-room (reference number) elements place cs enough)))
    go None is enough few = out is enough
