-- Letters, parameters, function types, arguments and lists are read in each of their ways.
use Rattle.cpp_press_laws.proofs.Basics.{◌≡◌, ℕ, ◌+◌, ◌-◌, ◌<◌, length, List, [], ◌∷◌, ◌++◌, Option, Some, None, Bool, true, false, refl, ap, arith, sym, subst, append_assoc, length-append, ltb-true, codes, ◌and◌, text, Kind, Production, SOLID, LITERAL, LITERAL_TYPE, ARGUMENT, choose, kinds, is_chain, Signed, Term, abbreviation, parameter, source, operator, literal_operator, constructor, destructor, lambda, unnamed, builtin, integer, boolean, null_pointer, encoding_literal, address_of, pack, instance, count, Around, tree, is_function_type, in_signature, ordinal, signed_text, Component, Spelling, component, ways_of, no_ways, type_ways, piece_ways, argument_ways, Written, written, ReadsAt, Is, HasRoom, IsSmall, Slot, any_type, bare_type, item_type, parameter_type, literal_type, takes_all, IsBuiltin, IsAbbreviation, NamesArgument, Fitting, as_component, nowhere, type_fits, fits_nowhere, fits_of}
use Rattle.sym_shape.specs.declared.rule.Sym.TheVariants.{Kind as OfKind}
use Rattle.cpp_press_laws.proofs.ReadBack.Reading.{takes-byte, elsewhere, same-written, more}
use Rattle.cpp_press_laws.proofs.ReadBack.Solids.{builtin-solid, builtin-behind-d}
use Rattle.cpp_press_laws.proofs.ReadBack.Functions.{IsInScope, parameter-solid}
use Rattle.cpp_press_laws.proofs.ReadBack.Arguments.{items_value, any-argument, integer-reads}
use Rattle.cpp_press_laws.proofs.ReadBack.Literals.{boolean-literal, null-literal, char-literal, encoding-literal, literal-argument, pack-argument, address-reads}
use Rattle.cpp_press_laws.proofs.ReadBack.Names.{Extends}
use Rattle.cpp_press_laws.proofs.ReadBack.Solids.{abbreviation-behind-s}
use Rattle.cpp_press_laws.proofs.Components.Keeping.{keeps-text}
use Rattle.cpp_press_laws.proofs.ReadBack.Slots.{room-first, room-rest, ReadsAs, solid_kind, in-slot, fitting-in}
use Rattle.cpp_press_laws.proofs.ReadBack.Named.{source-reads, operator-piece-reads, literal-operator-piece-reads, constructor-piece-reads, destructor-piece-reads, lambda-piece-reads, unnamed-piece-reads}
use Rattle.cpp_press_laws.proofs.ReadBack.Between.{ExtendsWith, extends-with-behind-s, prefix-behind-s, prefix-parameter, prefix-with-parameter}
use Rattle.cpp_press_laws.proofs.ReadBack.Templates.{slot-rules, TemplateKind, InstancedAt, instanced-behind-s, parameter-instanced, of_elements, elements-room}
use Rattle.cpp_press_laws.proofs.EveryWay.Every.{template-value, ArgumentReads, Leads, typed-argument, reads-piece, reads-argument, reads-nowhere}
use Rattle.cpp_press_laws.proofs.EveryWay.Types.{Reading, ReadingAt, with-d-in}
use Rattle.cpp_press_laws.proofs.Slots.{each-slot}
use Rattle.cpp_press_laws.proofs.Spots as spot

-- ## Pieces

pub reads-source : (internal : Bool) (name : List ℕ) → Reading (source internal name)
unfolding ways_of fits_of piece_ways no_ways
reads-source internal name =
    reads-piece (source internal name) _ _ (λ around allowed place cs small room h. source-reads around allowed internal name place cs h)

pub reads-operator : (a b : ℕ) → Reading (operator a b)
unfolding ways_of fits_of piece_ways no_ways
reads-operator a b =
    reads-piece (operator a b) _ _ (λ around allowed place cs small room h. operator-piece-reads around allowed a b place cs h.0 h.1 h.2)

pub reads-literal-operator : (name : List ℕ) → Reading (literal_operator name)
unfolding ways_of fits_of piece_ways no_ways
reads-literal-operator name =
    reads-piece (literal_operator name) _ _ (λ around allowed place cs small room h. literal-operator-piece-reads around allowed name
    place cs h)

pub reads-constructor : (digit : ℕ) → Reading (constructor digit)
unfolding ways_of fits_of piece_ways no_ways
reads-constructor digit =
    reads-piece (constructor digit) _ _ (λ around allowed place cs small room h. constructor-piece-reads around allowed digit place cs
    h.0 h.1)

pub reads-destructor : (digit : ℕ) → Reading (destructor digit)
unfolding ways_of fits_of piece_ways no_ways
reads-destructor digit =
    reads-piece (destructor digit) _ _ (λ around allowed place cs small room h. destructor-piece-reads around allowed digit place cs h.0 h.1)

pub reads-unnamed : (k : ℕ) → Reading (unnamed k)
unfolding ways_of fits_of piece_ways no_ways
reads-unnamed k = reads-piece (unnamed k) _ _ (λ around allowed place cs small room h. unnamed-piece-reads around allowed k place cs h)

-- the signature of a lambda has no scope
signature-small : (around : Around) → IsSmall (in_signature around)
unfolding in_signature
signature-small around arguments is = absurd (let e : ◌≡◌ {A = Option Term} None (Some arguments) = is in cc)

pub reads-lambda : (ps : Term) (k : ℕ) → Reading ps → Reading (lambda ps k)
unfolding ways_of fits_of piece_ways no_ways in_signature
reads-lambda ps k r =
    reads-piece (lambda ps k) _ _ (λ around allowed place cs small room h.
    let n : ℕ = around.encoding in
    let end : List ℕ = codes "E" ++ ordinal (k - 1) in
    lambda-piece-reads around allowed ps k place cs ((ways_of n ps).as_parameters (place + 2) cs) h.1
    (r.at spot.as_items (in_signature around) allowed (place + 2) cs (signature-small around)
    (room-first (ways_of n ps).as_parameters (text end) (place + 2) cs (keeps-text end)
    (room-rest (text (codes "Ul")) ((ways_of n ps).as_parameters and text end) place cs room)) h.0))

-- ## Letters

-- a builtin type after a D
with-d : (slot : Slot) (around : Around) (allowed : Option ℕ) (d b place : ℕ) (cs : List Component) → takes_all slot ≡ true
    → (d ≡ 68) × (b < 256) × (choose Kind.AfterD b ≡ Some Production.BuiltinWithD)
    → ReadsAs slot around allowed (builtin (d ∷ b ∷ [])) place cs (written (d ∷ b ∷ []) cs)
unfolding is_function_type
with-d slot around allowed d b place cs all is =
    subst (λ x. ReadsAs slot around allowed (builtin (x ∷ b ∷ [])) place cs (written (x ∷ b ∷ []) cs)) (sym is.0)
    ((with-d-in slot around allowed (builtin (68 ∷ b ∷ [])) all refl).1 place cs (written (b ∷ []) cs)
    (builtin-behind-d around allowed b (place + 1) cs is.1 is.2))

builtin-in : (slot : Slot) (around : Around) (allowed : Option ℕ) (code : List ℕ) (place : ℕ) (cs : List Component) → IsBuiltin slot code
    → ReadsAs slot around allowed (builtin code) place cs (written code cs)
unfolding takes_all is_function_type kinds is_chain
builtin-in literal_type around allowed (b ∷ []) place cs is =
    (in-slot literal_type around allowed (builtin (b ∷ [])) refl).keeps place cs (written (b ∷ []) cs)
    (builtin-solid LITERAL_TYPE around allowed b place cs (takes-byte LITERAL_TYPE Kind.LiteralType Production.Builtin b refl is.1 is.0 refl))
builtin-in slot around allowed (b ∷ []) place cs is =
    (in-slot slot around allowed (builtin (b ∷ [])) refl).keeps place cs (written (b ∷ []) cs)
    (builtin-solid SOLID around allowed b place cs (takes-byte SOLID Kind.Solid Production.Builtin b refl is.1 is.0 refl))
builtin-in literal_type around allowed (d ∷ b ∷ []) place cs is = λ n good.
    subst (λ x. ReadsAt around allowed (OfKind LITERAL) (Is (tree (integer (builtin (x ∷ b ∷ [])) n) true)) place cs
    (written (x ∷ b ∷ signed_text n) cs)) (sym is.0)
    (char-literal around allowed b n place cs is.1 is.2 good (written (signed_text n) cs)
    (integer-reads around allowed n (place + 1 + 1) cs good))
builtin-in slot around allowed (d ∷ b ∷ []) place cs is = with-d slot around allowed d b place cs refl is
builtin-in slot around allowed code place cs is = absurd is

pub reads-builtin : (code : List ℕ) → Reading (builtin code)
unfolding ways_of fits_of fits_nowhere type_ways no_ways
reads-builtin code = record {
  at = each;
  before = (reads-nowhere (builtin code) (λ n. ways_of n (builtin code))).before;
}
  where
    each : ReadingAt (builtin code)
    each spot.as_type = each-slot _ (λ around allowed place cs small room h. builtin-in any_type around allowed code place cs h) (λ around allowed place cs small room h. builtin-in bare_type around allowed code place cs h) (λ around allowed place cs small room h. builtin-in item_type around allowed code place cs h) (λ around allowed place cs small room h. builtin-in parameter_type around allowed code place cs h) (λ around allowed place cs small room h. builtin-in literal_type around allowed code place cs h)
    each spot.as_argument = λ in_pack around allowed place cs small room h.
        typed-argument in_pack around allowed (builtin code) place cs (written code cs) (builtin-in item_type around allowed code place cs h)
    each w = (reads-nowhere (builtin code) (λ n. ways_of n (builtin code))).at w

-- an abbreviation, wherever it is
pub reads-abbreviation : (l : ℕ) → Reading (abbreviation l)
unfolding ways_of fits_of fits_nowhere type_ways no_ways is_function_type
reads-abbreviation l = record {
  at = each;
  before = λ typed k kind around allowed place cs arguments elements items last are read kept small room h.
      template-value typed around allowed k (instance (abbreviation l) items) place cs _
      (instanced-behind-s typed k around allowed (abbreviation l) kind place cs (written (l ∷ []) cs)
      (abbreviation-behind-s around allowed l (place + 1) cs h.0.0 h.0.1) items last (elements (place + 2 + 1) cs) are
      (read (place + 2) cs h.1 (elements-room (text (codes "S" ++ l ∷ [])) elements place cs room)));
}
  where
    whole : (slot : Slot) (around : Around) (allowed : Option ℕ) (place : ℕ) (cs : List Component) → IsAbbreviation l
        → ReadsAs slot around allowed (abbreviation l) place cs (written (83 ∷ l ∷ []) cs)
    whole slot around allowed place cs h =
        (in-slot slot around allowed (abbreviation l) refl).behind_s place cs (written (l ∷ []) cs)
        (abbreviation-behind-s around allowed l (place + 1) cs h.0 h.1)

    each : ReadingAt (abbreviation l)
    each spot.as_type = each-slot _ (λ around allowed place cs small room h. whole any_type around allowed place cs h) (λ around allowed place cs small room h. whole bare_type around allowed place cs h) (λ around allowed place cs small room h. whole item_type around allowed place cs h) (λ around allowed place cs small room h. whole parameter_type around allowed place cs h) (λ around allowed place cs small room h. whole literal_type around allowed place cs h)
    each spot.as_prefix = λ around allowed place cs small room h.
        prefix-behind-s around allowed (abbreviation l) place cs (written (l ∷ []) cs)
        (abbreviation-behind-s around allowed l (place + 1) cs h.0 h.1)
    each spot.as_prefix_template = λ around allowed place cs small room h.
        extends-with-behind-s around allowed (abbreviation l) place cs (written (l ∷ []) cs)
        (abbreviation-behind-s around allowed l (place + 1) cs h.0 h.1)
    each spot.as_argument = λ in_pack around allowed place cs small room h.
        typed-argument in_pack around allowed (abbreviation l) place cs (written (83 ∷ l ∷ []) cs) (whole item_type around allowed place cs h)
    each w = (reads-nowhere (abbreviation l) (λ n. ways_of n (abbreviation l))).at w

-- ## Parameters

in-scope : (around : Around) (allowed : Option ℕ) (k : ℕ) → IsSmall around → NamesArgument around allowed k → IsInScope around allowed k
in-scope around allowed k small is = record {
  arguments = is.arguments;
  scoped = is.scoped;
  below = is.below;
  small = omega (arith, ltb-true k (count is.arguments) is.below, small is.arguments is.scoped);
  packs = is.packs;
}

abbrev parameter_spelling : ℕ → Spelling
parameter_spelling k = text (codes "T" ++ ordinal k)

abbrev parameter_fits : ℕ → Fitting
parameter_fits k around allowed place cs = NamesArgument around allowed k

-- a parameter before its arguments, in a type
parameter-before : (typed : Bool) (k : ℕ) (around : Around) (allowed : Option ℕ) (j : ℕ) → TemplateKind typed k
    → (place : ℕ) (cs : List Component)
    → IsSmall around → HasRoom (component around.encoding (parameter j) (parameter_spelling j) place cs)
    → as_component (parameter j) (elim typed as (λ _. Fitting) [ true ↦ parameter_fits j | false ↦ nowhere ]) around allowed place cs
    → InstancedAt around allowed k (parameter j) place cs (component around.encoding (parameter j) (parameter_spelling j) place cs)
parameter-before true k around allowed j rules place cs small room h =
    fitting-in around allowed (parameter j) tt (InstancedAt around allowed k (parameter j)) place cs (parameter_spelling j) (parameter_fits j)
    (instanced-behind-s true k around allowed (parameter j) rules) (keeps-text _) room h
    (λ fits enough. parameter-instanced k around allowed j place cs (in-scope around allowed j small fits) rules.parameters)
parameter-before false k around allowed j eight place cs small room h =
    fitting-in around allowed (parameter j) tt (InstancedAt around allowed k (parameter j)) place cs (parameter_spelling j) nowhere
    (instanced-behind-s false k around allowed (parameter j) eight) (keeps-text _) room h (λ fits enough. absurd fits)

pub reads-parameter : (j : ℕ) → Reading (parameter j)
unfolding ways_of fits_of fits_nowhere type_fits type_ways no_ways is_function_type
reads-parameter j = record {
  at = each;
  before = λ typed k kind around allowed place cs arguments elements items last are read kept small room h.
      let own : Spelling = component around.encoding (parameter j) (parameter_spelling j) in
      let w : Written = own place cs in
      template-value typed around allowed k (instance (parameter j) items) place cs _
      (parameter-before typed k around allowed j kind place cs small (room-first own (of_elements elements) place cs kept room) h.0 items last
      (elements (place + length w.bytes + 1) w.components) are
      (read (place + length w.bytes) w.components h.1 (elements-room own elements place cs room)));
}
  where
    whole : (slot : Slot) → Leads (λ n. component n (parameter j) (parameter_spelling j)) (as_component (parameter j) (parameter_fits j))
        (λ around allowed. ReadsAs slot around allowed (parameter j))
    whole slot around allowed place cs small room h =
        let s = in-slot slot around allowed (parameter j) refl in
        fitting-in around allowed (parameter j) tt (ReadsAs slot around allowed (parameter j)) place cs (parameter_spelling j) (parameter_fits j)
        s.behind_s (keeps-text _) room h
        (λ fits enough. s.keeps place cs (written (84 ∷ ordinal j) (more around cs (parameter j)))
        (parameter-solid (solid_kind slot) around allowed j place cs (in-scope around allowed j small fits) (slot-rules slot).parameters))

    each : ReadingAt (parameter j)
    each spot.as_type = each-slot _ (whole any_type) (whole bare_type) (whole item_type) (whole parameter_type) (whole literal_type)
    each spot.as_prefix = λ around allowed place cs small room h.
        fitting-in around allowed (parameter j) tt (Extends around allowed (parameter j)) place cs (parameter_spelling j) (parameter_fits j)
        (prefix-behind-s around allowed (parameter j)) (keeps-text _) room h
        (λ fits enough. prefix-parameter around allowed j place cs (in-scope around allowed j small fits))
    each spot.as_prefix_template = λ around allowed place cs small room h.
        fitting-in around allowed (parameter j) tt (ExtendsWith around allowed (parameter j)) place cs (parameter_spelling j) (parameter_fits j)
        (extends-with-behind-s around allowed (parameter j)) (keeps-text _) room h
        (λ fits enough. prefix-with-parameter around allowed j place cs (in-scope around allowed j small fits))
    each spot.as_argument = λ in_pack around allowed place cs small room h.
        typed-argument in_pack around allowed (parameter j) place cs _ (whole item_type around allowed place cs small room h)
    each w = (reads-nowhere (parameter j) (λ n. ways_of n (parameter j))).at w

-- ## Arguments that are no types

-- a literal between L and E
literal-in : (in_pack : Bool) (around : Around) (allowed : Option ℕ) (t : Term) (place : ℕ) (cs : List Component) (w : Written)
    → ReadsAt around allowed (OfKind LITERAL) (Is (tree t true)) (place + 1) cs w
    → ArgumentReads in_pack around allowed t place cs (written (76 ∷ (w.bytes ++ (69 ∷ []))) w.components)
literal-in in_pack around allowed t place cs w one items last rest are two =
    same-written (ap (λ l. 76 ∷ l) (sym (append_assoc w.bytes (69 ∷ []) rest.bytes)))
    (literal-argument in_pack around allowed t items last place cs w rest are one (elsewhere (omega (arith, length-append w.bytes (69 ∷ []))) two))

pub reads-integer : (t : Term) (n : Signed) → Reading t → Reading (integer t n)
unfolding ways_of fits_of argument_ways no_ways
reads-integer t n r =
    reads-argument (integer t n) _ _ (λ in_pack around allowed place cs small room h.
    let m : ℕ = around.encoding in
    let end : List ℕ = signed_text n ++ codes "E" in
    let w : Written = (ways_of m t).as_type (place + 1) cs in
    subst (λ l. ArgumentReads in_pack around allowed (integer t n) place cs (written (76 ∷ l) w.components))
    (append_assoc w.bytes (signed_text n) (69 ∷ []))
    (literal-in in_pack around allowed (integer t n) place cs (written (w.bytes ++ signed_text n) w.components)
    (r.at spot.as_type literal_type around allowed (place + 1) cs small
    (room-first (ways_of m t).as_type (text end) (place + 1) cs (keeps-text end)
    (room-rest (text (codes "L")) ((ways_of m t).as_type and text end) place cs room)) h.0 n h.1)))

pub reads-boolean : (truth : Bool) → Reading (boolean truth)
unfolding ways_of fits_of argument_ways no_ways
reads-boolean true =
    reads-argument (boolean true) _ _ (λ in_pack around allowed place cs small room h.
    literal-in in_pack around allowed (boolean true) place cs (written (98 ∷ 49 ∷ []) cs) (boolean-literal around allowed true
    (place + 1) cs))
reads-boolean false =
    reads-argument (boolean false) _ _ (λ in_pack around allowed place cs small room h.
    literal-in in_pack around allowed (boolean false) place cs (written (98 ∷ 48 ∷ []) cs) (boolean-literal around allowed false
    (place + 1) cs))

pub reads-null-pointer : Reading null_pointer
unfolding ways_of fits_of argument_ways no_ways
reads-null-pointer =
    reads-argument null_pointer _ _ (λ in_pack around allowed place cs small room h.
    literal-in in_pack around allowed null_pointer place cs (written (68 ∷ 110 ∷ []) cs) (null-literal around allowed (place + 1) cs))

pub reads-encoding-literal : (e : Term) → Reading e → Reading (encoding_literal e)
unfolding ways_of fits_of argument_ways no_ways
reads-encoding-literal e r =
    reads-argument (encoding_literal e) _ _ (λ in_pack around allowed place cs small room h.
    let m : ℕ = around.encoding in
    let w : Written = (ways_of m e).as_encoding (place + 3) cs in
    literal-in in_pack around allowed (encoding_literal e) place cs (written (95 ∷ 90 ∷ w.bytes) w.components)
    (encoding-literal around allowed e (place + 1) cs w
    (elsewhere (omega arith)
    (r.at spot.as_encoding around allowed (place + 3) cs small
    (room-first (ways_of m e).as_encoding (text (codes "E")) (place + 3) cs (keeps-text (codes "E"))
    (room-rest (text (codes "L_Z")) ((ways_of m e).as_encoding and text (codes "E")) place cs room)) h))))

address-in : (in_pack : Bool) (around : Around) (allowed : Option ℕ) (t : Term) (place : ℕ) (cs : List Component) (w : Written)
    → ReadsAt around allowed (OfKind ARGUMENT) (Is (tree t true)) place cs w → ArgumentReads in_pack around allowed t place cs w
address-in in_pack around allowed t place cs w one items last rest are two =
    any-argument in_pack around allowed t items last place cs w rest are (elsewhere (omega arith) one) (elsewhere (omega arith) two)

pub reads-address : (e : Term) → Reading e → Reading (address_of e)
unfolding ways_of fits_of argument_ways no_ways
reads-address e r =
    reads-argument (address_of e) _ _ (λ in_pack around allowed place cs small room h.
    let m : ℕ = around.encoding in
    let w : Written = (ways_of m e).as_encoding (place + 6) cs in
    address-in in_pack around allowed (address_of e) place cs
    (written (88 ∷ 97 ∷ 100 ∷ 76 ∷ 95 ∷ 90 ∷ (w.bytes ++ (69 ∷ 69 ∷ []))) w.components)
    (address-reads around allowed e place cs w
    (elsewhere (omega arith)
    (r.at spot.as_encoding around allowed (place + 6) cs small
    (room-first (ways_of m e).as_encoding (text (codes "EE")) (place + 6) cs (keeps-text (codes "EE"))
    (room-rest (text (codes "XadL_Z")) ((ways_of m e).as_encoding and text (codes "EE")) place cs room)) h))))

no-truth : true ≡ false → ⊥
no-truth h = cc

pub reads-pack : (a : Term) → Reading a → Reading (pack a)
unfolding ways_of fits_of argument_ways no_ways
reads-pack a r = reads-argument (pack a) _ _ go
  where
    go : (in_pack : Bool) → Leads (λ n. text (codes "J") and (ways_of n a).as_elements and text (codes "E"))
        (λ around allowed place cs. (in_pack ≡ false) × (fits_of a).as_elements true around allowed (place + 1) cs)
        (λ around allowed. ArgumentReads in_pack around allowed (pack a))
    go true around allowed place cs small room h = absurd (no-truth h.0)
    go false around allowed place cs small room h = λ items last rest are two.
        let m : ℕ = around.encoding in
        let w : Written = (ways_of m a).as_elements (place + 1) cs in
        let one = (r.at spot.as_elements) true around allowed (place + 1) cs small
        (room-first (ways_of m a).as_elements (text (codes "E")) (place + 1) cs (keeps-text (codes "E"))
        (room-rest (text (codes "J")) ((ways_of m a).as_elements and text (codes "E")) place cs room)) h.1 in
        same-written (ap (λ l. 74 ∷ l) (sym (append_assoc w.bytes (69 ∷ []) rest.bytes)))
        (pack-argument around allowed a items (items_value a) last place cs w rest one.0 are one.1
        (elsewhere (omega (arith, length-append w.bytes (69 ∷ []))) two))
