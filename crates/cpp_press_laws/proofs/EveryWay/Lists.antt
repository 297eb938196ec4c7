-- Lists, function types and local names are read in each of their ways.
use Rattle.cpp_press_laws.proofs.Basics.{◌≡◌, ℕ, ◌+◌, length, List, [], ◌∷◌, ◌++◌, Option, Some, Bool, true, false, refl, ap, arith, sym, subst, append_assoc, length-append, slice_get, cond, codes, ◌&&◌, ◌and◌, text, Kind, Production, TYPE, PLAIN, ITEM, AFTER_D, SOLID, ITEMS, ARGUMENT_LIST, PACK_LIST, kinds, may_be_empty, RefQualifier, Term, builtin, function_type, nil, list, instance, Around, nothing_there, tree, is_function_type, no_items, is_void, is_nil, parameters, mark_letter, Component, Spelling, component, ways_of, no_ways, type_ways, function_text, Written, written, ReadsAt, Is, HasRoom, IsSmall, takes_all, Slot, any_type, bare_type, item_type, parameter_type, literal_type, Fitting, as_component, nowhere, Behind, IsAbiMark, type_fits, fits_nowhere, fits_of}
use Rattle.sym_shape.specs.declared.rule.Sym.TheVariants.{Kind as OfKind}
use Rattle.cpp_press_laws.proofs.ReadBack.Reading.{takes-byte, empty-reads, elsewhere, more, grammar}
use Rattle.cpp_press_laws.proofs.ReadBack.Types.{function-under-qualifiers, noexcept-under-qualifiers, types-parameter}
use Rattle.cpp_press_laws.proofs.ReadBack.Solids.{builtin-solid}
use Rattle.cpp_press_laws.proofs.ReadBack.Functions.{function-solid, noexcept-behind-d, mark_bytes, RestReads, end-reads, rest-item}
use Rattle.cpp_press_laws.proofs.ReadBack.Arguments.{items_value, items-more, list_kind}
use Rattle.cpp_press_laws.proofs.ReadBack.Names.{Extends}
use Rattle.cpp_press_laws.proofs.Components.Keeping.{Keeps, keeps-text, keeps-and, keeps-front, keeps-behind, keeps}
use Rattle.cpp_press_laws.proofs.ReadBack.Slots.{room-first, room-rest, ReadsAs, is_bare, in-slot, fitting-in}
use Rattle.cpp_press_laws.proofs.ReadBack.Between.{ExtendsWith, extends-with-behind-s, prefix-behind-s}
use Rattle.cpp_press_laws.proofs.EveryWay.Every.{template-value, ListReads, with_end, Leads, slot_way, typed-argument, referred-before, reads-nowhere, ParametersRead}
use Rattle.cpp_press_laws.proofs.EveryWay.Types.{Reading, ReadingAt, solid-in-all, with-d-in}
use Rattle.cpp_press_laws.proofs.EveryWay.Instances.{items-kept}
use Rattle.cpp_press_laws.proofs.Spots as spot

-- ## Lists

-- an empty list of parameters is spelled as a void
void-item : (around : Around) (allowed : Option ℕ) (place : ℕ) (cs : List Component)
    → ReadsAt around allowed (OfKind ITEM) (Is (tree (builtin (118 ∷ [])) true)) place cs (written (118 ∷ []) cs)
unfolding grammar is_function_type
void-item around allowed place cs =
    (in-slot item_type around allowed (builtin (118 ∷ [])) refl).keeps place cs (written (118 ∷ []) cs)
    (builtin-solid SOLID around allowed 118 place cs (takes-byte SOLID Kind.Solid Production.Builtin 118 refl refl (omega arith) refl))

empty-list : (k : ℕ) (kind : Kind) (around : Around) (allowed : Option ℕ) (place : ℕ) (cs : List Component) → slice_get kinds k ≡ Some kind
    → may_be_empty kind ≡ true → ListReads k around allowed nil place cs (written [] cs)
empty-list k kind around allowed place cs at may = (items-kept nil, empty-reads kind at may)

-- an empty list of parameters of a function type
none-read : (around : Around) (allowed : Option ℕ) (ref : RefQualifier) → IsAbiMark ref → (place : ℕ) (cs : List Component)
    → RestReads around allowed (list (builtin (118 ∷ [])) nil) ref place cs (written (118 ∷ (mark_letter ref ++ codes "E")) cs)
unfolding grammar ways_of type_ways
none-read around allowed ref good place cs =
    rest-item around allowed (builtin (118 ∷ [])) nil ref place cs (written (118 ∷ []) cs) (written (mark_letter ref ++ codes "E") cs)
    ((types-parameter around allowed (builtin (118 ∷ []))).solid.keeps (place + 0) cs (written (118 ∷ []) cs)
    (builtin-solid SOLID around allowed 118 (place + 0 + 0) cs (takes-byte SOLID Kind.Solid Production.Builtin 118 refl refl (omega arith) refl)))
    (end-reads around allowed ref good (place + 0 + 1) cs)

pub reads-nil : Reading nil
unfolding ways_of fits_of fits_nowhere no_ways parameters is_void is_nil no_items kinds may_be_empty
reads-nil = record {
  at = each;
  before = (reads-nowhere nil (λ n. ways_of n nil)).before;
}
  where
    none : (in_pack : Bool) (around : Around) (allowed : Option ℕ) (place : ℕ) (cs : List Component)
        → ListReads (list_kind in_pack) around allowed nil place cs (written [] cs)
    none true around allowed place cs = empty-list PACK_LIST Kind.PackList around allowed place cs refl refl
    none false around allowed place cs = empty-list ARGUMENT_LIST Kind.ArgumentList around allowed place cs refl refl

    each : ReadingAt nil
    each spot.as_items = λ around allowed place cs small room h. record {
      first = builtin (118 ∷ []);
      items = nil;
      last = nothing_there;
      one = written (118 ∷ []) cs;
      rest = written [] cs;
      are = refl;
      means = refl;
      split = refl;
      components = refl;
      reads_one = void-item around allowed place cs;
      reads_rest = empty-reads Kind.Items refl refl;
    }
    each spot.as_more_items = λ around allowed place cs small room h. empty-list ITEMS Kind.Items around allowed place cs refl refl
    each spot.as_parameters = λ ref good around allowed place cs small room h.
        (list (builtin (118 ∷ [])) nil, refl, none-read around allowed ref good place cs)
    each spot.as_more_parameters = λ ref good around allowed place cs small room h. end-reads around allowed ref good place cs
    each spot.as_elements = λ in_pack around allowed place cs small room h. none in_pack around allowed place cs
    each w = (reads-nowhere nil (λ n. ways_of n nil)).at w

-- parameters that aren't a lone void are kept as they are
kept-parameters : (first rest : Term) → is_void first && is_nil rest ≡ false → parameters (list first rest) ≡ list first rest
unfolding parameters
kept-parameters first rest h = go (is_void first && is_nil rest) h
  where
    go : (b : Bool) → b ≡ false → elim b as (λ _. Term) [ true ↦ nil | false ↦ list first rest ] ≡ list first rest
    go true k = absurd (let e : true ≡ false = k in cc)
    go false k = refl

more-with-end : (ref : RefQualifier) (w rest : Written) → with_end ref (written (w.bytes ++ rest.bytes) rest.components)
    ≡ written (w.bytes ++ (with_end ref rest).bytes) rest.components
more-with-end ref w rest = ap (λ l. written l rest.components) (append_assoc w.bytes rest.bytes (mark_letter ref ++ codes "E"))

pub reads-list : (f r : Term) → Reading f → Reading r → Reading (list f r)
unfolding ways_of fits_of fits_nowhere no_ways
reads-list f r rf rr = record {
  at = each;
  before = (reads-nowhere (list f r) (λ n. ways_of n (list f r))).before;
}
  where
    rest-more : (ref : RefQualifier) → IsAbiMark ref → Leads (λ n. (ways_of n f).as_type and (ways_of n r).as_more_parameters)
        (λ around allowed place cs. (fits_of f).as_type parameter_type around allowed place cs
        × Behind (ways_of around.encoding f).as_type ((fits_of r).as_more_parameters parameter_type around allowed) place cs)
        (λ around allowed place cs w. RestReads around allowed (list f r) ref place cs (with_end ref w))
    rest-more ref good around allowed place cs small room h =
        let n : ℕ = around.encoding in
        let one : Written = (ways_of n f).as_type place cs in
        let rest : Written = (ways_of n r).as_more_parameters (place + length one.bytes) one.components in
        subst (RestReads around allowed (list f r) ref place cs) (sym (more-with-end ref one rest))
        (rf.at spot.as_type parameter_type around allowed place cs small
        (room-first (ways_of n f).as_type (ways_of n r).as_more_parameters place cs (keeps r n).as_more_parameters room) h.0 r ref
        (with_end ref rest)
        (rr.at spot.as_more_parameters ref good around allowed (place + length one.bytes) one.components small
        (room-rest (ways_of n f).as_type (ways_of n r).as_more_parameters place cs room) h.1))

    each : ReadingAt (list f r)
    each spot.as_items = λ around allowed place cs small room h.
        let n : ℕ = around.encoding in
        let one : Written = (ways_of n f).as_type place cs in
        let m = (rr.at spot.as_more_items) around allowed (place + length one.bytes) one.components small
        (room-rest (ways_of n f).as_type (ways_of n r).as_more_parameters place cs room) h.1.1 in
        record {
          first = f;
          items = r;
          last = items_value r;
          one = one;
          rest = (ways_of n r).as_more_parameters (place + length one.bytes) one.components;
          are = m.0;
          means = kept-parameters f r h.0;
          split = refl;
          components = refl;
          reads_one = (rf.at spot.as_type) item_type around allowed place cs small
              (room-first (ways_of n f).as_type (ways_of n r).as_more_parameters place cs (keeps r n).as_more_parameters room) h.1.0;
          reads_rest = m.1;
        }
    each spot.as_more_items = λ around allowed place cs small room h.
        let n : ℕ = around.encoding in
        let one : Written = (ways_of n f).as_type place cs in
        let rest : Written = (ways_of n r).as_more_parameters (place + length one.bytes) one.components in
        let m = (rr.at spot.as_more_items) around allowed (place + length one.bytes) one.components small
        (room-rest (ways_of n f).as_type (ways_of n r).as_more_parameters place cs room) h.1 in (
          items-kept (list f r),
          items-more around allowed f r (items_value r) place cs one rest m.0
              (elsewhere (omega arith)
              (rf.at spot.as_type item_type around allowed place cs small
              (room-first (ways_of n f).as_type (ways_of n r).as_more_parameters place cs (keeps r n).as_more_parameters room) h.0))
              (elsewhere (omega arith) m.1),
        )
    each spot.as_parameters = λ ref good around allowed place cs small room h.
        (list f r, kept-parameters f r h.0, rest-more ref good around allowed place cs small room h.1)
    each spot.as_more_parameters = rest-more
    each spot.as_elements = λ in_pack around allowed place cs small room h.
        let n : ℕ = around.encoding in
        let one : Written = (ways_of n f).as_argument place cs in
        let rest : Written = (ways_of n r).as_elements (place + length one.bytes) one.components in
        let m = (rr.at spot.as_elements) in_pack around allowed (place + length one.bytes) one.components small
        (room-rest (ways_of n f).as_argument (ways_of n r).as_elements place cs room) h.1 in (
          items-kept (list f r),
          (rf.at spot.as_argument) in_pack around allowed place cs small
              (room-first (ways_of n f).as_argument (ways_of n r).as_elements place cs (keeps r n).as_elements room) h.0 r
              (items_value r) rest m.0 m.1,
        )
    each w = (reads-nowhere (list f r) (λ n. ways_of n (list f r))).at w

-- ## Function types

abbrev marks_of : (c_linkage noexcept : Bool) → List ℕ
marks_of c_linkage noexcept = cond noexcept (codes "Do") [] ++ codes "F" ++ cond c_linkage (codes "Y") []

abbrev function_spelling : ℕ → (c_linkage noexcept : Bool) → RefQualifier → (a ps : Term) → Spelling
function_spelling n c_linkage noexcept ref a ps =
    text (marks_of c_linkage noexcept) and (ways_of n a).as_type and (ways_of n ps).as_parameters and text (mark_letter ref ++ codes "E")

abbrev function_fits : (c_linkage noexcept : Bool) → RefQualifier → (a ps : Term) → Fitting
function_fits c_linkage noexcept ref a ps around allowed place cs =
    (fits_of a).as_type any_type around allowed (place + length (marks_of c_linkage noexcept)) cs
    × Behind (text (marks_of c_linkage noexcept) and (ways_of around.encoding a).as_type)
    ((fits_of ps).as_parameters parameter_type around allowed) place cs
    × IsAbiMark ref

keeps-function : (n : ℕ) (c_linkage noexcept : Bool) (ref : RefQualifier) (a ps : Term)
    → Keeps (function_spelling n c_linkage noexcept ref a ps)
keeps-function n c_linkage noexcept ref a ps =
    keeps-front (marks_of c_linkage noexcept) ((ways_of n a).as_type and (ways_of n ps).as_parameters and text (mark_letter ref ++ codes "E"))
    (keeps-and (ways_of n a).as_type ((ways_of n ps).as_parameters and text (mark_letter ref ++ codes "E")) (keeps a n).as_type
    (keeps-behind (ways_of n ps).as_parameters (mark_letter ref ++ codes "E") (keeps ps n).as_parameters))

-- the return type, and the parameters with the end
function-parts : (c_linkage noexcept : Bool) (ref : RefQualifier) (a ps : Term) → Reading a → Reading ps
    → (around : Around) (allowed : Option ℕ)
    (place : ℕ) (cs : List Component) → IsSmall around → HasRoom (function_spelling around.encoding c_linkage noexcept ref a ps place cs)
    → function_fits c_linkage noexcept ref a ps around allowed place cs
    → (let at = place + length (marks_of c_linkage noexcept) in
    let one = (ways_of around.encoding a).as_type at cs in
    ReadsAt around allowed (OfKind TYPE) (Is (tree a true)) at cs one
    × ParametersRead ref around allowed ps (at + length one.bytes) one.components
    ((ways_of around.encoding ps).as_parameters (at + length one.bytes) one.components))
function-parts c_linkage noexcept ref a ps ra rp around allowed place cs small room h =
    let n : ℕ = around.encoding in
    let front : List ℕ = marks_of c_linkage noexcept in
    let end : Spelling = text (mark_letter ref ++ codes "E") in
    let at : ℕ = place + length front in
    let one : Written = (ways_of n a).as_type at cs in
    let inner = room-rest (text front) ((ways_of n a).as_type and (ways_of n ps).as_parameters and end) place cs room in (
      (ra.at spot.as_type) any_type around allowed at cs small
          (room-first (ways_of n a).as_type ((ways_of n ps).as_parameters and end) at cs
          (keeps-behind (ways_of n ps).as_parameters (mark_letter ref ++ codes "E") (keeps ps n).as_parameters) inner) h.0,
      (rp.at spot.as_parameters) ref h.2 around allowed (at + length one.bytes) one.components small
          (room-first (ways_of n ps).as_parameters end (at + length one.bytes) one.components (keeps-text _)
          (room-rest (ways_of n a).as_type ((ways_of n ps).as_parameters and end) at cs inner))
          (subst (λ q. (fits_of ps).as_parameters parameter_type around allowed q one.components) (omega (arith, length-append front one.bytes)) h.1),
    )

-- a function type that is read after the D of a noexcept, or after no byte
abbrev FunctionReads : (noexcept : Bool) → Around → Option ℕ → Term → ℕ → List Component → Written → Type 0
FunctionReads false around allowed t place cs w = ReadsAt around allowed (OfKind SOLID) (Is (tree t false)) place cs w
FunctionReads true around allowed t place cs w =
    (inner : Written) × (w ≡ written (68 ∷ inner.bytes) inner.components)
    × ReadsAt around allowed (OfKind AFTER_D) (Is (tree t false)) (place + 1) cs inner

function-reads : (c_linkage noexcept : Bool) (ref : RefQualifier) (a ps : Term) → Reading a → Reading ps
    → (around : Around) (allowed : Option ℕ)
    (place : ℕ) (cs : List Component) → IsSmall around → HasRoom (function_spelling around.encoding c_linkage noexcept ref a ps place cs)
    → function_fits c_linkage noexcept ref a ps around allowed place cs
    → FunctionReads noexcept around allowed (function_type c_linkage noexcept ref a ps) place cs
    (function_spelling around.encoding c_linkage noexcept ref a ps place cs)
function-reads c_linkage false ref a ps ra rp around allowed place cs small room h =
    let p = function-parts c_linkage false ref a ps ra rp around allowed place cs small room h in
    let at : ℕ = place + length (marks_of c_linkage false) in
    let one : Written = (ways_of around.encoding a).as_type at cs in
    let rest : Written = (ways_of around.encoding ps).as_parameters (at + length one.bytes) one.components in
    subst (λ x. ReadsAt around allowed (OfKind SOLID) (Is (tree (function_type c_linkage false ref a x) false)) place cs
    (function_spelling around.encoding c_linkage false ref a ps place cs)) p.1.1
    (function-solid around allowed c_linkage a p.1.0 ref place cs one (with_end ref rest)
    (elsewhere (omega arith) p.0) (elsewhere (omega arith) p.1.2))
function-reads c_linkage true ref a ps ra rp around allowed place cs small room h =
    let p = function-parts c_linkage true ref a ps ra rp around allowed place cs small room h in
    let at : ℕ = place + length (marks_of c_linkage true) in
    let one : Written = (ways_of around.encoding a).as_type at cs in
    let rest : Written = (ways_of around.encoding ps).as_parameters (at + length one.bytes) one.components in
    let inner : Written = written (111 ∷ 70 ∷ (mark_bytes c_linkage 89 ++ (one.bytes ++ (with_end ref rest).bytes))) rest.components in (
      inner,
      refl,
      subst (λ x. ReadsAt around allowed (OfKind AFTER_D) (Is (tree (function_type c_linkage true ref a x) false)) (place + 1) cs inner) p.1.1
          (noexcept-behind-d around allowed c_linkage a p.1.0 ref (place + 1) cs one (with_end ref rest)
          (elsewhere (omega arith) p.0) (elsewhere (omega arith) p.1.2)),
    )

-- a function type as a component
function-in : (noexcept : Bool) (slot : Slot) (around : Around) (allowed : Option ℕ) (t : Term) (place : ℕ) (cs : List Component)
    (w : Written)
    → takes_all slot ≡ true → is_function_type t && is_bare slot ≡ false → FunctionReads noexcept around allowed t place cs w
    → ReadsAs slot around allowed t place cs (written w.bytes (more around w.components t))
function-in false slot around allowed t place cs w all bare one = solid-in-all slot around allowed t place cs w all bare one
function-in true slot around allowed t place cs w all bare (inner, is, one) =
    subst (λ v. ReadsAs slot around allowed t place cs (written v.bytes (more around v.components t))) (sym is)
    ((with-d-in slot around allowed t all bare).0 place cs inner one)

-- a function type right under qualifiers
function-bare : (noexcept : Bool) (around : Around) (allowed : Option ℕ) (t : Term) (place : ℕ) (cs : List Component) (w : Written)
    → is_function_type t ≡ true → FunctionReads noexcept around allowed t place cs w
    → ReadsAt around allowed (OfKind PLAIN) (Is (tree t true)) place cs w
function-bare false around allowed t place cs w is one =
    function-under-qualifiers around allowed t place cs w is
    (elsewhere (omega arith) one)
function-bare true around allowed t place cs w is (inner, same, one) =
    subst (λ v. ReadsAt around allowed (OfKind PLAIN) (Is (tree t true)) place cs v) (sym same)
    (noexcept-under-qualifiers around allowed t place cs inner is one)

pub reads-function-type : (c_linkage noexcept : Bool) (ref : RefQualifier) (a ps : Term) → Reading a → Reading ps
    → Reading (function_type c_linkage noexcept ref a ps)
unfolding ways_of fits_of fits_nowhere type_fits type_ways no_ways function_text is_function_type takes_all is_bare
reads-function-type c_linkage noexcept ref a ps ra rp = record {
  at = each;
  before = λ typed k kind around allowed place cs arguments elements items last are read kept small room h.
      let t : Term = function_type c_linkage noexcept ref a ps in
      template-value typed around allowed k (instance t items) place cs _
      (referred-before typed k around allowed t tt kind place cs
      (function_spelling around.encoding c_linkage noexcept ref a ps) arguments elements
      items last are read (keeps-function around.encoding c_linkage noexcept ref a ps) kept room h);
}
  where
    whole : (slot : Slot) → takes_all slot ≡ true → is_bare slot ≡ false
        → Leads (λ n. component n (function_type c_linkage noexcept ref a ps) (function_spelling n c_linkage noexcept ref a ps))
        (as_component (function_type c_linkage noexcept ref a ps) (function_fits c_linkage noexcept ref a ps))
        (λ around allowed. ReadsAs slot around allowed (function_type c_linkage noexcept ref a ps))
    whole slot all bare around allowed place cs small room h =
        let t : Term = function_type c_linkage noexcept ref a ps in
        let n : ℕ = around.encoding in
        let s = in-slot slot around allowed t bare in
        fitting-in around allowed t tt (ReadsAs slot around allowed t) place cs (function_spelling n c_linkage noexcept ref a ps)
        (function_fits c_linkage noexcept ref a ps) s.behind_s (keeps-function n c_linkage noexcept ref a ps) room h
        (λ fits enough. function-in noexcept slot around allowed t place cs
        (function_spelling n c_linkage noexcept ref a ps place cs) all bare
        (function-reads c_linkage noexcept ref a ps ra rp around allowed place cs small enough fits))

    as_types : (slot : Slot) → Leads (λ n. slot_way slot (ways_of n (function_type c_linkage noexcept ref a ps)))
        ((fits_of (function_type c_linkage noexcept ref a ps)).as_type slot)
        (λ around allowed. ReadsAs slot around allowed (function_type c_linkage noexcept ref a ps))
    as_types any_type = whole any_type refl refl
    as_types bare_type = λ around allowed place cs small room h.
        function-bare noexcept around allowed (function_type c_linkage noexcept ref a ps) place cs
        (function_spelling around.encoding c_linkage noexcept ref a ps place cs) refl
        (function-reads c_linkage noexcept ref a ps ra rp around allowed place cs small room h)
    as_types item_type = whole item_type refl refl
    as_types parameter_type = whole parameter_type refl refl
    as_types literal_type = λ around allowed place cs small room h.
        let t : Term = function_type c_linkage noexcept ref a ps in
        let s = in-slot literal_type around allowed t refl in
        fitting-in around allowed t tt (ReadsAs literal_type around allowed t) place cs
        (function_spelling around.encoding c_linkage noexcept ref a ps)
        nowhere s.behind_s (keeps-function around.encoding c_linkage noexcept ref a ps) room h (λ fits enough. absurd fits)

    each : ReadingAt (function_type c_linkage noexcept ref a ps)
    each spot.as_type = as_types
    each spot.as_prefix = λ around allowed place cs small room h.
        let t : Term = function_type c_linkage noexcept ref a ps in
        fitting-in around allowed t tt (Extends around allowed t) place cs (function_spelling around.encoding c_linkage noexcept ref a ps) nowhere
        (prefix-behind-s around allowed t) (keeps-function around.encoding c_linkage noexcept ref a ps) room h (λ fits enough. absurd fits)
    each spot.as_prefix_template = λ around allowed place cs small room h.
        let t : Term = function_type c_linkage noexcept ref a ps in
        fitting-in around allowed t tt (ExtendsWith around allowed t) place cs
        (function_spelling around.encoding c_linkage noexcept ref a ps) nowhere
        (extends-with-behind-s around allowed t) (keeps-function around.encoding c_linkage noexcept ref a ps) room h
        (λ fits enough. absurd fits)
    each spot.as_argument = λ in_pack around allowed place cs small room h.
        typed-argument in_pack around allowed (function_type c_linkage noexcept ref a ps) place cs _
        (whole item_type refl refl around allowed place cs small room (h.0, λ none. (h.1 none).1))
    each w = (reads-nowhere (function_type c_linkage noexcept ref a ps) (λ n. ways_of n (function_type c_linkage noexcept ref a ps))).at w
