-- Spellings add only what is among the components, if the components that they are made from are among them.
use Rattle.cpp_press_laws.proofs.Basics.{◌≡◌, ℕ, ◌+◌, ◌<◌, ◌≤◌, ◌⊎◌, inl, inr, length, List, [], ◌∷◌, ◌++◌, Option, Some, None, Bool, true, false, refl, ap, arith, sym, subst, ◌∙◌, append_assoc, append-nil, codes, true≢false, ◌and◌, text, Term, is_open, Component, Spelling, first_equal, reference, ended, spelled_out, referred, component, in_N_and_E, template_before, begun}
use Rattle.sym_spell.specs.Pressing as spell
use Rattle.cpp_press_laws.proofs.Components.Parts.{IsComponent, Has, has-before, has-either, has-closed, same-means}

-- Each tree of `R` without free parameters is among the components. So is each other tree of `R`, if `open_` holds.
abbrev pub Stands : (open_ : Type 0) → (encoding : ℕ) → (R : Term → Type 0) → List Component → Type 0
Stands open_ n R cs = (x : Term) → R x → (is_open x ≡ false) ⊎ open_ → Has n x cs

-- An added component is of this encoding, or of one that begins at `start` or later. If it has no free parameters, or if `open_`
-- holds and it is of this encoding, it is among the components.
pub record IsKnown (open_ : Type 0) (n start : ℕ) (components : List Component) (c : Component) : Type 0 where
  pub known : IsComponent c.tree → (is_open c.tree ≡ false) ⊎ (open_ × (c.encoding ≡ n)) → Has n c.tree components
  pub place : (c.encoding ≡ n) ⊎ (start ≤ c.encoding)

abbrev pub AreKnown : (open_ : Type 0) → (n start : ℕ) → (components added : List Component) → Type 0
AreKnown open_ n start components [] = Unit {0}
AreKnown open_ n start components (c ∷ cs) = IsKnown open_ n start components c × AreKnown open_ n start components cs

pub record AddsKnown (open_ : Type 0) (n start : ℕ) (components : List Component) (pressed : spell.Pressed Component) : Type 0 where
  pub added : List Component
  pub split : pressed.components ≡ components ++ added
  pub each : AreKnown open_ n start components added

-- a spelling adds only known components at each place of an encoding; `KeepsBehind` says the same of each place after the
-- encoding's first byte
abbrev pub KeepsTo : (open_ : Type 0) → (n : ℕ) → (R : Term → Type 0) → Spelling → Type 0
KeepsTo open_ n R spelling =
    (place : ℕ) (components : List Component) → n ≤ place → Stands open_ n R components
    → AddsKnown open_ n place components (spelling place components)

abbrev pub KeepsBehind : (open_ : Type 0) → (n : ℕ) → (R : Term → Type 0) → Spelling → Type 0
KeepsBehind open_ n R spelling =
    (place : ℕ) (components : List Component) → n < place → Stands open_ n R components
    → AddsKnown open_ n place components (spelling place components)

-- ## What is known

stands-more : (open_ : Type 0) (n : ℕ) (R : Term → Type 0) (cs ds : List Component) → Stands open_ n R cs → Stands open_ n R (cs ++ ds)
stands-more open_ n R cs ds stands x is may = has-before n x cs ds (stands x is may)

-- a tree among known components that are added after others is among those others
pub known-has : (open_ : Type 0) (n start : ℕ) (cs ds : List Component) (x : Term) → AreKnown open_ n start cs ds → IsComponent x
    → (is_open x ≡ false) ⊎ open_ → Has n x ds → Has n x cs
known-has open_ n start cs [] x each is may has = absurd has
known-has open_ n start cs (d ∷ ds) x each is may (inr later) = known-has open_ n start cs ds x each.1 is may later
known-has open_ n start cs (d ∷ ds) x each is may (inl same) = go (same-means n x d same) may
  where
    there : x ≡ d.tree → (is_open d.tree ≡ false) ⊎ (open_ × (d.encoding ≡ n)) → Has n x cs
    there equal k = subst (λ y. Has n y cs) (sym equal) (each.0.known (subst IsComponent equal is) k)

    shut : x ≡ d.tree → is_open x ≡ false → is_open d.tree ≡ false
    shut equal closed = sym (ap is_open equal) ∙ closed

    go : (x ≡ d.tree) × ((is_open x ≡ false) ⊎ (d.encoding ≡ n)) → (is_open x ≡ false) ⊎ open_ → Has n x cs
    go (equal, scoped) (inl closed) = there equal (inl (shut equal closed))
    go (equal, inl closed) (inr o) = there equal (inl (shut equal closed))
    go (equal, inr here) (inr o) = there equal (inr (o, here))

known-earlier : (open_ : Type 0) (n start later : ℕ) (cs ds es : List Component) → start ≤ later → AreKnown open_ n start cs ds
    → AreKnown open_ n later (cs ++ ds) es → AreKnown open_ n start cs es
known-earlier open_ n start later cs ds [] le before each = tt
known-earlier open_ n start later cs ds (e ∷ es) le before each = (
  record {
    known = λ is k. known is k (has-either n e.tree cs ds (each.0.known is k));
    place = elim each.0.place [ inl here ↦ inl here | inr deep ↦ inr (omega (arith, le, deep)) ];
  },
  known-earlier open_ n start later cs ds es le before each.1,
)
  where
    known : IsComponent e.tree → (is_open e.tree ≡ false) ⊎ (open_ × (e.encoding ≡ n)) → Has n e.tree cs ⊎ Has n e.tree ds → Has n e.tree cs
    known is k (inl has) = has
    known is (inl closed) (inr has) = known-has open_ n start cs ds e.tree before is (inl closed) has
    known is (inr o) (inr has) = known-has open_ n start cs ds e.tree before is (inr o.0) has

known-append : (open_ : Type 0) (n start : ℕ) (cs ds es : List Component) → AreKnown open_ n start cs ds → AreKnown open_ n start cs es
    → AreKnown open_ n start cs (ds ++ es)
known-append open_ n start cs [] es one other = other
known-append open_ n start cs (d ∷ ds) es one other = (one.0, known-append open_ n start cs ds es one.1 other)

-- ## Spellings

abbrev both_written : (first : spell.Pressed Component) → (rest : spell.Pressed Component) → spell.Pressed Component
both_written first rest = record { bytes = first.bytes ++ rest.bytes; components = rest.components }

and-adds : (open_ : Type 0) (n start later : ℕ) (cs : List Component) (first rest : spell.Pressed Component) → start ≤ later
    → AddsKnown open_ n start cs first → AddsKnown open_ n later first.components rest → AddsKnown open_ n start cs (both_written first rest)
and-adds open_ n start later cs first rest le a b = record {
  added = a.added ++ b.added;
  split = b.split ∙ ap (λ l. l ++ b.added) a.split ∙ append_assoc cs a.added b.added;
  each = known-append open_ n start cs a.added b.added a.each
      (known-earlier open_ n start later cs a.added b.added le a.each
      (subst (λ l. AreKnown open_ n later l b.added) a.split b.each));
}

stands-behind : (open_ : Type 0) (n start : ℕ) (R : Term → Type 0) (cs : List Component) (first : spell.Pressed Component)
    → AddsKnown open_ n start cs first → Stands open_ n R cs → Stands open_ n R first.components
stands-behind open_ n start R cs first a stands =
    subst (Stands open_ n R) (sym a.split) (stands-more open_ n R cs a.added stands)

text-adds : (open_ : Type 0) (n start : ℕ) (bytes : List ℕ) (cs : List Component)
    → AddsKnown open_ n start cs (record { bytes = bytes; components = cs })
text-adds open_ n start bytes cs = record { added = []; split = sym (append-nil cs); each = tt }

pub text-keeps : (open_ : Type 0) (n : ℕ) (R : Term → Type 0) (bytes : List ℕ) → KeepsTo open_ n R (text bytes)
text-keeps open_ n R bytes place cs le stands = text-adds open_ n place bytes cs

pub and-keeps : (open_ : Type 0) (n : ℕ) (R : Term → Type 0) (first rest : Spelling) → KeepsTo open_ n R first → KeepsTo open_ n R rest
    → KeepsTo open_ n R (first and rest)
and-keeps open_ n R first rest one more place cs le stands =
    let a = one place cs le stands in
    let later : ℕ = place + length (first place cs).bytes in
    and-adds open_ n place later cs (first place cs) (rest later (first place cs).components) (omega arith) a
    (more later (first place cs).components (omega (arith, le)) (stands-behind open_ n place R cs (first place cs) a stands))

pub behind-and-keeps : (open_ : Type 0) (n : ℕ) (R : Term → Type 0) (first rest : Spelling) → KeepsBehind open_ n R first
    → KeepsTo open_ n R rest → KeepsBehind open_ n R (first and rest)
behind-and-keeps open_ n R first rest one more place cs le stands =
    let a = one place cs le stands in
    let later : ℕ = place + length (first place cs).bytes in
    and-adds open_ n place later cs (first place cs) (rest later (first place cs).components) (omega arith) a
    (more later (first place cs).components (omega (arith, le)) (stands-behind open_ n place R cs (first place cs) a stands))

pub behind-bytes-keeps : (open_ : Type 0) (n : ℕ) (R : Term → Type 0) (bytes : List ℕ) (rest : Spelling) → 0 < length bytes
    → KeepsBehind open_ n R rest → KeepsTo open_ n R (text bytes and rest)
behind-bytes-keeps open_ n R bytes rest some more place cs le stands =
    let later : ℕ = place + length bytes in
    and-adds open_ n place later cs (record { bytes = bytes; components = cs }) (rest later cs) (omega arith)
    (text-adds open_ n place bytes cs)
    (more later cs (omega (arith, le, some)) stands)

pub keeps-behind : (open_ : Type 0) (n : ℕ) (R : Term → Type 0) (spelling : Spelling) → KeepsTo open_ n R spelling
    → KeepsBehind open_ n R spelling
keeps-behind open_ n R spelling one place cs le stands = one place cs (omega (arith, le)) stands

-- a tree becomes a component
pub ended-keeps : (open_ : Type 0) (n : ℕ) (R : Term → Type 0) (own : Term) → (IsComponent own → R own) → KeepsTo open_ n R (ended n own)
unfolding ended
ended-keeps open_ n R own is place cs le stands = record {
  added = record { tree = own; encoding = n } ∷ [];
  split = refl;
  each = (record { known = λ c k. stands own (is c) (elim k [ inl closed ↦ inl closed | inr o ↦ inr o.0 ]); place = inl refl }, tt);
}

spelled-keeps : (open_ : Type 0) (n : ℕ) (R : Term → Type 0) (own : Term) (spelling : Spelling) → (IsComponent own → R own)
    → KeepsTo open_ n R spelling → KeepsTo open_ n R (spelled_out n own spelling)
unfolding spelled_out
spelled-keeps open_ n R own spelling is one = and-keeps open_ n R spelling (ended n own) one (ended-keeps open_ n R own is)

pub component-keeps : (open_ : Type 0) (n : ℕ) (R : Term → Type 0) (own : Term) (spelling : Spelling) → (IsComponent own → R own)
    → KeepsTo open_ n R spelling → KeepsTo open_ n R (component n own spelling)
unfolding component reference
component-keeps open_ n R own spelling is one place cs le stands = go (first_equal n own 0 cs)
  where
    go : (o : Option ℕ) → AddsKnown open_ n place cs (elim o as (λ _. spell.Pressed Component)
        [ Some number ↦ reference number place cs | None ↦ spelled_out n own spelling place cs ])
    go (Some number) = text-adds open_ n place _ cs
    go None = spelled-keeps open_ n R own spelling is one place cs le stands

pub in-N-and-E-keeps : (open_ : Type 0) (n : ℕ) (R : Term → Type 0) (letters : List ℕ) (name : Spelling) → KeepsTo open_ n R name
    → KeepsTo open_ n R (in_N_and_E letters name)
unfolding in_N_and_E
in-N-and-E-keeps open_ n R letters name one =
    and-keeps open_ n R (text (codes "N" ++ letters)) (name and text (codes "E")) (text-keeps open_ n R _)
    (and-keeps open_ n R name (text (codes "E")) one (text-keeps open_ n R _))

-- a template name and its arguments
pub before-keeps : (open_ : Type 0) (n : ℕ) (R : Term → Type 0) (own : Term) (needs_N : Bool) (between arguments : Spelling)
    → (IsComponent own → R own) → KeepsTo open_ n R between → KeepsTo open_ n R arguments
    → KeepsTo open_ n R (template_before n own needs_N between arguments)
unfolding template_before referred reference
before-keeps open_ n R own needs_N between arguments is one more place cs le stands = go (first_equal n own 0 cs)
  where
    whole : KeepsTo open_ n R (between and ended n own and arguments)
    whole = and-keeps open_ n R between (ended n own and arguments) one
        (and-keeps open_ n R (ended n own) arguments (ended-keeps open_ n R own is) more)

    named : (b : Bool) → KeepsTo open_ n R (elim b as (λ _. Spelling) [
      | true ↦ in_N_and_E [] (between and ended n own and arguments)
      | false ↦ (between and ended n own and arguments)
    ])
    named true = in-N-and-E-keeps open_ n R [] (between and ended n own and arguments) whole
    named false = whole

    go : (o : Option ℕ) → AddsKnown open_ n place cs (elim o as (λ _. spell.Pressed Component) [
      | Some number ↦ (reference number and arguments) place cs
      | None ↦
          (elim needs_N as (λ _. Spelling) [
            | true ↦ in_N_and_E [] (between and ended n own and arguments)
            | false ↦ (between and ended n own and arguments)
          ]) place cs
    ])
    go (Some number) = and-keeps open_ n R (reference number) arguments (text-keeps open_ n R _) more place cs le stands
    go None = named needs_N place cs le stands

-- ## Encodings

-- a tree of `R`, or a tree with free parameters, which is new in an encoding of its own
abbrev pub OrOpen : (R : Term → Type 0) → (x : Term) → Type 0
OrOpen R x = R x ⊎ (is_open x ≡ true)

inner-stands : (open_ : Type 0) (n place : ℕ) (R : Term → Type 0) (cs : List Component) → Stands open_ n R cs
    → Stands ⊥ place (OrOpen R) cs
inner-stands open_ n place R cs stands x is (inr none) = absurd none
inner-stands open_ n place R cs stands x (inr free) (inl closed) = absurd (true≢false (sym free ∙ closed))
inner-stands open_ n place R cs stands x (inl is) (inl closed) = has-closed n place x cs closed (stands x is (inl closed))

outer-known : (open_ : Type 0) (n place : ℕ) (cs ds : List Component) → n < place → AreKnown ⊥ place place cs ds
    → AreKnown open_ n place cs ds
outer-known open_ n place cs [] le each = tt
outer-known open_ n place cs (d ∷ ds) le each = (
  record { known = λ is k. known is k; place = inr late },
  outer-known open_ n place cs ds le each.1,
)
  where
    late : place ≤ d.encoding
    late = elim each.0.place [ inl here ↦ omega (arith, here) | inr deep ↦ deep ]

    known : IsComponent d.tree → (is_open d.tree ≡ false) ⊎ (open_ × (d.encoding ≡ n)) → Has n d.tree cs
    known is (inl closed) = has-closed place n d.tree cs closed (each.0.known is (inl closed))
    known is (inr o) = absurd (omega (arith, o.1, late, le))

pub begun-keeps : (open_ : Type 0) (n : ℕ) (R : Term → Type 0) (spelling : (encoding : ℕ) → Spelling)
    → ((here : ℕ) → KeepsTo ⊥ here (OrOpen R) (spelling here)) → KeepsBehind open_ n R (begun spelling)
unfolding begun
begun-keeps open_ n R spelling one place cs le stands =
    let a = one place place cs (omega arith) (inner-stands open_ n place R cs stands) in
    record { added = a.added; split = a.split; each = outer-known open_ n place cs a.added le a.each }
