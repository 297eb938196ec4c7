-- A reference that pressing writes is read as the tree that it denotes.
use Rattle.cpp_press_laws.proofs.Basics.{◌≡◌, ℕ, zero, suc, ◌+◌, ◌-◌, ◌<◌, ◌≤◌, inl, inr, length, List, [], ◌∷◌, ◌++◌, Option, Some, None, Bool, true, false, Ok, refl, ap, arith, sym, subst, ◌∙◌, slice_get, not, ◌&&◌, ◌||◌, nat_eq, Result, Err, eq-eqb, and_parts, Refusal, BadReference, Seq36, counted_value, Found, ◌>>=◌, found, Kind, Production, ABBREVIATION, Term, operation, is_open, with_packs, packs_in, is_module, substituted, opening, same_tree, Component, components_of, is_same, first_equal, seq_id, PacksFit, MayBeReferred, greatest, written, IsAllowed, ReadsAt, Is}
use Rattle.sym_shape.specs.declared.rule.Sym.TheVariants.{Kind as OfKind, Number}
use Rattle.cpp_grammar.specs.Values.{Candidate, State, Around, Value, text, tree}
use Rattle.cpp_press_laws.proofs.Components.Sameness.{equal-tree}
use Rattle.cpp_press_laws.proofs.Components.Parts.{IsComponent}
use Rattle.cpp_press_laws.proofs.ReadBack.Tokens.{seq_token, seq-is-token, seq-value}
use Rattle.cpp_press_laws.proofs.ReadBack.Reading.{takes-none, number-reads, grammar, production-opened, row-of}

-- ## What may be referred to

-- naming packs that fit isn't refused, and the state keeps its candidates
pub record HasPacks (around : Around) (allowed packs : Option ℕ) (place : ℕ) (s : State) : Type 0 where
  pub state : State
  pub goes : with_packs place around.in_expansion packs s ≡ Ok state
  pub candidates : state.candidates ≡ s.candidates
  pub packs_are : IsAllowed allowed state.packs

some-one : {a b : ℕ} → Some a ≡ Some b → a ≡ b
some-one h = cc

none-some : {a : ℕ} → ◌≡◌ {A = Option ℕ} None (Some a) → ⊥
none-some h = cc

named-again : (b : Bool) (place : ℕ) (s : State) → b ≡ true
    → ◌≡◌ {A = Result State Refusal} (elim b [ true ↦ Ok s | false ↦ Err (BadReference place) ]) (Ok s)
named-again true place s h = refl
named-again false place s h = cc

pub packs-fit : (around : Around) (allowed packs : Option ℕ) (place : ℕ) (s : State) → PacksFit around allowed packs → IsAllowed allowed s.packs
    → HasPacks around allowed packs place s
unfolding with_packs
packs-fit around allowed packs place s (inl none) before = record { state = s; goes = rw none refl; candidates = refl; packs_are = before }
packs-fit around allowed None place s (inr fits) before = record { state = s; goes = refl; candidates = refl; packs_are = before }
packs-fit around allowed (Some m) place s (inr (under, same)) before = go s.packs refl before
  where
    go : (o : Option ℕ) → s.packs ≡ o → IsAllowed allowed o → HasPacks around allowed (Some m) place s
    go None is first = record { state = record s { packs = Some m }; goes = rw (under, is) refl; candidates = refl; packs_are = inr same }
    go (Some n) is (inl none) = absurd (none-some (sym none))
    go (Some n) is (inr other) =
        let equal : m ≡ n = some-one (same ∙ sym other) in
        record {
          state = s;
          goes = rw (under, is) (named-again (nat_eq m n) place (record s { packs = Some n })
              (eq-eqb m n equal));
          candidates = refl;
          packs_are = subst (IsAllowed allowed) (sym is) (inr other);
        }

-- ## What is found

-- the component that a reference names
pub record IsFirst (encoding : ℕ) (own : Term) (cs : List Component) (number : ℕ) : Type 0 where
  pub component : Component
  pub there : slice_get cs number ≡ Some component
  pub few : number < length cs
  pub same : component.tree ≡ own
  pub scoped : is_open own && not (nat_eq component.encoding encoding) ≡ false

found-same : (encoding : ℕ) (own : Term) (c : Component) → is_same encoding own c ≡ true
    → (c.tree ≡ own) × (is_open own && not (nat_eq c.encoding encoding) ≡ false)
unfolding is_same
found-same encoding own c h =
    let both = and_parts (same_tree own c.tree) (not (is_open own) || nat_eq c.encoding encoding) h in
    (sym (equal-tree own c.tree both.0), go (is_open own) (nat_eq c.encoding encoding) both.1)
  where
    go : (a b : Bool) → not a || b ≡ true → a && not b ≡ false
    go true true k = refl
    go true false k = cc
    go false b k = refl

pub found-first : (encoding : ℕ) (own : Term) (from number : ℕ) (cs : List Component) → first_equal encoding own from cs ≡ Some number
    → (k : ℕ) × (number ≡ from + k) × IsFirst encoding own cs k
unfolding first_equal
found-first encoding own from number [] h = cc
found-first encoding own from number (c ∷ cs) h = go (is_same encoding own c) refl h (λ k. found-first encoding own (from + 1) number cs k)
  where
    go : (b : Bool) → is_same encoding own c ≡ b → elim b as (λ _. Option ℕ)
        [ true ↦ Some from | false ↦ first_equal encoding own (from + 1) cs ] ≡ Some number
        → (first_equal encoding own (from + 1) cs ≡ Some number → (k : ℕ) × (number ≡ from + 1 + k) × IsFirst encoding own cs k)
        → (k : ℕ) × (number ≡ from + k) × IsFirst encoding own (c ∷ cs) k
    go true is k rest =
        let f = found-same encoding own c is in
        (0, omega (arith, some-one k), record { component = c; there = refl; few = omega arith; same = f.0; scoped = f.1 })
    go false is k rest =
        let later = rest k in (
          suc later.0,
          omega (arith, later.1),
          record {
            component = later.2.component;
            there = later.2.there;
            few = omega (arith, later.2.few);
            same = later.2.same;
            scoped = later.2.scoped;
          },
        )

-- the reader's candidate with this number has the component's tree and encoding
record IsAt (candidates : List Candidate) (number : ℕ) (component : Component) : Type 0 where
  pub candidate : Candidate
  pub there : slice_get candidates number ≡ Some candidate
  pub tree_is : candidate.tree ≡ component.tree
  pub encoding_is : candidate.encoding ≡ component.encoding

candidate-at : (cs : List Candidate) (number : ℕ) (component : Component) → slice_get (components_of cs) number ≡ Some component
    → IsAt cs number component
unfolding components_of
candidate-at [] number component h = absurd cc
candidate-at (c ∷ cs) zero component h =
    let same : record { tree = c.tree; encoding = c.encoding } ≡ component = cc in
    record { candidate = c; there = refl; tree_is = ap (λ k. k.tree) same; encoding_is = ap (λ k. k.encoding) same }
candidate-at (c ∷ cs) (suc number) component h =
    let later = candidate-at cs number component h in
    record { candidate = later.candidate; there = later.there; tree_is = later.tree_is; encoding_is = later.encoding_is }

-- ## References

answered : (b : Bool) (place : ℕ) (m : Result State Refusal) (new : State) (t : Term) → b ≡ false → m ≡ Ok new
    → ◌≡◌ {A = Result (Found Value State) Refusal} (elim b [ true ↦ Err (BadReference place) | false ↦ m >>= λ s. Ok (found (tree t true) s) ])
    (Ok (found (tree t true) new))
answered true place m new t free goes = cc
answered false place m new t free goes = rw goes refl

-- a component is no module's name
no-module : (t : Term) → IsComponent t → is_module t ≡ false
unfolding is_module
no-module (operation one two u w) is = absurd is
no-module _ is = refl

reference-state : (around : Around) (allowed : Option ℕ) (place : ℕ) (own : Term) (c : Candidate) (s : State) → IsComponent own
    → MayBeReferred around allowed own → c.tree ≡ own
    → is_open own && not (nat_eq c.encoding around.encoding) ≡ false → IsAllowed allowed s.packs
    → (new : State) × (substituted around place (Some c) s ≡ Ok (found (tree own true) new)) × (new.candidates ≡ s.candidates) × IsAllowed
    allowed new.packs
unfolding substituted
reference-state around allowed place own c s is may same scoped before =
    let p = packs-fit around allowed (packs_in around.scope own) place s may.packs before in
    let free : is_module own || (is_open own && (around.in_lambda || not (nat_eq c.encoding around.encoding))) ≡ false = neither (is_module own) _
    (no-module own is) (go (is_open own) around.in_lambda (nat_eq c.encoding around.encoding) may.lambda scoped) in (
      p.state,
      rw same (answered (is_module own || (is_open own && (around.in_lambda || not (nat_eq c.encoding around.encoding)))) place
          (with_packs place around.in_expansion (packs_in around.scope own) s) p.state own free p.goes),
      p.candidates,
      p.packs_are,
    )
  where
    neither : (a b : Bool) → a ≡ false → b ≡ false → a || b ≡ false
    neither true b one other = one
    neither false b one other = other

    go : (a b d : Bool) → a && b ≡ false → a && not d ≡ false → a && (b || not d) ≡ false
    go true true d h k = cc
    go true false d h k = k
    go false b d h k = refl

-- the number of a component after the S
pub number-refers : (around : Around) (allowed : Option ℕ) (own : Term) (number place : ℕ) (cs : List Component) → length cs ≤ greatest
    → IsComponent own → MayBeReferred around allowed own
    → IsFirst around.encoding own cs number
    → ReadsAt around allowed (OfKind ABBREVIATION) (λ v. v ≡ tree own true) place cs (written (seq_id number ++ 95 ∷ []) cs)
unfolding grammar opening
number-refers around allowed own number place cs few is may first =
    production-opened Production.Substitution ABBREVIATION [] around allowed allowed place (λ values. values ≡ text (seq_id number) ∷ [])
    (Is (tree own true)) cs cs (Number Seq36 ∷ []) (written (seq_id number ++ 95 ∷ []) cs)
    (takes-none ABBREVIATION Kind.Abbreviation Production.Substitution 95 refl refl (omega arith) refl) refl
    (row-of Production.Substitution [] around allowed place _ (Number Seq36 ∷ []) (text (seq_id number) ∷ []) (written (seq_id number ++ 95 ∷ []) cs ∷ [])
    [] (place + 0) cs (λ s c q. (number-reads Seq36 (seq_token number) (seq-is-token number) s c q, refl)))
    (λ s same packs. refl)
    (λ values good began s before same packs.
    let at = candidate-at s.candidates number first.component (ap (λ l. slice_get l number) same ∙ first.there) in
    let r = reference-state around allowed (place - 1) own at.candidate s is may (at.tree_is ∙ first.same)
    (ap (λ e. is_open own && not (nat_eq e around.encoding)) at.encoding_is ∙ first.scoped) packs in
    let there : slice_get s.candidates (counted_value Seq36 (seq_id number)) ≡ Some at.candidate =
    ap (λ n. slice_get s.candidates n) (seq-value number (omega (arith, few, first.few))) ∙ at.there in
    record {
      value = tree own true;
      good = refl;
      state = r.0;
      closes = rw (good, there) r.1;
      candidates = ap components_of r.2 ∙ same;
      packs = r.3;
    })
