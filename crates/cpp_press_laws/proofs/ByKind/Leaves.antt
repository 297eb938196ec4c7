-- Parts without components that were read: names, numbers and letters can be spelled, and nothing else changes.
use Rattle.cpp_press_laws.proofs.Basics.{◌≡◌, ℕ, ◌+◌, ◌-◌, ◌*◌, ◌<◌, ◌≤◌, length, List, [], ◌∷◌, true, Ok, refl, ap, sym, subst, arith, nat_tests, Length, Cpp, is_digit_of, AreDigits, IsLengthForm, Token, IsName, IsSeparator, value_onto, Sym, Name, Tree as Shape, branch, empty, token, fixed, IsTree, Found, found, unfold_tree, abi, cpp, ok_same, IsSpellableName}
use Rattle.cpp_grammar.specs.Values.{State, Around, Value, text, text_of}

-- a part that leaves the state as it is, and its value
abbrev pub LeafAs : Sym → (Value → Type 0) → Shape → Type 0
LeafAs x Q t =
    (around : Around) (at : ℕ) (state after : State) (v : Value) → IsTree abi x t
    → unfold_tree cpp around at t state ≡ Ok (found (v ∷ []) after) → (after ≡ state) × Q v

first-or : Value → Found (List Value) State → Value
first-or d r = go r.value
  where
    go : List Value → Value
    go [] = d
    go (v ∷ vs) = v

pub leaf-same : (Q : Value → Type 0) (v w : Value) (state s : State) → found (v ∷ []) s ≡ found (w ∷ []) state → Q w → (s ≡ state) × Q v
unfolding first-or
leaf-same Q v w state s e q = (ap (λ r. r.state) e, subst Q (sym (ap (first-or v) e)) q)

-- ## Names

digit-small : (b : ℕ) → is_digit_of Length b ≡ true → b ≤ 57
digit-small b h = grind (arith, nat_tests)

-- k times a ten for each digit: greater than any number that these digits end and a number below k begins
unfoldable grown_by : ℕ → List ℕ → ℕ
grown_by k [] = k
grown_by k (d ∷ ds) = grown_by (k * 10) ds

below-grown : (k v : ℕ) (ds : List ℕ) → v < k → AreDigits Length ds → value_onto Length v ds < grown_by k ds
unfolding grown_by
below-grown k v [] less are = less
below-grown k v (d ∷ ds) less are = below-grown (k * 10) (v * 10 + (d - 48)) ds (omega (arith, less, digit-small d are.0)) are.1

nine-digits : (ds : List ℕ) → length ds ≤ 9 → grown_by 1 ds ≤ 1000000000
unfolding grown_by
nine-digits [] few = omega arith
nine-digits (a ∷ []) few = omega arith
nine-digits (a ∷ b ∷ []) few = omega arith
nine-digits (a ∷ b ∷ c ∷ []) few = omega arith
nine-digits (a ∷ b ∷ c ∷ d ∷ []) few = omega arith
nine-digits (a ∷ b ∷ c ∷ d ∷ e ∷ []) few = omega arith
nine-digits (a ∷ b ∷ c ∷ d ∷ e ∷ f ∷ []) few = omega arith
nine-digits (a ∷ b ∷ c ∷ d ∷ e ∷ f ∷ g ∷ []) few = omega arith
nine-digits (a ∷ b ∷ c ∷ d ∷ e ∷ f ∷ g ∷ h ∷ []) few = omega arith
nine-digits (a ∷ b ∷ c ∷ d ∷ e ∷ f ∷ g ∷ h ∷ i ∷ []) few = omega arith
nine-digits (a ∷ b ∷ c ∷ d ∷ e ∷ f ∷ g ∷ h ∷ i ∷ j ∷ ds) few = absurd (omega (arith, few))

few-digits : (ds : List ℕ) → IsLengthForm ds → length ds ≤ 9
few-digits [] form = absurd form
few-digits (d ∷ []) form = omega arith
few-digits (d ∷ e ∷ ds) form = omega (arith, form.1)

lone-separator : (separator own : List ℕ) → IsSeparator Cpp separator own → IsSeparator Cpp [] own
lone-separator [] own is = is
lone-separator (s ∷ ss) own is = absurd is

-- a name that was read can be spelled
pub name-spellable : (t : Token) → IsName Cpp t → IsSpellableName t.own
name-spellable t name = record {
  each = name.each;
  short = omega (
    arith,
    name.counted,
    below-grown 1 0 name.digits (omega arith) name.length_is.0,
    nine-digits name.digits
        (few-digits name.digits name.length_is.1),
  );
  first = lone-separator name.separator t.own name.separated;
}

pub name-read : (t : Shape) → LeafAs Name (λ v. (v ≡ text (text_of v)) × IsSpellableName (text_of v)) t
unfolding cpp text_of abi
name-read (token t) around at state after v is e =
    leaf-same (λ w. (w ≡ text (text_of w)) × IsSpellableName (text_of w)) v (text t.own) state after
    (sym (ok_same (found (text t.own ∷ []) state) (found (v ∷ []) after) e))
    (refl, name-spellable t is)
name-read (branch rule taken parts) around at state after v is e = absurd is
name-read empty around at state after v is e = absurd is
name-read (fixed b) around at state after v is e = absurd is
