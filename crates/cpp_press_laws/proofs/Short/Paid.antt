-- The parts of a production that was read, and what the bytes of each part pay for.
use Rattle.cpp_press_laws.proofs.Basics.{◌≡◌, ℕ, zero, suc, ◌+◌, ◌*◌, ◌-◌, ◌<◌, ◌≤◌, length, List, [], ◌∷◌, ◌++◌, Bool, true, false, cond, Option, Some, None, Ok, Err, refl, ap, sym, subst, ◌∙◌, arith, length-append, codes, not, nat_lt, ◌/◌, ◌%◌, nat_tests, NumberKind, Length, Decimal, Seq36, Base62, Hex, Digits, Cpp, AreDigits, IsFormOf, IsLengthForm, is_digit_of, ending_of, Token, IsName, IsSeparator, IsNumberToken, bytes_of, value_onto, value_of, counted_value, Rule, Sym, symbols_of, Found, Next, ◌>>=◌, digits_in, decimal_digit, most_of, divides10, digits-count, Kind, Production, alternatives, choose, number_of_kind, parts_of, is_chain, abi, rule_of, rule_taken, Continuation, between, opening, production_at, cpp, close, byte_of, abi_wide, is_first, starts, read_first, ok_same, behind_bind, either, decimal, counted, ordinal, rule_at_kind, at_number, its_symbols, same_rule, opening_keeps}
use Rattle.std.proofs.Math.Nat.{mul_assoc}
use Rattle.sym_shape.specs.declared.rule.Sym.TheVariants.{Kind as OfKind, Name, Number, Byte}
use Rattle.sym_shape.specs.Tree.{Tree as Shape, Forest, branch, empty, token, fixed, nothing, grown, spell, spell_all, IsTree, AreTrees}
use Rattle.sym_link.specs.Unfold.{found, alone, standing, unfold_tree, unfold_forest}
use Rattle.cpp_grammar.specs.Values.{State, Around, Value, nothing_there, text, text_of}
use Rattle.cpp_press_laws.proofs.Components.Lengths.{some-bytes}
use Rattle.cpp_press_laws.proofs.ByKind.Rules.{PartGoes, PartsGo, OnGoing, AllOf, OneOf, parts-go, picked-one, kind-at}
use Rattle.cpp_press_laws.proofs.ByKind.Leaves.{LeafAs, leaf-same}
use Rattle.cpp_press_laws.proofs.Short.Gains.{AllSmall, SmallPrefix, Ready, KindGains, ShapeGains}

-- ## Tokens

-- a name, after its length
abbrev pub NamePaid : (bytes : ℕ) → Value → Type 0
NamePaid bytes v = (length (text_of v) + 1 ≤ bytes) × (length (counted (text_of v)) ≤ 2 * length (text_of v) + 1) × (1 ≤ length (text_of v))

above : (n : ℕ) → nat_lt n 10 ≡ false → 10 ≤ n
above n h = grind (arith, nat_tests)

digits-few : (fuel n : ℕ) → length (digits_in 10 decimal_digit fuel n) ≤ n + 1
digits-few zero n = omega arith
digits-few (suc fuel) n =
    either (λ ds. length ds ≤ n + 1) (nat_lt n 10) (decimal_digit n ∷ [])
    (digits_in 10 decimal_digit fuel (n / 10) ++ decimal_digit (n % 10) ∷ []) (λ below. omega arith)
    (λ over. omega (
      arith,
      digits-few fuel (n / 10),
      above n over,
      length-append (digits_in 10 decimal_digit fuel (n / 10))
          (decimal_digit (n % 10) ∷ []),
    ))

lone-separator : (separator own : List ℕ) → IsSeparator Cpp separator own → IsSeparator Cpp [] own
lone-separator [] own is = is
lone-separator (s ∷ ss) own is = absurd is

some-digits : (digits : List ℕ) → IsLengthForm digits → 1 ≤ length digits
some-digits [] form = absurd form
some-digits (d ∷ ds) form = omega arith

name-token : (t : Token) → IsName Cpp t → NamePaid (length (bytes_of t)) (text t.own)
unfolding text_of counted decimal
name-token t is = (
  omega (
    arith,
    some-digits is.digits is.length_is.1,
    ap length is.split,
    length-append is.digits is.separator,
    length-append (t.before ++ t.own) t.behind,
    length-append t.before t.own,
  ),
  omega (arith, digits-few 40 (length t.own), length-append (digits_in 10 decimal_digit 40 (length t.own)) t.own),
  some-bytes t.own (lone-separator is.separator t.own is.separated),
)

pub name-paid : (t : Shape) → LeafAs Name (NamePaid (length (spell t))) t
unfolding cpp abi
name-paid (token t) around at state after v is e =
    leaf-same (NamePaid (length (bytes_of t))) v (text t.own) state after
    (sym (ok_same (found (text t.own ∷ []) state) (found (v ∷ []) after) e)) (name-token t is)
name-paid (branch rule taken parts) around at state after v is e = absurd is
name-paid empty around at state after v is e = absurd is
name-paid (fixed b) around at state after v is e = absurd is

-- a number of this kind
abbrev pub NumberPaid : NumberKind → (bytes : ℕ) → Value → Type 0
NumberPaid kind bytes v =
    (1 ≤ bytes) × (length (text_of v) ≤ bytes) × (kind ≡ Decimal → length (ordinal (counted_value Decimal (text_of v))) ≤ bytes)

-- ten times k for each digit
unfoldable tens : ℕ → List ℕ → ℕ
tens k [] = k
tens k (d ∷ ds) = tens (k * 10) ds

digit-small : (b : ℕ) → is_digit_of Decimal b ≡ true → b ≤ 57
digit-small b h = grind (arith, nat_tests)

below-tens : (k v : ℕ) (ds : List ℕ) → v < k → AreDigits Decimal ds → value_onto Decimal v ds < tens k ds
unfolding tens
below-tens k v [] less are = less
below-tens k v (d ∷ ds) less are = below-tens (k * 10) (v * 10 + (d - 48)) ds (omega (arith, less, digit-small d are.0)) are.1

tens-are : (k : ℕ) (ds : List ℕ) → tens k ds ≡ k * most_of 10 (length ds)
unfolding tens
tens-are k [] = omega arith
tens-are k (d ∷ ds) = tens-are (k * 10) ds ∙ mul_assoc k 10 (most_of 10 (length ds))

ordinal-more : (n : ℕ) → ordinal (n + 1) ≡ decimal n ++ codes "_"
unfolding ordinal
ordinal-more n = let same : n + 1 ≡ suc n = omega arith in ap ordinal same

digits-short : (n k : ℕ) → n < most_of 10 (suc k) → length (decimal n) ≤ suc k
unfolding decimal
digits-short n k below = digits-count 10 divides10 decimal_digit 40 k n below

ordinal-short : (digits : List ℕ) → AreDigits Decimal digits → length (ordinal (counted_value Decimal digits)) ≤ length digits + 1
unfolding ordinal
ordinal-short [] are = omega arith
ordinal-short (d ∷ ds) are =
    let n : ℕ = value_of Decimal (d ∷ ds) in
    let below : n < most_of 10 (suc (length ds)) =
    omega (arith, below-tens 1 0 (d ∷ ds) (omega arith) are, tens-are 1 (d ∷ ds)) in
    omega (arith, ap length (ordinal-more n), digits-short n (length ds) below, length-append (decimal n) (codes "_"))

-- a number of each kind has a byte
number-some : (kind : NumberKind) (digits : List ℕ) → IsFormOf kind digits → 1 ≤ length digits + length (ending_of kind)
number-some Length [] form = absurd form
number-some Length (d ∷ ds) form = omega arith
number-some Digits digits form = omega (arith, form)
number-some Decimal digits form = omega arith
number-some Seq36 digits form = omega arith
number-some Base62 digits form = omega arith
number-some Hex digits form = omega arith

decimal-token : (kind : NumberKind) (digits : List ℕ) → AreDigits kind digits → kind ≡ Decimal
    → length (ordinal (counted_value Decimal digits)) ≤ length digits + length (ending_of kind)
decimal-token Decimal digits are is = ordinal-short digits are
decimal-token Length digits are is = cc
decimal-token Digits digits are is = cc
decimal-token Seq36 digits are is = cc
decimal-token Base62 digits are is = cc
decimal-token Hex digits are is = cc

number-token : (kind : NumberKind) (t : Token) → IsNumberToken kind t → NumberPaid kind (length (bytes_of t)) (text t.own)
unfolding text_of
number-token kind t is =
    let long : length (bytes_of t) ≡ length t.own + length (ending_of kind) =
    omega (arith, ap length is.bare, ap length is.ends, length-append (t.before ++ t.own) t.behind, length-append t.before t.own) in (
      omega (arith, long, number-some kind t.own is.digits.1),
      omega (arith, long),
      λ same. omega (arith, long, decimal-token kind t.own is.digits.0 same),
    )

pub number-paid : (kind : NumberKind) (t : Shape) → LeafAs (Number kind) (NumberPaid kind (length (spell t))) t
unfolding cpp abi
number-paid kind (token t) around at state after v is e =
    leaf-same (NumberPaid kind (length (bytes_of t))) v (text t.own) state after
    (sym (ok_same (found (text t.own ∷ []) state) (found (v ∷ []) after) e)) (number-token kind t is)
number-paid kind (branch rule taken parts) around at state after v is e = absurd is
number-paid kind empty around at state after v is e = absurd is
number-paid kind (fixed b) around at state after v is e = absurd is

pub byte-paid : (c : ℕ) (t : Shape) → LeafAs (Byte c) (λ v. length (spell t) ≡ 1) t
unfolding cpp
byte-paid c (fixed b) around at state after v is e =
    leaf-same (λ w. ◌≡◌ {A = ℕ} 1 1) v nothing_there state after
    (sym (ok_same (found (nothing_there ∷ []) state) (found (v ∷ []) after) e)) refl
byte-paid c (branch rule taken parts) around at state after v is e = absurd is
byte-paid c empty around at state after v is e = absurd is
byte-paid c (token t) around at state after v is e = absurd is

-- ## Parts

-- what the bytes of a part pay for
abbrev pub SymGains : Sym → Around → Value → (old new : State) → (bytes : ℕ) → Type 0
SymGains (OfKind k) around v old new bytes =
    (kind : Kind) → number_of_kind kind ≡ k → Ready kind around.prefix → SmallPrefix around.prefix → AllSmall old.candidates
    → KindGains kind around v old new bytes
SymGains Name around v old new bytes = (new ≡ old) × NamePaid bytes v
SymGains (Number kind) around v old new bytes = (new ≡ old) × NumberPaid kind bytes v
SymGains (Byte c) around v old new bytes = (new ≡ old) × (bytes ≡ 1)

pub record PaidPart (x : Sym) (bytes : ℕ) (next : Next Value State Around) (rest : ℕ → List Value → State → Type 0) : Type 0 where
  pub value : Value
  pub after : State
  pub own : ℕ
  pub others : ℕ
  pub sum : bytes ≡ own + others
  pub gains : SymGains x next.context value next.state after own
  pub first : is_first x ≡ true → starts (value ∷ []) ≡ true
  pub onward : rest others (next.values ++ value ∷ []) after

abbrev pub Paid : Production → Around → (place : ℕ) → Found (List Value) State → List Sym → (bytes : ℕ) → List Value → State → Type 0
Paid p around place inner [] bytes vs s = (found vs s ≡ inner) × (bytes ≡ 0)
Paid p around place inner (x ∷ xs) bytes vs s =
    OnGoing (between p around place vs s) (λ next. PaidPart x bytes next (Paid p around place inner xs))

sym-gains : (x : Sym) (t : Shape) → ShapeGains t → (around : Around) (at : ℕ) (state : State) (v : Value) (new : State) → IsTree abi x t
    → unfold_tree cpp around at t state ≡ Ok (found (v ∷ []) new) → SymGains x around v state new (length (spell t))
sym-gains (OfKind k) t holds around at state v new is e = λ kind same ready small all.
    holds kind around at state v new ready small all (subst (λ n. IsTree abi (OfKind n) t) (sym same) is) e
sym-gains Name t holds around at state v new is e = name-paid t around at state new v is e
sym-gains (Number kind) t holds around at state v new is e = number-paid kind t around at state new v is e
sym-gains (Byte c) t holds around at state v new is e = byte-paid c t around at state new v is e

parts-paid : (p : Production) (around : Around) (place : ℕ) (inner : Found (List Value) State) (xs : List Sym) (f : Forest) (vs : List Value)
    (from : ℕ) (s : State) → PartsGo ShapeGains p around place inner xs f vs from s
    → AreTrees abi xs f → Paid p around place inner xs (length (spell_all f)) vs s
parts-paid p around place inner [] nothing vs from s goes are = (goes, refl)
parts-paid p around place inner [] (grown t f) vs from s goes are = absurd are
parts-paid p around place inner (x ∷ xs) f vs from s goes are = go (between p around place vs s) goes (λ g ws later t. parts-paid p around place inner xs g ws later t)
  where
    go : (g : Continuation) → OnGoing g (λ next. PartGoes ShapeGains x f from next (PartsGo ShapeGains p around place inner xs))
        → ((g : Forest) (ws : List Value) (later : ℕ) (t : State) → PartsGo ShapeGains p around place inner xs g ws later t → AreTrees abi xs g
        → Paid p around place inner xs (length (spell_all g)) ws t)
        → OnGoing g (λ next. PaidPart x (length (spell_all f)) next (Paid p around place inner xs))
    go (Err e) h more = absurd h
    go (Ok next) h more = record {
      value = h.value;
      after = h.after;
      own = length (spell h.shape);
      others = length (spell_all h.others);
      sum = ap (λ g. length (spell_all g)) h.splits ∙ length-append (spell h.shape) (spell_all h.others);
      gains = sym-gains x h.shape h.holds next.context from next.state h.value h.after h.is h.unfolds;
      first = λ first. read_first h.shape x next.context from next.state (found (h.value ∷ []) h.after) (abi_wide x h.shape h.is) first h.unfolds;
      onward = more h.others (next.values ++ h.value ∷ []) (from + length (spell h.shape)) h.after h.onward
          (rest-are h.shape h.others h.splits);
    }
      where
        rest-are : (t : Shape) (g : Forest) → f ≡ grown t g → AreTrees abi xs g
        rest-are t g same = (subst (AreTrees abi (x ∷ xs)) same are).1

-- ## Productions

-- a production that was read: its parts, what its value is made of, and its bytes
pub record Ended (p : Production) (around : Around) (at : ℕ) (old : State) (v : Value) (new : State) (bytes : ℕ) : Type 0 where
  pub byte : ℕ
  pub inner : Found (List Value) State
  pub others : ℕ
  pub sum : bytes ≡ cond (is_chain p) 0 1 + others
  pub paid : Paid p around at inner (parts_of p) others [] old
  pub closes : close p byte around at old inner.value inner.state ≡ Ok (found v new)

-- a property of the production's meaning and the state after it holds of the value and the state that were read
pub comes-to : {p : Production} {around : Around} {at : ℕ} {old : State} {v : Value} {new : State} {bytes : ℕ} (P : Value → State → Type 0)
    (o : Ended p around at old v new bytes) (vs : List Value) (s : State) (m : Value) (t : State) → found vs s ≡ o.inner
    → close p o.byte around at old vs s ≡ Ok (found m t) → P m t → P v new
comes-to {p} {around} {at} {old} {v} {new} P o vs s m t same means one =
    subst (λ r. P (Found.value r) (Found.state r))
    (ok_same (found m t) (found v new) (sym means ∙ ap (λ i. close p o.byte around at old i.value i.state) same ∙ o.closes)) one

taken-long : (chains : Bool) (byte : ℕ) (taken : List ℕ) → taken ≡ cond (not chains) (byte ∷ []) [] → length taken ≡ cond chains 0 1
taken-long true byte taken e = ap length e
taken-long false byte taken e = ap length e

first-found : Found (List Value) State → Value → Value
first-found r d = go r.value
  where
    go : List Value → Value
    go [] = d
    go (w ∷ ws) = w

one-found : (v : Value) (new : State) (one : Found Value State) → found (one.value ∷ []) one.state ≡ found (v ∷ []) new → one ≡ found v new
unfolding first-found
one-found v new one e =
    let same : one.value ≡ v = ap (λ r. first-found r v) e in
    let ends : one.state ≡ new = ap (λ r. r.state) e in
    ap (λ w. found w one.state) same ∙ ap (λ s. found v s) ends

-- a branch of a kind is one of the kind's productions, with the bytes that it spells
pub ended-of : (kind : Kind) (rule : Rule) (taken : List ℕ) (parts : Forest) → AllOf ShapeGains parts → (around : Around) (at : ℕ) (state : State)
    (v : Value) (new : State) → IsTree abi (OfKind (number_of_kind kind)) (branch rule taken parts)
    → unfold_tree cpp around at (branch rule taken parts) state ≡ Ok (found (v ∷ []) new)
    → OneOf (alternatives kind) (λ p. Ended p around at state v new (length (spell (branch rule taken parts))))
unfolding cpp rule_taken is_chain rule_of choose
ended-of kind rule taken parts all around at state v new is e =
    go (choose kind is.0.byte) refl (sym (rule_at_kind (number_of_kind kind) kind is.0.byte (kind-at kind)) ∙ is.0.found)
  where
    long : ℕ
    long = length (spell (branch rule taken parts))

    whole : (p : Production) → choose kind is.0.byte ≡ Some p → rule_of p ≡ rule → Ended p around at state v new long
    whole p chosen same =
        let number : production_at rule.number ≡ p = ap (λ x. production_at x.number) (sym same) ∙ at_number p in
        let trees = subst (λ xs. AreTrees abi xs parts) (ap symbols_of (sym same) ∙ its_symbols p) is.1 in
        let standing_ = standing rule taken at around state in
        let moved : (opening p parts at state >>= λ begun. unfold_forest cpp standing_ [] (at + length taken) parts begun >>= λ inner.
        close p (byte_of taken) around at state inner.value inner.state >>= alone) ≡ Ok (found (v ∷ []) new) =
        ap (λ q. opening q parts at state >>= λ begun. unfold_forest cpp standing_ [] (at + length taken) parts begun >>= λ inner.
        close q (byte_of taken) around at state inner.value inner.state >>= alone) (sym number) ∙ e in
        let b = behind_bind (opening p parts at state) (λ begun. unfold_forest cpp standing_ [] (at + length taken) parts begun >>= λ inner.
        close p (byte_of taken) around at state inner.value inner.state >>= alone) (found (v ∷ []) new) moved in
        let kept = opening_keeps p parts at state b.value b.is in
        let c = behind_bind (unfold_forest cpp standing_ [] (at + length taken) parts b.value) (λ inner.
        close p (byte_of taken) around at state inner.value inner.state >>= alone) (found (v ∷ []) new) b.next in
        let d = behind_bind (close p (byte_of taken) around at state c.value.value c.value.state) alone (found (v ∷ []) new) c.next in
        let goes = parts-go ShapeGains p rule taken around at state number c.value parts (parts_of p) all trees [] (at + length taken) state
        (ap (λ s. unfold_forest cpp standing_ [] (at + length taken) parts s) (sym kept) ∙ c.is) in
        let took : taken ≡ cond (not (is_chain p)) (is.0.byte ∷ []) [] = is.0.takes ∙ ap (λ x. cond x.eats (is.0.byte ∷ []) []) (sym same) in
        record {
          byte = byte_of taken;
          inner = c.value;
          others = length (spell_all parts);
          sum = length-append taken (spell_all parts) ∙ ap (λ k. k + length (spell_all parts)) (taken-long (is_chain p) is.0.byte taken took);
          paid = parts-paid p around at c.value (parts_of p) parts [] (at + length taken) state goes trees;
          closes = d.is ∙ ap (λ o. Ok o) (one-found v new d.value (ok_same (found (d.value.value ∷ []) d.value.state) (found (v ∷ []) new) d.next));
        }

    go : (o : Option Production) → choose kind is.0.byte ≡ o → rule_taken o ≡ Some rule
        → OneOf (alternatives kind) (λ p. Ended p around at state v new long)
    go None none h = let clash : ◌≡◌ {A = Option Rule} None (Some rule) = h in absurd cc
    go (Some p) chosen h =
        picked-one (alternatives kind) is.0.byte p (λ q. Ended q around at state v new long) (whole p chosen (same_rule p rule h)) chosen
