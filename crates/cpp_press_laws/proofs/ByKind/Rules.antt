-- The shape of what was read, step by step: the production that a byte chooses, and its parts one by one.
use Rattle.cpp_press_laws.proofs.Basics.{◌≡◌, ℕ, ◌+◌, ◌<◌, ◌⊎◌, inl, inr, length, List, [], ◌∷◌, ◌++◌, Bool, true, false, not, cond, slice_get, Option, Some, None, Result, Ok, Err, refl, ap, sym, subst, ◌∙◌, nat_eq, eq-eqb, Refusal, Rule, Sym, Found, Next, ◌>>=◌, Kind, Production, Alternative, is_in, pick, alternatives, choose, kinds, number_of_kind, number_of, parts_of, is_chain, abi, rule_of, rule_taken, State, Around, Value, Continuation, between, opening, close, production_at, byte_of, cpp, rule_at_kind, ok_same, behind_bind, at_number, its_symbols, same_rule, opening_keeps}
use Rattle.sym_shape.specs.declared.rule.Sym.TheVariants.{Kind as OfKind}
use Rattle.sym_shape.specs.Table.{Token, symbols_of}
use Rattle.sym_shape.specs.Tree.{Tree as Shape, Forest, branch, empty, token, fixed, nothing, grown, spell, IsTree, AreTrees}
use Rattle.sym_link.specs.Unfold.{found, alone, standing, unfold_tree, unfold_forest}

-- ## Kinds

pub kind-at : (kind : Kind) → slice_get kinds (number_of_kind kind) ≡ Some kind
unfolding kinds number_of_kind
kind-at Kind.Symbol = refl
kind-at _ = refl

-- ## Parts

-- P holds of each shape of a forest
abbrev pub AllOf : (P : Shape → Type 0) → Forest → Type 0
AllOf P nothing = Unit {0}
AllOf P (grown t f) = P t × AllOf P f

-- the first part of a forest, which was unfolded in its surroundings, and what follows after its value
pub record PartGoes (P : Shape → Type 0) (x : Sym) (f : Forest) (from : ℕ) (next : Next Value State Around)
    (rest : Forest → List Value → ℕ → State → Type 0) : Type 0 where
  pub shape : Shape
  pub others : Forest
  pub splits : f ≡ grown shape others
  pub holds : P shape
  pub is : IsTree abi x shape
  pub value : Value
  pub after : State
  pub unfolds : unfold_tree cpp next.context from shape next.state ≡ Ok (found (value ∷ []) after)
  pub onward : rest others (next.values ++ value ∷ []) (from + length (spell shape)) after

abbrev pub OnGoing : Continuation → (Next Value State Around → Type 0) → Type 0
OnGoing (Ok next) G = G next
OnGoing (Err e) G = ⊥

-- the parts of a production that begins at a place, after parts with these values
abbrev pub PartsGo : (P : Shape → Type 0) → Production → Around → (place : ℕ) → Found (List Value) State → List Sym → Forest → List Value
    → (from : ℕ) → State → Type 0
PartsGo P p around place inner [] f vs from state = found vs state ≡ inner
PartsGo P p around place inner (x ∷ xs) f vs from state =
    OnGoing (between p around place vs state) (λ next. PartGoes P x f from next (PartsGo P p around place inner xs))

-- a shape has one value
pub record OneValue (r : Found (List Value) State) : Type 0 where
  pub value : Value
  pub is : r ≡ found (value ∷ []) r.state

one-same : (v : Value) (s : State) (r : Found (List Value) State) → found (v ∷ []) s ≡ r → OneValue r
one-same v s r e = subst OneValue e (record { value = v; is = refl })

pub one-value : (t : Shape) (around : Around) (at : ℕ) (state : State) (r : Found (List Value) State) → unfold_tree cpp around at t state ≡ Ok r
    → OneValue r
unfolding cpp
one-value (branch rule taken parts) around at state r e =
    let whole = standing rule taken at around state in
    let p = production_at rule.number in
    let b = behind_bind (opening p parts at state)
    (λ begun. unfold_forest cpp whole [] (at + length taken) parts begun >>= λ inner. close p (byte_of taken) around at state inner.value
    inner.state >>= alone) r e in
    let c = behind_bind (unfold_forest cpp whole [] (at + length taken) parts b.value)
    (λ inner. close p (byte_of taken) around at state inner.value inner.state >>= alone) r b.next in
    let d = behind_bind (close p (byte_of taken) around at state c.value.value c.value.state) alone r c.next in
    one-same d.value.value d.value.state r (ok_same (found (d.value.value ∷ []) d.value.state) r d.next)
one-value empty around at state r e = one-same _ state r (ok_same _ r e)
one-value (token t) around at state r e = one-same _ state r (ok_same _ r e)
one-value (fixed byte) around at state r e = one-same _ state r (ok_same _ r e)

pub parts-go : (P : Shape → Type 0) (p : Production) (rule : Rule) (taken : List ℕ) (around : Around) (place : ℕ) (before : State)
    → production_at rule.number ≡ p
    → (inner : Found (List Value) State) (f : Forest) (xs : List Sym) → AllOf P f → AreTrees abi xs f → (vs : List Value) (from : ℕ) (state : State)
    → unfold_forest cpp (standing rule taken place around before) vs from f state ≡ Ok inner → PartsGo P p around place inner xs f vs from state
unfolding cpp
parts-go P p rule taken around place before number inner nothing [] all trees vs from state e = ok_same (found vs state) inner e
parts-go P p rule taken around place before number inner nothing (x ∷ xs) all trees vs from state e = absurd trees
parts-go P p rule taken around place before number inner (grown t f) [] all trees vs from state e = absurd trees
parts-go P p rule taken around place before number inner (grown t f) (x ∷ xs) all trees vs from state e =
    go (between p around place vs state) (ap (λ q. between q around place vs state >>= onward) (sym number) ∙ e)
    (λ ws later s. parts-go P p rule taken around place before number inner f xs all.1 trees.1 ws later s)
  where
    onward : Next Value State Around → Result (Found (List Value) State) Refusal
    onward next = unfold_tree cpp next.context from t next.state >>= λ part.
        unfold_forest cpp (standing rule taken place around before) (next.values ++ part.value) (from + length (spell t)) f part.state

    rest : Forest → List Value → ℕ → State → Type 0
    rest = PartsGo P p around place inner xs

    go : (g : Continuation) → (g >>= onward) ≡ Ok inner
        → ((ws : List Value) (later : ℕ) (s : State) → unfold_forest cpp (standing rule taken place around before) ws later f s ≡ Ok inner
        → PartsGo P p around place inner xs f ws later s)
        → OnGoing g (λ next. PartGoes P x (grown t f) from next (PartsGo P p around place inner xs))
    go (Err d) h more = absurd cc
    go (Ok next) h more =
        let b = behind_bind (unfold_tree cpp next.context from t next.state) (λ part.
        unfold_forest cpp (standing rule taken place around before) (next.values ++ part.value) (from + length (spell t)) f part.state) inner h in
        let one = one-value t next.context from next.state b.value b.is in
        record {
          shape = t;
          others = f;
          splits = refl;
          holds = all.0;
          is = trees.0;
          value = one.value;
          after = b.value.state;
          unfolds = b.is ∙ ap (λ y. Ok y) one.is;
          onward = more (next.values ++ one.value ∷ []) (from + length (spell t)) b.value.state
              (ap (λ y. unfold_forest cpp (standing rule taken place around before) (next.values ++ y.value) (from + length (spell t)) f
              b.value.state)
              (sym one.is) ∙ b.next);
        }

-- ## Productions

-- a branch of a kind that was unfolded as a production, with the values of its parts and the value of the whole
pub record Opened (P : Shape → Type 0) (kind : Kind) (around : Around) (at : ℕ) (state : State) (r : Found (List Value) State)
    (production : Production) :
    Type 0 where
  pub byte : ℕ
  pub small : byte < 256
  pub chosen : choose kind byte ≡ Some production
  pub parts : Forest
  pub opens : opening production parts at state ≡ Ok state
  pub trees : AreTrees abi (parts_of production) parts
  pub inner : Found (List Value) State
  pub taken : List ℕ
  pub takes : taken ≡ cond (is_chain production) [] (byte ∷ [])
  pub goes : PartsGo P production around at inner (parts_of production) parts [] (at + length taken) state
  pub one : Found Value State
  pub closes : close production (byte_of taken) around at state inner.value inner.state ≡ Ok one
  pub comes : r ≡ found (one.value ∷ []) one.state

-- F holds of the production of one of these alternatives
abbrev pub OneOf : List Alternative → (F : Production → Type 0) → Type 0
OneOf [] F = ⊥
OneOf (a ∷ []) F = F a.production
OneOf (a ∷ b ∷ rest) F = F a.production ⊎ OneOf (b ∷ rest) F

pub picked-one : (all : List Alternative) (byte : ℕ) (p : Production) (F : Production → Type 0) → F p → pick all byte ≡ Some p → OneOf all F
unfolding pick
picked-one [] byte p F f e = absurd cc
picked-one (a ∷ rest) byte p F f e = go (is_in a byte) e (picked-one rest byte p F f)
  where
    first : (rest : List Alternative) → F a.production → OneOf (a ∷ rest) F
    first [] one = one
    first (c ∷ others) one = inl one

    later : (rest : List Alternative) → OneOf rest F → OneOf (a ∷ rest) F
    later [] one = absurd one
    later (c ∷ others) one = inr one

    go : (b : Bool) → cond b (Some a.production) (pick rest byte) ≡ Some p → (pick rest byte ≡ Some p → OneOf rest F) → OneOf (a ∷ rest) F
    go true h more = let same : p ≡ a.production = cc in first rest (subst F same f)
    go false h more = later rest (more h)

abbrev pub IsOr : Bool → (Later : Type 0) → Type 0
IsOr true Later = Unit {0}
IsOr false Later = Later

-- a production is the production of one of these alternatives
abbrev pub IsAmong : List Alternative → Production → Type 0
IsAmong [] p = ⊥
IsAmong (a ∷ rest) p = IsOr (nat_eq (number_of a.production) (number_of p)) (IsAmong rest p)

-- F holds of one of these productions, which is given by name, so that clauses don't depend on its place among them
abbrev pub OneAmong : List Alternative → (F : Production → Type 0) → Type 0
OneAmong all F = (p : Production) × IsAmong all p × F p

is-first : (b : Bool) (Later : Type 0) → b ≡ true → IsOr b Later
is-first true Later same = tt
is-first false Later same = absurd cc

is-later : (b : Bool) (Later : Type 0) → Later → IsOr b Later
is-later true Later one = tt
is-later false Later one = one

pub by-name : (all : List Alternative) (F : Production → Type 0) → OneOf all F → OneAmong all F
by-name [] F one = absurd one
by-name (a ∷ []) F one =
    (a.production, is-first (nat_eq (number_of a.production) (number_of a.production)) ⊥ (eq-eqb _ _ refl), one)
by-name (a ∷ b ∷ rest) F (inl one) =
    (a.production, is-first (nat_eq (number_of a.production) (number_of a.production)) (IsAmong (b ∷ rest) a.production) (eq-eqb _ _ refl), one)
by-name (a ∷ b ∷ rest) F (inr one) =
    let r = by-name (b ∷ rest) F one in
    (r.0, is-later (nat_eq (number_of a.production) (number_of r.0)) (IsAmong (b ∷ rest) r.0) r.1, r.2)

taken-as : (chains : Bool) (byte : ℕ) (taken : List ℕ) → taken ≡ cond (not chains) (byte ∷ []) [] → taken ≡ cond chains [] (byte ∷ [])
taken-as true byte taken e = e
taken-as false byte taken e = e

-- a branch of a kind is one of the kind's productions
pub opened : (P : Shape → Type 0) (kind : Kind) (rule : Rule) (taken : List ℕ) (parts : Forest) → AllOf P parts → (around : Around) (at : ℕ)
    (state : State) (r : Found (List Value) State) → IsTree abi (OfKind (number_of_kind kind)) (branch rule taken parts)
    → unfold_tree cpp around at (branch rule taken parts) state ≡ Ok r → OneOf (alternatives kind) (Opened P kind around at state r)
unfolding cpp rule_taken is_chain rule_of choose
opened P kind rule taken parts all around at state r is e =
    go (choose kind is.0.byte) refl (sym (rule_at_kind (number_of_kind kind) kind is.0.byte (kind-at kind)) ∙ is.0.found)
  where
    whole : (p : Production) → choose kind is.0.byte ≡ Some p → rule_of p ≡ rule → Opened P kind around at state r p
    whole p chosen same =
        let number : production_at rule.number ≡ p = ap (λ x. production_at x.number) (sym same) ∙ at_number p in
        let trees = subst (λ xs. AreTrees abi xs parts) (ap symbols_of (sym same) ∙ its_symbols p) is.1 in
        let standing_ = standing rule taken at around state in
        let moved : (opening p parts at state >>= λ begun. unfold_forest cpp standing_ [] (at + length taken) parts begun >>= λ inner.
        close p (byte_of taken) around at state inner.value inner.state >>= alone) ≡ Ok r =
        ap (λ q. opening q parts at state >>= λ begun. unfold_forest cpp standing_ [] (at + length taken) parts begun >>= λ inner.
        close q (byte_of taken) around at state inner.value inner.state >>= alone) (sym number) ∙ e in
        let b = behind_bind (opening p parts at state) (λ begun. unfold_forest cpp standing_ [] (at + length taken) parts begun >>= λ inner.
        close p (byte_of taken) around at state inner.value inner.state >>= alone) r moved in
        let kept = opening_keeps p parts at state b.value b.is in
        let c = behind_bind (unfold_forest cpp standing_ [] (at + length taken) parts b.value) (λ inner.
        close p (byte_of taken) around at state inner.value inner.state >>= alone) r b.next in
        let d = behind_bind (close p (byte_of taken) around at state c.value.value c.value.state) alone r c.next in
        record {
          byte = is.0.byte;
          small = is.0.is_byte;
          chosen = chosen;
          parts = parts;
          opens = b.is ∙ ap (λ s. Ok s) kept;
          trees = trees;
          inner = c.value;
          taken = taken;
          takes = taken-as (is_chain p) is.0.byte taken (is.0.takes ∙ ap (λ x. cond x.eats (is.0.byte ∷ []) []) (sym same));
          goes = parts-go P p rule taken around at state number c.value parts (parts_of p) all trees [] (at + length taken) state
              (ap (λ s. unfold_forest cpp standing_ [] (at + length taken) parts s) (sym kept) ∙ c.is);
          one = d.value;
          closes = d.is;
          comes = sym (ok_same (found (d.value.value ∷ []) d.value.state) r d.next);
        }

    go : (o : Option Production) → choose kind is.0.byte ≡ o → rule_taken o ≡ Some rule
        → OneOf (alternatives kind) (Opened P kind around at state r)
    go None none h = let clash : ◌≡◌ {A = Option Rule} None (Some rule) = h in absurd cc
    go (Some p) chosen h = picked-one (alternatives kind) is.0.byte p (Opened P kind around at state r) (whole p chosen (same_rule p rule h)) chosen

-- ## All shapes

mutual
  -- a fact holds of each shape, if it holds of a shape whenever it holds of the shape's parts
  pub every-shape : (P : Shape → Type 0) → ((rule : Rule) (taken : List ℕ) (parts : Forest) → AllOf P parts → P (branch rule taken parts))
      → P empty → ((t : Token) → P (token t)) → ((b : ℕ) → P (fixed b)) → (t : Shape) → P t
  every-shape P step none own byte (branch rule taken parts) = step rule taken parts (every-part P step none own byte parts)
  every-shape P step none own byte empty = none
  every-shape P step none own byte (token t) = own t
  every-shape P step none own byte (fixed b) = byte b

  every-part : (P : Shape → Type 0) → ((rule : Rule) (taken : List ℕ) (parts : Forest) → AllOf P parts → P (branch rule taken parts))
      → P empty → ((t : Token) → P (token t)) → ((b : ℕ) → P (fixed b)) → (f : Forest) → AllOf P f
  every-part P step none own byte nothing = tt
  every-part P step none own byte (grown t f) = (every-shape P step none own byte t, every-part P step none own byte f)

-- a fact of all shapes holds of each shape of a forest
pub all-of : (P : Shape → Type 0) → ((t : Shape) → P t) → (f : Forest) → AllOf P f
all-of P holds nothing = tt
all-of P holds (grown t f) = (holds t, all-of P holds f)
