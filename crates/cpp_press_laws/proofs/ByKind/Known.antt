-- What is known of the value of each kind, and how this follows for a production from what is known of its parts.
use Rattle.cpp_press_laws.proofs.Basics.{◌≡◌, ℕ, ◌+◌, ◌<◌, ◌≤◌, ◌⊎◌, inl, inr, length, List, [], ◌∷◌, ◌++◌, Bool, true, false, cond, Some, Ok, Err, refl, ap, sym, subst, ◌∙◌, arith, ◌&&◌, ◌||◌, nat_lt, true≢false, and_parts, nat_tests, AreDigitsOf, Rule, Sym, IsSymbol, AreSymbols, Tree as Shape, Forest, branch, grown, spell, IsTree, AreTrees, Found, Next, found, unfold_tree, Kind, Production, Operation, KIND_COUNT, Alternative, alternatives, choose, number_of_kind, parts_of, is_chain, abi, Term, Thunk, special, thunk, of_name, literal_operator, with_prefix, after, Continuation, between, discriminator_of, cpp, opening, close, byte_of, AllGood, all_append, GoodPrefix, held, good_where, Bare, Within, AllOld, old_later, old_grows, ok_same, StaysInside, Goes, goes_within, same_choice, each_below, below as below_, kept, is_encoding, in_type, in_name_with, any_type, names_type, begins_name, names_function, IsSpellableOffset, IsSpellableThunk, IsSpellableDiscriminator, IsSpellableSuffix, IsAbiMark, IsSpellableName, IsSpellableNumber, AreSuffixBytes}
use Rattle.sym_shape.specs.declared.rule.Sym.TheVariants.{Kind as OfKind, Name, Number, Byte}
use Rattle.cpp_grammar.specs.Values.{State, outermost, behind, Around, Value, nothing_there, letter, text, tree, piece, tree_of, piece_of, qualifiers_of, ref_of, letter_of, text_of, signed_of, adjustment_of, mark_of}
use Rattle.cpp_grammar.proofs.ClosedTrees.{is_encoding as holds_encoding, has_encoding, old_fits, grows_fits, one_good, or_true}
use Rattle.cpp_press_laws.proofs.ByKind.AbiTrees.{known, tree_good}
use Rattle.cpp_press_laws.proofs.ByKind.Leaves.{name-read}
use Rattle.cpp_press_laws.proofs.ByKind.LeafKinds.{byte-read, number-read}
use Rattle.cpp_press_laws.proofs.ByKind.Steps.{lambdas-go}
use Rattle.cpp_press_laws.proofs.ByKind.Rules.{AllOf, OneOf, OneAmong, by-name, picked-one, Opened, opened, OnGoing, PartGoes, PartsGo}
use Rattle.cpp_press_laws.proofs.Fits.Read.{Wherever}
use Rattle.cpp_press_laws.proofs.Fits.Types.{TypeFits}
use Rattle.cpp_press_laws.proofs.Fits.Names.{PrefixFits, PieceFits}
use Rattle.cpp_press_laws.proofs.Fits.Nests.{NestFits, OwnNameFits, EntityFits}
use Rattle.cpp_press_laws.proofs.Fits.Firsts.{BeginsName}
use Rattle.cpp_press_laws.proofs.Fits.Rests.{NestRead, SoFarFits}
use Rattle.cpp_press_laws.proofs.Fits.Symbols.{WholeFits}
use Rattle.cpp_press_laws.proofs.Fits.Solids.{LambdasAreBare}
use Rattle.cpp_press_laws.proofs.Fits.Sorts.{KindFits, Meant, Later}
use Rattle.cpp_press_laws.proofs.Fits.Places.{Placed}

-- ## Values by their kinds

-- a letter that the kind allows
abbrev pub MarkRead : Kind → Value → (old new : State) → Type 0
MarkRead kind v old new =
    (new ≡ old) × (v ≡ letter (letter_of v)) × (letter_of v < 256) × (choose kind (letter_of v) ≡ Some Production.Mark)

-- after an l: a letter, or the name of a literal operator
abbrev pub LiteralOperatorRead : Value → (old new : State) → Type 0
LiteralOperatorRead v old new =
    MarkRead Kind.OperatorAfterL v old new
    ⊎ ((name : List ℕ) × (new ≡ old) × (v ≡ piece (literal_operator name)) × IsSpellableName name)

-- an encoding
pub record EncodingRead (around : Around) (v : Value) (old new : State) : Type 0 where
  pub is : is_encoding (tree_of v) ≡ true
  pub value : v ≡ tree (tree_of v) true
  pub fits : WholeFits around (tree_of v) old new

-- an encoding after a T, without the T
abbrev pub SpecialRead : Around → Value → (old new : State) → Type 0
SpecialRead around v old new =
    ((l : ℕ) × (type : Term) × (v ≡ tree (special l type) true) × (l < 256) × (choose Kind.Special l ≡ Some Production.SpecialType)
    × TypeFits around any_type type old new)
    ⊎ ((adjusts : Thunk) × (e : Term) × (v ≡ tree (thunk adjusts e) true) × IsSpellableThunk adjusts × WholeFits around e old new)

-- an encoding's own name
abbrev pub OwnNameRead : Around → Value → (old new : State) → Type 0
OwnNameRead around v old new = OwnNameFits around (tree_of v) (qualifiers_of v) (ref_of v) old new × IsAbiMark (ref_of v)

-- a guard variable, without the G
abbrev pub GuardRead : Around → Value → (old new : State) → Type 0
GuardRead around v old new =
    (name : Value) × (v ≡ tree (of_name 86 (tree_of name) (qualifiers_of name) (ref_of name)) true) × OwnNameRead around name old new

-- What is known of the value of each kind. Types and lists begin where no name has begun. Each further piece of a name
-- comes after the name so far, which began at `start`.
abbrev pub KindRead : Kind → Around → Value → (old new : State) → Type 0
KindRead Kind.Symbol around v old new = Unit {0}
KindRead Kind.MaybeSuffix around v old new = (new ≡ old) × IsSpellableSuffix (text_of v)
KindRead Kind.SuffixFirst around v old new = (new ≡ old) × IsSpellableSuffix (46 ∷ text_of v)
KindRead Kind.SuffixMore around v old new = (new ≡ old) × AreSuffixBytes (text_of v)
KindRead Kind.Encoding around v old new = EncodingRead around v old new
KindRead Kind.Special around v old new = around.prefix ≡ outermost → SpecialRead around v old new
KindRead Kind.SpecialMark around v old new = new ≡ old
KindRead Kind.SpecialAfterG around v old new = around.prefix ≡ outermost → GuardRead around v old new
KindRead Kind.CallOffset around v old new = (new ≡ old) × IsSpellableOffset (adjustment_of v)
KindRead Kind.Integer around v old new = (new ≡ old) × IsSpellableNumber (signed_of v)
KindRead Kind.CompleteName around v old new = around.prefix ≡ outermost → OwnNameRead around v old new
KindRead Kind.NameAfterS around v old new = around.prefix ≡ outermost → OwnNameRead around v old new
KindRead Kind.MaybeRestrict around v old new = new ≡ old
KindRead Kind.MaybeVolatile around v old new = new ≡ old
KindRead Kind.MaybeConst around v old new = new ≡ old
KindRead Kind.MaybeRef around v old new = (new ≡ old) × IsAbiMark (mark_of v)
KindRead Kind.Unqualified around v old new = (names_function (piece_of v) ≡ true) × PieceFits around (piece_of v) old new
KindRead Kind.Nest around v old new = BeginsName around → NestRead around v old new
KindRead Kind.NestAfterS around v old new = BeginsName around → NestRead around v old new
KindRead Kind.NestRest around v old new =
    (outer : Around) (t : Term) (listed : Bool) (start : State) → around ≡ after t listed outer → SoFarFits outer t listed start old
    → NestRead outer v start new
KindRead Kind.NestRestAlone around v old new =
    (outer : Around) (t : Term) (listed : Bool) (start : State) → around ≡ after t listed outer → SoFarFits outer t listed start old
    → NestRead outer v start new
KindRead Kind.NestTail around v old new =
    (outer : Around) (t : Term) (start : State) → around ≡ after t false outer → NestFits outer t start old → NestRead outer v start new
KindRead Kind.NestRestOrEnd around v old new =
    (outer : Around) (t : Term) (listed : Bool) (start : State) → around ≡ after t listed outer → SoFarFits outer t listed start old
    → NestRead outer v start new
KindRead Kind.NestMoreOrEnd around v old new =
    (outer : Around) (t : Term) (start : State) → around ≡ after t false outer → Wherever outer start (is_encoding t ≡ false)
    → PrefixFits outer t start (with_prefix (after t false outer) old) → NestRead outer v start new
KindRead Kind.Component around v old new =
    (outer : Around) (t : Term) (listed : Bool) (start : State) → around ≡ after t listed outer → Wherever outer start (is_encoding t ≡ false)
    → PrefixFits outer t start old → NestRead outer v start new
KindRead Kind.ComponentAfterC around v old new =
    (outer : Around) (t : Term) (listed : Bool) (start : State) → around ≡ after t listed outer → Wherever outer start (is_encoding t ≡ false)
    → PrefixFits outer t start old → NestRead outer v start new
KindRead Kind.ConstructorAfterC around v old new =
    (outer : Around) (t : Term) (listed : Bool) (start : State) → around ≡ after t listed outer → Wherever outer start (is_encoding t ≡ false)
    → PrefixFits outer t start old → NestRead outer v start new
KindRead Kind.ConstructorDigit around v old new = MarkRead Kind.ConstructorDigit v old new
KindRead Kind.ComponentAfterD around v old new = MarkRead Kind.ComponentAfterD v old new
KindRead Kind.Abbreviation around v old new = KindFits Kind.Abbreviation around v old new
KindRead Kind.Entity around v old new =
    (e : Term) → is_encoding e ≡ true → around.prefix ≡ behind e true
    → EntityFits around (tree_of v) (in_name_with (qualifiers_of v) (ref_of v)) old new × IsAbiMark (ref_of v)
KindRead Kind.TypeEntity around v old new =
    (e : Term) → is_encoding e ≡ true → around.prefix ≡ behind e true → EntityFits around (tree_of v) in_type old new
KindRead Kind.MaybeDiscriminator around v old new = (new ≡ old) × IsSpellableDiscriminator (discriminator_of v)
KindRead Kind.DiscriminatorRest around v old new = (new ≡ old) × IsSpellableDiscriminator (discriminator_of v)
KindRead Kind.Anonymous around v old new =
    (names_type (piece_of v) ≡ true) × (begins_name (piece_of v) ≡ true) × PieceFits around (piece_of v) old new
KindRead Kind.MaybeCLinkage around v old new = new ≡ old
KindRead Kind.SourceOrLocal around v old new = (begins_name (piece_of v) ≡ true) × PieceFits around (piece_of v) old new
KindRead Kind.MaybeArguments around v old new = KindFits Kind.MaybeArguments around v old new
KindRead Kind.ArgumentsAlone around v old new = KindFits Kind.MaybeArguments around v old new
KindRead Kind.ArgumentsFirst around v old new = around.prefix ≡ outermost → KindFits Kind.ArgumentList around v old new
KindRead Kind.Arguments around v old new = (v ≡ tree (tree_of v) true) × KindFits Kind.Arguments around v old new
KindRead Kind.MaybeTags around v old new = (v ≡ nothing_there) × (new ≡ old)
KindRead Kind.VendorArguments around v old new = (v ≡ nothing_there) × (new ≡ old)
KindRead Kind.Bit around v old new = new ≡ old
KindRead Kind.MaybeZero around v old new = new ≡ old
KindRead Kind.Operator around v old new = (names_function (piece_of v) ≡ true) × PieceFits around (piece_of v) old new
KindRead Kind.OtherOperator around v old new = (names_function (piece_of v) ≡ true) × PieceFits around (piece_of v) old new
KindRead Kind.OperatorAfterL around v old new = LiteralOperatorRead v old new
KindRead Kind.OperatorAfterN around v old new = MarkRead Kind.OperatorAfterN v old new
KindRead Kind.OperatorAfterD around v old new = MarkRead Kind.OperatorAfterD v old new
KindRead Kind.OperatorAfterA around v old new = MarkRead Kind.OperatorAfterA v old new
KindRead Kind.OperatorAfterP around v old new = MarkRead Kind.OperatorAfterP v old new
KindRead Kind.OperatorAfterC around v old new = MarkRead Kind.OperatorAfterC v old new
KindRead Kind.OperatorAfterM around v old new = MarkRead Kind.OperatorAfterM v old new
KindRead Kind.OperatorAfterR around v old new = MarkRead Kind.OperatorAfterR v old new
KindRead Kind.OperatorAfterO around v old new = MarkRead Kind.OperatorAfterO v old new
KindRead Kind.OperatorAfterE around v old new = MarkRead Kind.OperatorAfterE v old new
KindRead Kind.OperatorAfterS around v old new = MarkRead Kind.OperatorAfterS v old new
KindRead Kind.OperatorAfterI around v old new = MarkRead Kind.OperatorAfterI v old new
KindRead Kind.OperatorAfterG around v old new = MarkRead Kind.OperatorAfterG v old new
KindRead kind around v old new = around.prefix ≡ outermost → KindFits kind around v old new

-- ## Shapes by their kinds

-- what is known before a part
pub record InFront (x : Sym) (around : Around) (at : ℕ) (state : State) : Type 0 where
  pub placed : Placed around at state
  pub opening : holds_encoding x ≡ true → around.encoding < at
  pub prefix : GoodPrefix (Bare false around) around.prefix

-- what is known of a shape, whatever kind it is read as
abbrev pub ShapeRead : Shape → Type 0
ShapeRead t =
    (kind : Kind) (around : Around) (at : ℕ) (state : State) (v : Value) (new : State)
    → InFront (OfKind (number_of_kind kind)) around at state → IsTree abi (OfKind (number_of_kind kind)) t
    → unfold_tree cpp around at t state ≡ Ok (found (v ∷ []) new) → KindRead kind around v state new

-- what is known of a part, by its symbol
abbrev pub SymbolRead : Sym → Around → Value → (old new : State) → Type 0
SymbolRead (OfKind k) around v old new = (kind : Kind) → number_of_kind kind ≡ k → KindRead kind around v old new
SymbolRead Name around v old new = (new ≡ old) × (v ≡ text (text_of v)) × IsSpellableName (text_of v)
SymbolRead (Number kind) around v old new = (new ≡ old) × (v ≡ text (text_of v)) × AreDigitsOf kind (text_of v)
SymbolRead (Byte b) around v old new = (new ≡ old) × (v ≡ nothing_there)

-- a fact that holds unless the step was refused
abbrev pub Unless : Continuation → (Next Value State Around → Type 0) → Type 0
Unless (Ok next) G = G next
Unless (Err e) G = Unit {0}

-- a part was read in its surroundings, and the rest was read after its value
pub record PartRead (x : Sym) (f : Forest) (from : ℕ) (next : Next Value State Around) (rest : Forest → List Value → ℕ → State → Type 0) :
    Type 0 where
  pub shape : Shape
  pub others : Forest
  pub splits : f ≡ grown shape others
  pub is : IsTree abi x shape
  pub front : InFront x next.context from next.state
  pub value : Value
  pub after : State
  pub unfolds : unfold_tree cpp next.context from shape next.state ≡ Ok (found (value ∷ []) after)
  pub read : SymbolRead x next.context value next.state after
  pub onward : rest others (next.values ++ value ∷ []) (from + length (spell shape)) after

-- the other parts of a production that begins at `place` were read after parts with the values `vs`; the production's
-- value and the state after it are the given ones
abbrev pub PartsRead : Production → (byte : ℕ) → Around → (place : ℕ) → (old : State) → Value → (new : State) → List Sym → Forest
    → List Value → (from : ℕ) → State → Type 0
PartsRead p byte around place old v new [] f vs from state = close p byte around place old vs state ≡ Ok (found v new)
PartsRead p byte around place old v new (x ∷ xs) f vs from state =
    OnGoing (between p around place vs state) (λ next. PartRead x f from next (PartsRead p byte around place old v new xs))

-- a branch of a kind was read as a production that begins no encoding
pub record OpenedRead (kind : Kind) (around : Around) (at : ℕ) (old : State) (v : Value) (new : State) (production : Production) :
    Type 0 where
  pub byte : ℕ
  pub small : byte < 256
  pub chosen : choose kind byte ≡ Some production
  pub parts : Forest
  pub opens : opening production parts at old ≡ Ok old
  pub trees : AreTrees abi (parts_of production) parts
  pub taken : List ℕ
  pub takes : taken ≡ cond (is_chain production) [] (byte ∷ [])
  pub goes : StaysInside production
      → PartsRead production (byte_of taken) around at old v new (parts_of production) parts [] (at + length taken) old

-- ## Symbols

unfoldable is_small : Sym → Bool
is_small (OfKind k) = nat_lt k KIND_COUNT
is_small (Byte c) = nat_lt c 256
is_small _ = true

unfoldable are_small : List Sym → Bool
are_small [] = true
are_small (x ∷ xs) = is_small x && are_small xs

parts-small : (p : Production) → are_small (parts_of p) ≡ true
unfolding are_small is_small parts_of number_of_kind
parts-small Production.Mark = refl
parts-small (Production.Operation Operation.ExpressionC) = refl
parts-small _ = refl

below : (a b : ℕ) → nat_lt a b ≡ true → a < b
below a b h = grind (arith, nat_tests)

small-symbol : (x : Sym) → is_small x ≡ true → IsSymbol abi x
unfolding is_small
small-symbol (OfKind k) h = known k (below k KIND_COUNT h)
small-symbol (Byte c) h = below c 256 h
small-symbol Name h = tt
small-symbol (Number kind) h = tt

small-symbols : (xs : List Sym) → are_small xs ≡ true → AreSymbols abi xs
unfolding are_small
small-symbols [] h = tt
small-symbols (x ∷ xs) h = let both = and_parts (is_small x) (are_small xs) h in (small-symbol x both.0, small-symbols xs both.1)

-- a production without a byte of its own has no part that is an encoding
behind-a-byte : (p : Production) → is_chain p && has_encoding (parts_of p) ≡ false
unfolding is_chain parts_of has_encoding holds_encoding number_of_kind
behind-a-byte Production.Mark = refl
behind-a-byte (Production.Operation Operation.ExpressionC) = refl
behind-a-byte _ = refl

-- ## Parts

-- what is known of a part, whatever its symbol
symbol-read : (x : Sym) (t : Shape) → ShapeRead t → (around : Around) (at : ℕ) (state : State) (v : Value) (new : State)
    → InFront x around at state → IsTree abi x t → unfold_tree cpp around at t state ≡ Ok (found (v ∷ []) new)
    → SymbolRead x around v state new
symbol-read (OfKind k) t holds around at state v new front is e =
    λ kind same. holds kind around at state v new (subst (λ j. InFront (OfKind j) around at state) (sym same) front)
    (subst (λ j. IsTree abi (OfKind j) t) (sym same) is) e
symbol-read Name t holds around at state v new front is e = let r = name-read t around at state new v is e in (r.0, r.1.0, r.1.1)
symbol-read (Number kind) t holds around at state v new front is e =
    let r = number-read kind t around at state new v is e in (r.0, r.1.0, r.1.1)
symbol-read (Byte b) t holds around at state v new front is e = byte-read b t around at state new v is e

-- what is known before each part, and what is known of each part
parts-read : (p : Production) (byte : ℕ) (around : Around) (place : ℕ) (old : State) (v : Value) (new : State) → StaysInside p
    → LambdasAreBare around → GoodPrefix (Bare false around) around.prefix → (inner : Found (List Value) State)
    → close p byte around place old inner.value inner.state ≡ Ok (found v new)
    → (xs : List Sym) (f : Forest) (vs : List Value) (from : ℕ) (state : State)
    → AreSymbols abi xs → around.encoding ≤ from → (has_encoding xs ≡ true → around.encoding < from) → AllGood (Within false p around) vs
    → AllOld false around from state.candidates → PartsGo ShapeRead p around place inner xs f vs from state
    → PartsRead p byte around place old v new xs f vs from state
unfolding has_encoding
parts-read p byte around place old v new stays bare pre inner closes [] f vs from state small le opening good olds goes =
    subst (λ i. close p byte around place old i.value i.state ≡ Ok (found v new)) (sym goes) closes
parts-read p byte around place old v new stays bare pre inner closes (x ∷ xs) f vs from state small le opening good olds goes =
    go (between p around place vs state) (λ n is. (
      goes_within false p around place vs state n from stays pre good is,
      lambdas-go p around place vs state n bare is,
    )) goes
    (λ g ws later s is-later goods oldss more. parts-read p byte around place old v new stays bare pre inner closes xs g ws later s small.1
    (omega (arith, le, is-later)) (λ has. omega (arith, opening (or_true (holds_encoding x) (has_encoding xs) has), is-later)) goods oldss
    more)
  where
    or_first : (a b : Bool) → a ≡ true → a || b ≡ true
    or_first a b h = ap (λ c. c || b) h

    go : (m : Continuation)
        → ((n : Next Value State Around) → m ≡ Ok n → Goes false (Within false p around) around from state n × LambdasAreBare n.context)
        → OnGoing m (λ next. PartGoes ShapeRead x f from next (PartsGo ShapeRead p around place inner xs))
        → ((g : Forest) (ws : List Value) (later : ℕ) (s : State) → from ≤ later → AllGood (Within false p around) ws → AllOld false around later
        s.candidates
        → PartsGo ShapeRead p around place inner xs g ws later s → PartsRead p byte around place old v new xs g ws later s)
        → OnGoing m (λ next. PartRead x f from next (PartsRead p byte around place old v new xs))
    go (Err d) known_ h more = h
    go (Ok n) known_ h more =
        let g = (known_ n refl).0 in
        let later : ℕ = from + length (spell h.shape) in
        let old1 = old_grows false around from from state n.state (omega arith) olds g.grows in
        let inside_ : n.context.encoding ≤ from = omega (arith, g.fits.encoding, le) in
        let opens_ : holds_encoding x ≡ true → n.context.encoding < from =
        λ begins. omega (arith, g.fits.encoding, opening (or_first (holds_encoding x) (has_encoding xs) begins)) in
        let oldest = old_fits false around n.context from n.state.candidates g.fits old1 in
        let came =
        tree_good h.shape x n.context from n.state (found (h.value ∷ []) h.after) small.0 h.is inside_ opens_ g.fits.prefix oldest
        h.unfolds in
        let front : InFront x n.context from n.state = record {
          placed = record { lambda = (known_ n refl).1; encoding = inside_; old = oldest };
          opening = opens_;
          prefix = g.fits.prefix;
        } in
        let good1 =
        one_good (Within false p around) came.value (h.value ∷ []) came.is
        (good_where (Bare false n.context) (Within false p around) (held came.value) g.bare came.good) in
        record {
          shape = h.shape;
          others = h.others;
          splits = h.splits;
          is = h.is;
          front = front;
          value = h.value;
          after = h.after;
          unfolds = h.unfolds;
          read = symbol-read x h.shape h.holds n.context from n.state h.value h.after front h.is h.unfolds;
          onward = more h.others (n.values ++ h.value ∷ []) later h.after (omega arith)
              (all_append (Within false p around) n.values (h.value ∷ []) g.values good1)
              (old_grows false around from later n.state h.after (omega arith) old1
              (grows_fits false around n.context later n.state h.after g.fits came.grows))
              h.onward;
        }

-- ## Branches

first-found : Found (List Value) State → Value → Value
first-found r d = go r.value
  where
    go : List Value → Value
    go [] = d
    go (w ∷ ws) = w

one-value-same : (v : Value) (new : State) (one : Found Value State) → found (v ∷ []) new ≡ found (one.value ∷ []) one.state
    → one ≡ found v new
unfolding first-found
one-value-same v new one e =
    let same : v ≡ one.value = ap (λ r. first-found r v) e in
    let ends : new ≡ one.state = ap (λ r. r.state) e in
    sym (subst (λ w. found w new ≡ one) (sym same) (ap (λ s. found one.value s) ends))

empty-byte : (taken : List ℕ) (chains : Bool) (byte : ℕ) → taken ≡ cond chains [] (byte ∷ []) → chains ≡ false → 0 < length taken
empty-byte taken true byte takes is = absurd (true≢false is)
empty-byte taken false byte takes is = omega (arith, ap length takes)

-- a part that is an encoding comes after the byte of its production
behind-taken : (p : Production) (taken : List ℕ) (byte : ℕ) → taken ≡ cond (is_chain p) [] (byte ∷ []) → has_encoding (parts_of p) ≡ true
    → 0 < length taken
behind-taken p taken byte takes has = go (is_chain p) refl (behind-a-byte p)
  where
    go : (chains : Bool) → is_chain p ≡ chains → chains && has_encoding (parts_of p) ≡ false → 0 < length taken
    go true e none = absurd (true≢false (sym has ∙ none))
    go false e none = empty-byte taken (is_chain p) byte takes e

opened-as : (kind : Kind) (around : Around) (at : ℕ) (old : State) (v : Value) (new : State) (x : Sym) → InFront x around at old
    → (p : Production)
    → Opened ShapeRead kind around at old (found (v ∷ []) new) p → OpenedRead kind around at old v new p
opened-as kind around at old v new x front p o = record {
  byte = o.byte;
  small = o.small;
  chosen = o.chosen;
  parts = o.parts;
  opens = o.opens;
  trees = o.trees;
  taken = o.taken;
  takes = o.takes;
  goes = λ stays. (
      let placed = front.placed in
      let from : ℕ = at + length o.taken in
      let one : o.one ≡ found v new = one-value-same v new o.one o.comes in
      parts-read p (byte_of o.taken) around at old v new stays placed.lambda front.prefix o.inner
      (o.closes ∙ ap (λ i. Ok i) one) (parts_of p) o.parts [] from old (small-symbols (parts_of p) (parts-small p))
      (omega (arith, placed.encoding))
      (λ has. omega (arith, placed.encoding, behind-taken p o.taken o.byte o.takes has)) tt
      (old_later false around at from old.candidates (omega arith) placed.old) o.goes);
}

-- A branch of a kind was read as one of the kind's productions, part by part.
pub opened-read : (kind : Kind) (rule : Rule) (taken : List ℕ) (parts : Forest) → AllOf ShapeRead parts
    → (around : Around) (at : ℕ) (old : State)
    (v : Value) (new : State) → InFront (OfKind (number_of_kind kind)) around at old
    → IsTree abi (OfKind (number_of_kind kind)) (branch rule taken parts)
    → unfold_tree cpp around at (branch rule taken parts) old ≡ Ok (found (v ∷ []) new)
    → OneOf (alternatives kind) (OpenedRead kind around at old v new)
opened-read kind rule taken parts all around at old v new front is e =
    each (alternatives kind) (opened ShapeRead kind rule taken parts all around at old (found (v ∷ []) new) is e)
  where
    each : (some : List Alternative) → OneOf some (Opened ShapeRead kind around at old (found (v ∷ []) new))
        → OneOf some (OpenedRead kind around at old v new)
    each [] o = o
    each (a ∷ []) o = opened-as kind around at old v new (OfKind (number_of_kind kind)) front a.production o
    each (a ∷ b ∷ rest) (inl o) = inl (opened-as kind around at old v new (OfKind (number_of_kind kind)) front a.production o)
    each (a ∷ b ∷ rest) (inr o) = inr (each (b ∷ rest) o)

-- a kind was read as one of its productions, by the production's name
abbrev pub OneRead : Kind → Around → (at : ℕ) → (old : State) → Value → (new : State) → Type 0
OneRead kind around at old v new = OneAmong (alternatives kind) (OpenedRead kind around at old v new)

pub one-read : (kind : Kind) (rule : Rule) (taken : List ℕ) (parts : Forest) → AllOf ShapeRead parts
    → (around : Around) (at : ℕ) (old : State)
    (v : Value) (new : State) → InFront (OfKind (number_of_kind kind)) around at old
    → IsTree abi (OfKind (number_of_kind kind)) (branch rule taken parts)
    → unfold_tree cpp around at (branch rule taken parts) old ≡ Ok (found (v ∷ []) new) → OneRead kind around at old v new
one-read kind rule taken parts all around at old v new front is e =
    by-name (alternatives kind) (OpenedRead kind around at old v new) (opened-read kind rule taken parts all around at old v new front is e)

-- what was read as a kind was also read as each kind that takes the same production at each byte
pub taken-as : (j k : Kind) → each_below 256 (λ b. same_choice (choose j b) (choose k b)) ≡ true
    → (around : Around) (at : ℕ) (old : State) (v : Value) (new : State) (p : Production)
    → OpenedRead j around at old v new p → OpenedRead k around at old v new p
taken-as j k all around at old v new p o = record {
  byte = o.byte;
  small = o.small;
  chosen = kept (choose j o.byte) (choose k o.byte) p (below_ 256 (λ b. same_choice (choose j b) (choose k b)) o.byte all o.small) o.chosen;
  parts = o.parts;
  opens = o.opens;
  trees = o.trees;
  taken = o.taken;
  takes = o.takes;
  goes = o.goes;
}

-- what was read as a production of one kind was also read as a production of each kind that takes the same production
-- at each byte
pub taken-among : (j k : Kind) → each_below 256 (λ b. same_choice (choose j b) (choose k b)) ≡ true
    → (around : Around) (at : ℕ) (old : State) (v : Value) (new : State) (some : List Alternative)
    → OneOf some (OpenedRead j around at old v new) → OneOf (alternatives k) (OpenedRead k around at old v new)
unfolding choose
taken-among j k all around at old v new some o = each some o
  where
    one : (p : Production) → OpenedRead j around at old v new p → OneOf (alternatives k) (OpenedRead k around at old v new)
    one p o =
        let moved = taken-as j k all around at old v new p o in
        picked-one (alternatives k) moved.byte p (OpenedRead k around at old v new) moved moved.chosen

    each : (some : List Alternative) → OneOf some (OpenedRead j around at old v new) → OneOf (alternatives k) (OpenedRead k around at old v new)
    each [] o = absurd o
    each (a ∷ []) o = one a.production o
    each (a ∷ b ∷ rest) (inl o) = one a.production o
    each (a ∷ b ∷ rest) (inr o) = each (b ∷ rest) o

-- ## The value of a production

abbrev IsPlain : Production → Type 0
IsPlain Production.Substitution = ⊥
IsPlain Production.Inheriting = ⊥
IsPlain _ = Unit {0}

closes-plain : (p : Production) → IsPlain p → (byte : ℕ) (around : Around) (at : ℕ) (old : State) (vs : List Value) (mid : State)
    → close p byte around at old vs mid ≡ Ok (found (Meant p byte around vs) (Later p byte around old vs mid))
unfolding close
closes-plain Production.Substitution plain byte around at old vs mid = absurd plain
closes-plain Production.Inheriting plain byte around at old vs mid = absurd plain
closes-plain _ plain byte around at old vs mid = refl

-- a property of the production's meaning and the state after it holds of the value and the state that were read
pub comes-as : (P : Value → State → Type 0) (p : Production) → IsPlain p
    → (byte : ℕ) (around : Around) (at : ℕ) (old : State) (vs : List Value)
    (mid : State) (v : Value) (new : State) → close p byte around at old vs mid ≡ Ok (found v new)
    → P (Meant p byte around vs) (Later p byte around old vs mid) → P v new
comes-as P p plain byte around at old vs mid v new e one =
    subst (λ r. P (Found.value r) (Found.state r))
    (ok_same (found (Meant p byte around vs) (Later p byte around old vs mid)) (found v new)
    (sym (closes-plain p plain byte around at old vs mid) ∙ e)) one

-- the claim about a production, for any values of the parts that are still to come
abbrev pub Parts : Production → Around → (place : ℕ) → (P : List Value → State → Type 0) → List Sym → List Value → State → Type 0
Parts p around place P [] vs s = P vs s
Parts p around place P (x ∷ xs) vs s =
    Unless (between p around place vs s) (λ next.
    (v : Value) (after : State) → SymbolRead x next.context v next.state after → Parts p around place P xs (next.values ++ v ∷ []) after)

each-part : (p : Production) (byte : ℕ) (around : Around) (place : ℕ) (old : State) (v : Value) (new : State) (R : Value → State → Type 0) → IsPlain p
    → (xs : List Sym) (f : Forest) (vs : List Value) (from : ℕ) (s : State) → PartsRead p byte around place old v new xs f vs from s
    → Parts p around place (λ ws t. R (Meant p byte around ws) (Later p byte around old ws t)) xs vs s → R v new
each-part p byte around place old v new R plain [] f vs from s goes holds = comes-as R p plain byte around place old vs s v new goes holds
each-part p byte around place old v new R plain (x ∷ xs) f vs from s goes holds =
    go (between p around place vs s) goes holds (λ g ws later t. each-part p byte around place old v new R plain xs g ws later t)
  where
    P : List Value → State → Type 0
    P ws t = R (Meant p byte around ws) (Later p byte around old ws t)

    go : (g : Continuation) → OnGoing g (λ next. PartRead x f from next (PartsRead p byte around place old v new xs))
        → Unless g (λ next. (w : Value) (after : State) → SymbolRead x next.context w next.state after → Parts p around place P xs (next.values ++ w ∷ []) after)
        → ((g : Forest) (ws : List Value) (later : ℕ) (t : State) → PartsRead p byte around place old v new xs g ws later t
        → Parts p around place P xs ws t → R v new) → R v new
    go (Err d) one holds more = absurd one
    go (Ok next) one holds more =
        more one.others (next.values ++ one.value ∷ []) (from + length (spell one.shape)) one.after one.onward (holds one.value one.after one.read)

-- a property of a production's meaning, for any values of its parts, holds of the value and the state that were read
pub by-parts : (R : Value → State → Type 0) (p : Production) → IsPlain p → StaysInside p → {kind : Kind} {around : Around} {at : ℕ} {old : State}
    {v : Value} {new : State} → (o : OpenedRead kind around at old v new p)
    → Parts p around at (λ ws t. R (Meant p (byte_of o.taken) around ws) (Later p (byte_of o.taken) around old ws t)) (parts_of p) [] old → R v new
by-parts R p plain stays {kind} {around} {at} {old} {v} {new} o holds =
    each-part p (byte_of o.taken) around at old v new R plain (parts_of p) o.parts [] (at + length o.taken) old (o.goes stays) holds

-- what fits for any values of a production's parts fits for the value and the state that were read
pub fits-by-parts : (k : Kind) (p : Production) → IsPlain p → StaysInside p → {kind : Kind} {around : Around} {at : ℕ} {old : State} {v : Value}
    {new : State} → (o : OpenedRead kind around at old v new p)
    → Parts p around at (λ ws t. KindFits k around (Meant p (byte_of o.taken) around ws) old (Later p (byte_of o.taken) around old ws t)) (parts_of p) [] old
    → KindFits k around v old new
fits-by-parts k p plain stays {kind} {around} {at} {old} {v} {new} o holds = by-parts (λ w s. KindFits k around w old s) p plain stays o holds

-- what holds of each branch of a kind, by what is known of the branch's parts
abbrev pub BranchTo : Kind → (Around → Value → (old new : State) → Type 0) → Type 0
BranchTo kind R =
    (rule : Rule) (taken : List ℕ) (parts : Forest) → AllOf ShapeRead parts → (around : Around) (at : ℕ) (old : State) (v : Value)
    (new : State)
    → InFront (OfKind (number_of_kind kind)) around at old → IsTree abi (OfKind (number_of_kind kind)) (branch rule taken parts)
    → unfold_tree cpp around at (branch rule taken parts) old ≡ Ok (found (v ∷ []) new) → R around v old new

abbrev pub BranchRead : Kind → Type 0
BranchRead kind = BranchTo kind (KindRead kind)
