-- The pieces of names that were read, and what is known of their kinds.
use Rattle.cpp_press_laws.proofs.Basics.{◌≡◌, ℕ, ◌+◌, ◌-◌, ◌<◌, inl, inr, length, List, [], ◌∷◌, Bool, true, false, slice_get, Some, Ok, Err, refl, ap, arith, lit≤, sym, subst, ◌∙◌, nat_lt, ◌^◌, false≢true, BadValue, Decimal, Sym, found, unfold_tree, Kind, Production, Operation, ITEMS, FIRST_OF_LAMBDA, alternatives, choose, pick, is_in, in_ranges, among, kinds, is_chain, number_of_kind, number_of, parts_of, abi, Term, operator, literal_operator, source, lambda, unnamed, list, Continuation, between, in_signature, no_items, meaning, parameters, operator_or_literal, signature_with, last_token, number_tested, opening, close, byte_of, cpp, abi_wide, is_first, read_first, undeclared_signature, AllNew, grows_then, ok_same, either, item_type, begins_name, names_type, names_function, IsLocalNumber, IsOperator, same_choice, each_below, StaysInside}
use Rattle.sym_shape.specs.declared.rule.Sym.TheVariants.{Kind as OfKind, Number}
use Rattle.sym_shape.specs.Tree.{Tree as Shape, Forest, branch, empty, token, fixed, nothing, grown, IsTree, AreTrees}
use Rattle.cpp_grammar.specs.Values.{Candidate, State, Around, Value, letter, text, piece, tree_of, piece_of, letter_of, text_of, local_number, part}
use Rattle.cpp_grammar.specs.Unfolding as unfolding_
use Rattle.cpp_press_laws.proofs.ByKind.AbiTrees.{known, tree_good}
use Rattle.cpp_press_laws.proofs.Fits.Lists.{list-fits, parameters-fit}
use Rattle.cpp_press_laws.proofs.Fits.Names.{PieceFits}
use Rattle.cpp_press_laws.proofs.ByKind.Rules.{OnGoing, by-name, IsAmong}
use Rattle.cpp_press_laws.proofs.ByKind.Leaves.{leaf-same}
use Rattle.cpp_press_laws.proofs.ByKind.Pieces.{source-fits, operator-fits, literal-operator-fits, unnamed-fits, ShutOrInside, lambda-fits, begins-function}
use Rattle.cpp_press_laws.proofs.ByKind.LeafKinds.{own-byte, digits-behind}
use Rattle.cpp_press_laws.proofs.ByKind.Known.{KindRead, MarkRead, PartRead, PartsRead, OpenedRead, opened-read, taken-among, comes-as, by-parts, BranchRead, one-read}

-- a piece of a name, of the sort that `names` tests
abbrev PieceAs : (names : Term → Bool) → Around → Value → (old new : State) → Type 0
PieceAs names around v old new = (names (piece_of v) ≡ true) × PieceFits around (piece_of v) old new

-- ## Names and local types

internal-piece : (kind : Kind) (around : Around) (at : ℕ) (old : State) (v : Value) (new : State)
    → OpenedRead kind around at old v new Production.InternalPiece → PieceAs begins_name around v old new
unfolding parts_of between meaning part unfolding_.behind piece_of begins_name
internal-piece kind around at old v new o =
    by-parts (λ w s. PieceAs begins_name around w old s) Production.InternalPiece tt tt o (λ w s one.
    (refl, subst (PieceFits around (source true (text_of w)) old) (sym one.0) (source-fits around true (text_of w) old one.2)))

source-piece : (kind : Kind) (around : Around) (at : ℕ) (old : State) (v : Value) (new : State)
    → OpenedRead kind around at old v new Production.SourcePiece → PieceAs begins_name around v old new
unfolding parts_of between meaning part unfolding_.behind piece_of begins_name
source-piece kind around at old v new o =
    by-parts (λ w s. PieceAs begins_name around w old s) Production.SourcePiece tt tt o (λ w s one.
    (refl, subst (PieceFits around (source false (text_of w)) old) (sym one.0) (source-fits around false (text_of w) old one.2)))

local-type-piece : (kind : Kind) (around : Around) (at : ℕ) (old : State) (v : Value) (new : State)
    → OpenedRead kind around at old v new Production.LocalTypePiece → PieceAs begins_name around v old new
unfolding parts_of between meaning part unfolding_.behind
local-type-piece kind around at old v new o =
    by-parts (λ w s. PieceAs begins_name around w old s) Production.LocalTypePiece tt tt o (λ w s one.
    let read = one Kind.Anonymous refl in (read.1, read.2))

pub source-or-local-branch : BranchRead Kind.SourceOrLocal
unfolding alternatives number_of
source-or-local-branch rule taken parts all around at old v new front is e =
    let one = one-read Kind.SourceOrLocal rule taken parts all around at old v new front is e in
    arm one.0 one.1 one.2
  where
    arm : (p : Production) → IsAmong (alternatives Kind.SourceOrLocal) p → OpenedRead Kind.SourceOrLocal around at old v new p
        → KindRead Kind.SourceOrLocal around v old new
    arm Production.InternalPiece here o = internal-piece Kind.SourceOrLocal around at old v new o
    arm Production.LocalTypePiece here o = local-type-piece Kind.SourceOrLocal around at old v new o
    arm Production.SourcePiece here o = source-piece Kind.SourceOrLocal around at old v new o
    arm (Production.Operation Operation.ExpressionC) here o = absurd here
    arm p here o = absurd here

pub unqualified-branch : BranchRead Kind.Unqualified
unfolding alternatives parts_of between meaning part unfolding_.behind number_of
unqualified-branch rule taken parts all around at old v new front is e =
    let one = one-read Kind.Unqualified rule taken parts all around at old v new front is e in
    arm one.0 one.1 one.2
  where
    named : PieceAs begins_name around v old new → PieceAs names_function around v old new
    named one = (begins-function (piece_of v) one.0, one.1)

    arm : (p : Production) → IsAmong (alternatives Kind.Unqualified) p → OpenedRead Kind.Unqualified around at old v new p
        → KindRead Kind.Unqualified around v old new
    arm Production.InternalPiece here o = named (internal-piece Kind.Unqualified around at old v new o)
    arm Production.LocalTypePiece here o = named (local-type-piece Kind.Unqualified around at old v new o)
    arm Production.SourcePiece here o = named (source-piece Kind.Unqualified around at old v new o)
    arm Production.OperatorPiece here o = by-parts (λ w s. PieceAs names_function around w old s) Production.OperatorPiece tt tt o
        (λ w s one. one Kind.Operator refl)
    arm (Production.Operation Operation.ExpressionC) here o = absurd here
    arm p here o = absurd here

-- ## Operators

-- a production of operators of two letters, and the kind of the second letter
record TwoLetters (p : Production) (kind : Kind) : Type 0 where
  pub at : slice_get kinds (number_of_kind kind) ≡ Some kind
  pub parts : parts_of p ≡ OfKind (number_of_kind kind) ∷ []
  pub own : is_chain p ≡ false
  pub goes : (around : Around) (place : ℕ) (s : State) → ◌≡◌ {A = Continuation} (between p around place [] s)
      (Ok (record { context = around; values = []; state = s }))
  pub opens : (place : ℕ) (f : Forest) (s : State) → opening p f place s ≡ Ok s
  pub means : (first second : ℕ) (around : Around) (place : ℕ) (began s : State)
      → close p first around place began (letter second ∷ []) s ≡ Ok (found (piece (operator first second)) s)

letters-come : (p : Production) (kind : Kind) → TwoLetters p kind → (around : Around) (at : ℕ) (old : State) (v : Value) (new : State)
    → (o : OpenedRead Kind.Operator around at old v new p) (w : Value) (mid : State) → MarkRead kind w old mid
    → close p (byte_of o.taken) around at old (w ∷ []) mid ≡ Ok (found v new) → PieceAs names_function around v old new
unfolding names_function piece_of
letters-come p kind two around at old v new o w mid mark e =
    let first : ℕ = byte_of o.taken in
    let second : ℕ = letter_of w in
    let eaten : first ≡ o.byte = own-byte p o.taken o.byte o.takes two.own in
    let means : found (piece (operator first second)) mid ≡ found v new =
    ok_same (found (piece (operator first second)) mid) (found v new)
    (sym (two.means first second around at old mid) ∙ ap (λ u. close p first around at old (u ∷ []) mid) (sym mark.1) ∙ e) in
    let is : IsOperator first second =
    record {
      production = p;
      kind = kind;
      number = number_of_kind kind;
      at = two.at;
      chosen = ap (choose Kind.Operator) eaten ∙ o.chosen;
      parts = two.parts;
      marked = mark.3;
      own = two.own;
      goes = two.goes;
      opens = two.opens;
      means = λ inner place began s. two.means first second inner place began s;
    } in
    let fits : PieceFits around (operator first second) old mid =
    subst (PieceFits around (operator first second) old) (sym mark.0)
    (operator-fits around first second old (omega (arith, eaten, o.small)) mark.2 is) in
    subst (λ r. PieceAs names_function around r.value old r.state) means (refl, fits)

-- an operator of two letters, where the second is a mark
letters-read : (p : Production) (kind : Kind) → StaysInside p → TwoLetters p kind → {around : Around} {at : ℕ} {old : State} {v : Value} {new : State}
    → ((w : Value) (s : State) → KindRead kind around w old s → MarkRead kind w old s)
    → OpenedRead Kind.Operator around at old v new p → PieceAs names_function around v old new
letters-read p kind stays two {around} {at} {old} {v} {new} marks o =
    let rest = PartsRead p (byte_of o.taken) around at old v new [] in
    let whole : PartsRead p (byte_of o.taken) around at old v new (OfKind (number_of_kind kind) ∷ []) o.parts [] (at + length o.taken) old =
    subst (λ xs. PartsRead p (byte_of o.taken) around at old v new xs o.parts [] (at + length o.taken) old) two.parts (o.goes stays) in
    let g : PartRead (OfKind (number_of_kind kind)) o.parts (at + length o.taken) (record { context = around; values = []; state = old }) rest =
    subst (λ m. OnGoing m (λ n. PartRead (OfKind (number_of_kind kind)) o.parts (at + length o.taken) n rest)) (two.goes around at old) whole in
    letters-come p kind two around at old v new o g.value g.after (marks g.value g.after (g.read kind refl)) g.onward

-- an operator that begins with an l, which may be a literal operator
operator-l : (around : Around) (at : ℕ) (old : State) (v : Value) (new : State)
    → OpenedRead Kind.Operator around at old v new Production.OperatorL
    → PieceAs names_function around v old new
unfolding kinds parts_of is_chain between opening close meaning operator_or_literal part letter_of piece_of unfolding_.behind number_of_kind names_function
operator-l around at old v new o =
    let g = o.goes tt in
    let byte : ℕ = byte_of o.taken in
    elim (g.read Kind.OperatorAfterL refl) [
      | inl mark ↦ letters-come Production.OperatorL Kind.OperatorAfterL
          (record { at = refl; parts = refl; own = refl; goes = λ a p s. refl; opens = λ p f s. refl; means = λ x y a p b s. refl })
          around at old v new o g.value g.after mark g.onward
      | inr literal ↦ comes-as (λ w s. PieceAs names_function around w old s) Production.OperatorL tt byte around at old (g.value ∷ [])
          g.after v new
          g.onward
          (subst (λ w. PieceAs names_function around (operator_or_literal byte w) old g.after) (sym literal.2) (
            refl,
            subst (PieceFits around (literal_operator literal.0) old) (sym literal.1)
                (literal-operator-fits around literal.0 old literal.3),
          ))
    ]

-- an operator was read
operator-read : (around : Around) (at : ℕ) (old : State) (v : Value) (new : State)
    → (p : Production) → IsAmong (alternatives Kind.Operator) p → OpenedRead Kind.Operator around at old v new p
    → PieceAs names_function around v old new
unfolding alternatives kinds parts_of is_chain between opening close meaning part letter_of unfolding_.behind number_of_kind number_of
operator-read around at old v new Production.OperatorN here o =
    letters-read Production.OperatorN Kind.OperatorAfterN tt (record { at = refl; parts = refl; own = refl; goes = λ a p s. refl; opens = λ p f s. refl; means = λ x y a p b s. refl }) (λ w s mark. mark) o
operator-read around at old v new Production.OperatorD here o =
    letters-read Production.OperatorD Kind.OperatorAfterD tt (record { at = refl; parts = refl; own = refl; goes = λ a p s. refl; opens = λ p f s. refl; means = λ x y a p b s. refl }) (λ w s mark. mark) o
operator-read around at old v new Production.OperatorA here o =
    letters-read Production.OperatorA Kind.OperatorAfterA tt (record { at = refl; parts = refl; own = refl; goes = λ a p s. refl; opens = λ p f s. refl; means = λ x y a p b s. refl }) (λ w s mark. mark) o
operator-read around at old v new Production.OperatorP here o =
    letters-read Production.OperatorP Kind.OperatorAfterP tt (record { at = refl; parts = refl; own = refl; goes = λ a p s. refl; opens = λ p f s. refl; means = λ x y a p b s. refl }) (λ w s mark. mark) o
operator-read around at old v new Production.OperatorC here o =
    letters-read Production.OperatorC Kind.OperatorAfterC tt (record { at = refl; parts = refl; own = refl; goes = λ a p s. refl; opens = λ p f s. refl; means = λ x y a p b s. refl }) (λ w s mark. mark) o
operator-read around at old v new Production.OperatorM here o =
    letters-read Production.OperatorM Kind.OperatorAfterM tt (record { at = refl; parts = refl; own = refl; goes = λ a p s. refl; opens = λ p f s. refl; means = λ x y a p b s. refl }) (λ w s mark. mark) o
operator-read around at old v new Production.OperatorR here o =
    letters-read Production.OperatorR Kind.OperatorAfterR tt (record { at = refl; parts = refl; own = refl; goes = λ a p s. refl; opens = λ p f s. refl; means = λ x y a p b s. refl }) (λ w s mark. mark) o
operator-read around at old v new Production.OperatorO here o =
    letters-read Production.OperatorO Kind.OperatorAfterO tt (record { at = refl; parts = refl; own = refl; goes = λ a p s. refl; opens = λ p f s. refl; means = λ x y a p b s. refl }) (λ w s mark. mark) o
operator-read around at old v new Production.OperatorE here o =
    letters-read Production.OperatorE Kind.OperatorAfterE tt (record { at = refl; parts = refl; own = refl; goes = λ a p s. refl; opens = λ p f s. refl; means = λ x y a p b s. refl }) (λ w s mark. mark) o
operator-read around at old v new Production.OperatorL here o = operator-l around at old v new o
operator-read around at old v new Production.OperatorS here o =
    letters-read Production.OperatorS Kind.OperatorAfterS tt (record { at = refl; parts = refl; own = refl; goes = λ a p s. refl; opens = λ p f s. refl; means = λ x y a p b s. refl }) (λ w s mark. mark) o
operator-read around at old v new Production.OperatorI here o =
    letters-read Production.OperatorI Kind.OperatorAfterI tt (record { at = refl; parts = refl; own = refl; goes = λ a p s. refl; opens = λ p f s. refl; means = λ x y a p b s. refl }) (λ w s mark. mark) o
operator-read around at old v new Production.OperatorG here o =
    letters-read Production.OperatorG Kind.OperatorAfterG tt (record { at = refl; parts = refl; own = refl; goes = λ a p s. refl; opens = λ p f s. refl; means = λ x y a p b s. refl }) (λ w s mark. mark) o
operator-read around at old v new (Production.Operation Operation.ExpressionC) here o = absurd here
operator-read around at old v new p here o = absurd here

pub operator-branch : BranchRead Kind.Operator
operator-branch rule taken parts all around at old v new front is e =
    let one = one-read Kind.Operator rule taken parts all around at old v new front is e in
    operator-read around at old v new one.0 one.1 one.2

-- an operator that begins with no c
pub other-operator-branch : BranchRead Kind.OtherOperator
unfolding alternatives choose pick is_in in_ranges among same_choice each_below number_of
other-operator-branch rule taken parts all around at old v new front is e =
    let one = by-name (alternatives Kind.Operator) (OpenedRead Kind.Operator around at old v new)
    (taken-among Kind.OtherOperator Kind.Operator refl around at old v new (alternatives Kind.OtherOperator)
    (opened-read Kind.OtherOperator rule taken parts all around at old v new front is e)) in
    operator-read around at old v new one.0 one.1 one.2

-- two letters, the first of them a c
pub c-operator-fits : (around : Around) (second : ℕ) (old : State) → second < 256 → choose Kind.OperatorAfterC second ≡ Some Production.Mark
    → PieceFits around (operator 99 second) old old
unfolding choose alternatives pick is_in in_ranges among kinds parts_of is_chain between opening close meaning part letter_of unfolding_.behind number_of_kind
c-operator-fits around second old small marked =
    operator-fits around 99 second old (omega arith) small (record {
      production = Production.OperatorC;
      kind = Kind.OperatorAfterC;
      number = number_of_kind Kind.OperatorAfterC;
      at = refl;
      chosen = refl;
      parts = refl;
      marked = marked;
      own = refl;
      goes = λ inner place s. refl;
      opens = λ place f s. refl;
      means = λ inner place began s. refl;
    })

-- ## Lambdas and unnamed types

-- a number that passed the test after the U may be the number of a lambda or an unnamed type
tested-number : (place : ℕ) (digits : List ℕ) (state : State) → number_tested place digits state ≡ Ok state
    → IsLocalNumber (local_number digits)
unfolding number_tested local_number
tested-number place digits state e = (
  omega arith,
  either (λ x. x ≡ Ok state → nat_lt (local_number digits) (2 ^ 64) ≡ true) (nat_lt (local_number digits) (2 ^ 64))
      (Ok state) (Err (BadValue place)) (λ is h. is) (λ is h. absurd cc) e,
)

-- the digits of the last token are those of the value
last-digits : (t : Shape) (f : Forest) (around : Around) (at : ℕ) (state : State) (v : Value) (new : State) → IsTree abi (Number Decimal) t
    → AreTrees abi [] f → unfold_tree cpp around at t state ≡ Ok (found (v ∷ []) new) → (digits : List ℕ)
    → last_token (grown t f) digits ≡ text_of v
unfolding last_token cpp text_of
last-digits (token t) nothing around at state v new is trees e digits =
    (leaf-same (λ w. t.own ≡ text_of w) v (text t.own) state new (sym (ok_same (found (text t.own ∷ []) state) (found (v ∷ []) new) e))
    refl).1
last-digits (token t) (grown u f) around at state v new is trees e digits = absurd trees
last-digits (branch rule taken parts) f around at state v new is trees e digits = absurd is
last-digits empty f around at state v new is trees e digits = absurd is
last-digits (fixed b) f around at state v new is trees e digits = absurd is

-- a forest has the same last digits as its first part, followed by its other parts
digits-split : (f : Forest) (t : Shape) (others : Forest) (own : List ℕ) → f ≡ grown t others
    → ((digits : List ℕ) → last_token (grown t others) digits ≡ own) → (digits : List ℕ) → last_token f digits ≡ own
digits-split f t others own same last digits = ap (λ g. last_token g digits) same ∙ last digits

others-are : (x : Sym) (xs : List Sym) (f : Forest) (t : Shape) (others : Forest) → f ≡ grown t others → AreTrees abi (x ∷ xs) f
    → AreTrees abi xs others
others-are x xs f t others same trees = (subst (AreTrees abi (x ∷ xs)) same trees).1

abbrev AnonymousRead : Around → Value → (old new : State) → Type 0
AnonymousRead around v old new =
    (names_type (piece_of v) ≡ true) × (begins_name (piece_of v) ≡ true) × PieceFits around (piece_of v) old new

unnamed-type : (around : Around) (at : ℕ) (old : State) (v : Value) (new : State)
    → OpenedRead Kind.Anonymous around at old v new Production.Unnamed → AnonymousRead around v old new
unfolding parts_of between opening meaning part unfolding_.behind piece_of names_type begins_name
unnamed-type around at old v new o =
    let g = o.goes tt in
    let k : ℕ = local_number (text_of g.value) in
    let trees = others-are (Number Decimal) [] o.parts g.shape g.others g.splits o.trees in
    let told : last_token o.parts [] ≡ text_of g.value =
    digits-split o.parts g.shape g.others (text_of g.value) g.splits
    (last-digits g.shape g.others around _ old g.value g.after g.is trees g.unfolds) [] in
    let good : IsLocalNumber k =
    subst (λ ds. IsLocalNumber (local_number ds)) told (tested-number (at - 1) (last_token o.parts []) old o.opens) in
    comes-as (λ w s. AnonymousRead around w old s) Production.Unnamed tt (byte_of o.taken) around at old (g.value ∷ []) g.after v new
    g.onward
    (refl, refl, subst (PieceFits around (unnamed k) old) (sym g.read.0) (unnamed-fits around k old good))

new-shut : (around : Around) (end : ℕ) (more : List Candidate) → AllNew false (in_signature around) end more → ShutOrInside around.encoding more
unfolding in_signature
new-shut around end [] each = tt
new-shut around end (c ∷ cs) each = (
  elim each.0.place [ inl here ↦ inl (here.1 refl (λ own. absurd (false≢true own))) | inr inner ↦ inr inner.0 ],
  new-shut around end cs each.1,
)

lambda-type : (around : Around) (at : ℕ) (old : State) (v : Value) (new : State)
    → OpenedRead Kind.Anonymous around at old v new Production.Lambda → AnonymousRead around v old new
unfolding parts_of between number_of_kind opening meaning part unfolding_.behind piece_of names_type begins_name in_signature is_first
lambda-type around at old v new o =
    let inner : Around = in_signature around in
    let g = o.goes tt in
    let h = g.onward in
    let i = h.onward in
    let j = i.onward in
    let k : ℕ = local_number (text_of j.value) in
    let a : Term = tree_of g.value in
    let b : Term = no_items h.value in
    let trees1 = others-are _ _ o.parts g.shape g.others g.splits o.trees in
    let trees2 = others-are _ _ g.others h.shape h.others h.splits trees1 in
    let trees3 = others-are _ _ h.others i.shape i.others i.splits trees2 in
    let trees4 = others-are _ _ i.others j.shape j.others j.splits trees3 in
    let own : List ℕ = text_of j.value in
    let told : (digits : List ℕ) → last_token o.parts digits ≡ own =
    digits-split o.parts g.shape g.others own g.splits (digits-behind g.shape g.others own
    (digits-split g.others h.shape h.others own h.splits (digits-behind h.shape h.others own
    (digits-split h.others i.shape i.others own i.splits (digits-behind i.shape i.others own
    (digits-split i.others j.shape j.others own j.splits
    (last-digits j.shape j.others inner _ i.after j.value j.after j.is trees4 j.unfolds))))))) in
    let good : IsLocalNumber k =
    subst (λ ds. IsLocalNumber (local_number ds)) (told []) (tested-number (at - 1) (last_token o.parts []) old o.opens) in
    let first = tree_good g.shape (OfKind FIRST_OF_LAMBDA) inner _ old (found (g.value ∷ []) g.after) (known FIRST_OF_LAMBDA (lit≤ tt)) g.is g.front.placed.encoding
    g.front.opening g.front.prefix g.front.placed.old g.unfolds in
    let rest =
    tree_good h.shape (OfKind ITEMS) inner _ g.after (found (h.value ∷ []) h.after) (known ITEMS (lit≤ tt)) h.is h.front.placed.encoding
    h.front.opening h.front.prefix h.front.placed.old h.unfolds in
    let grows = grows_then false inner _ _ old g.after h.after (omega arith) first.grows rest.grows in
    let items = h.read Kind.Items refl refl in
    let one = parameters-fit inner item_type (list a b) old h.after tt
    (list-fits inner item_type a b old g.after h.after (g.read Kind.FirstOfLambda refl refl) items.1) in
    let fits : PieceFits around (lambda (parameters (list a b)) k) old h.after =
    lambda-fits around (parameters (list a b)) k old h.after grows.more grows.is (new-shut around _ grows.more grows.each) good one in
    let plain : signature_with g.value (parameters (list a b)) ≡ parameters (list a b) =
    undeclared_signature (g.value ∷ []) (parameters (list a b)) (read_first g.shape (OfKind FIRST_OF_LAMBDA) inner _ old (found (g.value ∷ []) g.after)
    (abi_wide (OfKind FIRST_OF_LAMBDA) g.shape g.is) refl g.unfolds) in
    let ends : h.after ≡ j.after = sym (j.read.0 ∙ i.read.0) in
    comes-as (λ w s. AnonymousRead around w old s) Production.Lambda tt (byte_of o.taken) around at old
    (g.value ∷ h.value ∷ i.value ∷ j.value ∷ []) j.after v new j.onward
    (refl, refl, subst (λ t. PieceFits around (lambda t k) old j.after) (sym plain) (subst (PieceFits around (lambda (parameters (list a b)) k) old) ends fits))

pub anonymous-branch : BranchRead Kind.Anonymous
unfolding alternatives number_of
anonymous-branch rule taken parts all around at old v new front is e =
    let one = one-read Kind.Anonymous rule taken parts all around at old v new front is e in
    arm one.0 one.1 one.2
  where
    arm : (p : Production) → IsAmong (alternatives Kind.Anonymous) p → OpenedRead Kind.Anonymous around at old v new p
        → KindRead Kind.Anonymous around v old new
    arm Production.Lambda here o = lambda-type around at old v new o
    arm Production.Unnamed here o = unnamed-type around at old v new o
    arm (Production.Operation Operation.ExpressionC) here o = absurd here
    arm p here o = absurd here
