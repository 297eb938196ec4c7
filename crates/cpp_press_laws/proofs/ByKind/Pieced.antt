-- What was read as a further piece of a name, with or without arguments after it.
use Rattle.cpp_press_laws.proofs.Basics.{◌≡◌, ℕ, Bool, true, false, refl, sym, subst, Name, Kind, Production, number_of_kind, parts_of, Term, source, operator, constructor, destructor, State, Around, Value, tree, tree_of, piece_of, letter_of, text_of, part, after, extended, applied, named_so_far, between, meaning, begins_name, names_type, names_function, names_member}
use Rattle.cpp_grammar.specs.Unfolding as unfolding_
use Rattle.cpp_press_laws.proofs.Fits.Names.{PieceFits}
use Rattle.cpp_press_laws.proofs.Fits.Sorts.{KindFits}
use Rattle.cpp_press_laws.proofs.ByKind.Pieces.{source-fits, constructor-fits, destructor-fits}
use Rattle.cpp_press_laws.proofs.ByKind.PieceKinds.{c-operator-fits}
use Rattle.cpp_press_laws.proofs.ByKind.Known.{SymbolRead, OpenedRead, by-parts}

-- a piece after the name so far, of the sort that `names` tests, and what follows the piece
pub record PieceRead (names : Term → Bool) (around : Around) (v : Value) (old new : State) : Type 0 where
  pub piece : Term
  pub named : names piece ≡ true
  pub arguments : Value
  pub mid : State
  pub value : v ≡ tree (applied (extended around.prefix piece) arguments) false
  pub fits : PieceFits around piece old mid
  pub later : KindFits Kind.MaybeArguments (after (extended around.prefix piece) false around) arguments mid new

-- a piece of one sort is a piece of each sort that includes the first
pub renamed : (names others : Term → Bool) (around : Around) (v : Value) (old new : State)
    → ((p : Term) → names p ≡ true → others p ≡ true) → PieceRead names around v old new → PieceRead others around v old new
renamed names others around v old new more read = record {
  piece = read.piece;
  named = more read.piece read.named;
  arguments = read.arguments;
  mid = read.mid;
  value = read.value;
  fits = read.fits;
  later = read.later;
}

-- a name that was read, as a piece
pub name-piece : (around : Around) (internal : Bool) (v : Value) (old new : State) → SymbolRead Name around v old new
    → PieceFits around (source internal (text_of v)) old new
name-piece around internal v old new read =
    subst (λ s. PieceFits around (source internal (text_of v)) old s) (sym read.0) (source-fits around internal (text_of v) old read.2)

-- the piece after the name so far, and what is read after it
piece-as : (names : Term → Bool) (around : Around) (p : Term) (b : Value) (old mid new : State) → (names p ≡ true) × PieceFits around p old mid
    → KindFits Kind.MaybeArguments (after (extended around.prefix p) false around) b mid new
    → PieceRead names around (tree (applied (extended around.prefix p) b) false) old new
piece-as names around p b old mid new one later = record {
  piece = p;
  named = one.0;
  arguments = b;
  mid = mid;
  value = refl;
  fits = one.1;
  later = later;
}

pub source-comes : (kind : Kind) (around : Around) (at : ℕ) (old : State) (v : Value) (new : State)
    → OpenedRead kind around at old v new Production.SourceName → PieceRead names_type around v old new
unfolding parts_of number_of_kind between named_so_far names_type begins_name tree_of meaning part unfolding_.behind
source-comes kind around at old v new o =
    by-parts (λ w s. PieceRead names_type around w old s) Production.SourceName tt tt o (λ w s one b t more.
    piece-as names_type around (source false (text_of w)) b old s t (refl, name-piece around false w old s one) (more Kind.MaybeArguments refl))

pub internal-comes : (kind : Kind) (around : Around) (at : ℕ) (old : State) (v : Value) (new : State)
    → OpenedRead kind around at old v new Production.InternalName → PieceRead begins_name around v old new
unfolding parts_of number_of_kind between named_so_far begins_name tree_of meaning part unfolding_.behind
internal-comes kind around at old v new o =
    by-parts (λ w s. PieceRead begins_name around w old s) Production.InternalName tt tt o (λ w s one b t more.
    piece-as begins_name around (source true (text_of w)) b old s t (refl, name-piece around true w old s one) (more Kind.MaybeArguments refl))

pub local-type-comes : (kind : Kind) (around : Around) (at : ℕ) (old : State) (v : Value) (new : State)
    → OpenedRead kind around at old v new Production.LocalTypeName → PieceRead names_type around v old new
unfolding parts_of number_of_kind between named_so_far tree_of meaning part unfolding_.behind
local-type-comes kind around at old v new o =
    by-parts (λ w s. PieceRead names_type around w old s) Production.LocalTypeName tt tt o (λ w s one b t more.
    piece-as names_type around (piece_of w) b old s t ((one Kind.Anonymous refl).0, (one Kind.Anonymous refl).2) (more Kind.MaybeArguments refl))

pub operator-comes : (kind : Kind) (around : Around) (at : ℕ) (old : State) (v : Value) (new : State)
    → OpenedRead kind around at old v new Production.OperatorName → PieceRead names_function around v old new
unfolding parts_of number_of_kind between named_so_far tree_of meaning part unfolding_.behind
operator-comes kind around at old v new o =
    by-parts (λ w s. PieceRead names_function around w old s) Production.OperatorName tt tt o (λ w s one b t more.
    piece-as names_function around (piece_of w) b old s t (one Kind.Operator refl) (more Kind.MaybeArguments refl))

pub other-operator-comes : (kind : Kind) (around : Around) (at : ℕ) (old : State) (v : Value) (new : State)
    → OpenedRead kind around at old v new Production.OtherOperatorName → PieceRead names_function around v old new
unfolding parts_of number_of_kind between named_so_far tree_of meaning part unfolding_.behind
other-operator-comes kind around at old v new o =
    by-parts (λ w s. PieceRead names_function around w old s) Production.OtherOperatorName tt tt o (λ w s one b t more.
    piece-as names_function around (piece_of w) b old s t (one Kind.OtherOperator refl) (more Kind.MaybeArguments refl))

-- an operator, after its c
pub operator-with-c-comes : (kind : Kind) (around : Around) (at : ℕ) (old : State) (v : Value) (new : State)
    → OpenedRead kind around at old v new Production.OperatorNameWithC → PieceRead names_function around v old new
unfolding parts_of number_of_kind between named_so_far names_function tree_of meaning part unfolding_.behind
operator-with-c-comes kind around at old v new o =
    by-parts (λ w s. PieceRead names_function around w old s) Production.OperatorNameWithC tt tt o (λ w s one b t more.
    piece-as names_function around (operator 99 (letter_of w)) b old s t (
      refl,
      (let mark = one Kind.OperatorAfterC refl in
          subst (λ q. PieceFits around (operator 99 (letter_of w)) old q) (sym mark.0) (c-operator-fits around (letter_of w) old mark.2 mark.3)),
    ) (more Kind.MaybeArguments refl))

pub constructor-comes : (kind : Kind) (around : Around) (at : ℕ) (old : State) (v : Value) (new : State)
    → OpenedRead kind around at old v new Production.Constructor → PieceRead names_member around v old new
unfolding parts_of number_of_kind between named_so_far names_member tree_of meaning part unfolding_.behind
constructor-comes kind around at old v new o =
    by-parts (λ w s. PieceRead names_member around w old s) Production.Constructor tt tt o (λ w s one b t more.
    piece-as names_member around (constructor (letter_of w)) b old s t (
      refl,
      (let mark = one Kind.ConstructorDigit refl in
          subst (λ q. PieceFits around (constructor (letter_of w)) old q) (sym mark.0) (constructor-fits around (letter_of w) old mark.2 mark.3)),
    ) (more Kind.MaybeArguments refl))

pub destructor-comes : (kind : Kind) (around : Around) (at : ℕ) (old : State) (v : Value) (new : State)
    → OpenedRead kind around at old v new Production.Destructor → PieceRead names_member around v old new
unfolding parts_of number_of_kind between named_so_far names_member piece_of tree_of meaning part unfolding_.behind
destructor-comes kind around at old v new o =
    by-parts (λ w s. PieceRead names_member around w old s) Production.Destructor tt tt o (λ w s one b t more.
    piece-as names_member around (piece_of w) b old s t
    (let mark = one Kind.ComponentAfterD refl in
    subst (λ u. (names_member (piece_of u) ≡ true) × PieceFits around (piece_of u) old s) (sym mark.1) (
      refl,
      subst (λ q. PieceFits around (destructor (letter_of w)) old q) (sym mark.0) (destructor-fits around (letter_of w) old mark.2 mark.3),
    ))
    (more Kind.MaybeArguments refl))
