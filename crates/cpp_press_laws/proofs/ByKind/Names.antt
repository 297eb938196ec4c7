-- Names that were read, with or without arguments: as types, and as an encoding's own name.
use Rattle.cpp_press_laws.proofs.Basics.{◌≡◌, ℕ, ◌-◌, inl, inr, Bool, true, false, refl, ap, sym, subst, Kind, Production, Operation, alternatives, number_of_kind, parts_of, number_of, Term, in_std, parameter, State, outermost, Around, prefix_tree, prefix_listed, Value, tree, tree_of, piece_of, is_listed, is_there, qualifiers_of, ref_of, part, appended, with_prefix, parameter_named, after, inside, extended, applied, no_items, named_so_far, listed_so_far, index_of, between, parameter_so_far, meaning, byte_of, Slot, takes_all, begins_name, names_type, names_function}
use Rattle.sym_shape.specs.declared.rule.Sym.TheVariants.{Kind as OfKind}
use Rattle.cpp_grammar.specs.Unfolding as unfolding_
use Rattle.cpp_press_laws.proofs.Fits.Types.{SolidFits}
use Rattle.cpp_press_laws.proofs.Fits.Names.{PieceFits, std-between}
use Rattle.cpp_press_laws.proofs.Fits.Templates.{std-template}
use Rattle.cpp_press_laws.proofs.Fits.Nests.{std-nest}
use Rattle.cpp_press_laws.proofs.Fits.Solids.{ParameterNamed}
use Rattle.cpp_press_laws.proofs.Fits.Sorts.{NameRead, KindFits}
use Rattle.cpp_press_laws.proofs.Fits.Typed.{abbreviated-type, name-type, parameter-name}
use Rattle.cpp_press_laws.proofs.Fits.Own.{piece-solid, piece-own, nest-solid, std-own, named-own}
use Rattle.cpp_press_laws.proofs.ByKind.Pieces.{type-begins, begins-function}
use Rattle.cpp_press_laws.proofs.ByKind.Known.{OwnNameRead, InFront, OpenedRead, opened-read, by-parts, BranchRead, one-read}
use Rattle.cpp_press_laws.proofs.ByKind.Pieced.{PieceRead, renamed, source-comes, internal-comes, local-type-comes, operator-comes}
use Rattle.cpp_press_laws.proofs.ByKind.Nests.{parameter-goes}
use Rattle.cpp_press_laws.proofs.ByKind.Rules.{IsAmong}

-- ## Arguments

-- arguments with their I and E
arguments-come : (kind : Kind) (around : Around) (at : ℕ) (old : State) (v : Value) (new : State)
    → OpenedRead kind around at old v new Production.Arguments → (v ≡ tree (tree_of v) true) × KindFits Kind.Arguments around v old new
unfolding parts_of number_of_kind between inside tree_of meaning part unfolding_.behind
arguments-come kind around at old v new o =
    by-parts (λ w s. (w ≡ tree (tree_of w) true) × KindFits Kind.Arguments around w old s) Production.Arguments tt tt o (λ w s one x q end. (
      refl,
      subst (λ r. KindFits Kind.Arguments around (tree (no_items w) true) old r) (sym end.0)
          (one Kind.ArgumentsFirst refl refl),
    ))

pub arguments-branch : BranchRead Kind.Arguments
unfolding alternatives
arguments-branch rule taken parts all around at old v new front is e =
    let o = opened-read Kind.Arguments rule taken parts all around at old v new front is e in
    arguments-come Kind.Arguments around at old v new o

pub maybe-arguments-branch : BranchRead Kind.MaybeArguments
unfolding alternatives
maybe-arguments-branch rule taken parts all around at old v new front is e =
    let o = opened-read Kind.MaybeArguments rule taken parts all around at old v new front is e in
    inr (arguments-come Kind.MaybeArguments around at old v new o)

pub arguments-alone-branch : BranchRead Kind.ArgumentsAlone
unfolding alternatives
arguments-alone-branch rule taken parts all around at old v new front is e =
    let o = opened-read Kind.ArgumentsAlone rule taken parts all around at old v new front is e in
    inr (arguments-come Kind.ArgumentsAlone around at old v new o)

-- ## Types after an S

std-name : (around : Around) (p : Term) (old new : State) → names_function p ≡ true → PieceFits around p old new
    → NameRead around (tree (in_std p) false) old new
unfolding with_prefix after prefix_tree prefix_listed tree_of is_listed appended
std-name around p old new names one =
    let between_ = std-between around p old new names one in
    record {
      solid = nest-solid (λ slot. true) around (tree (in_std p) false) old new (refl, std-nest around p old new between_);
      before = λ a now other. (std-template around p old new between_).before true a now other;
    }

-- a piece after St in a type, which no tag follows
pub type-in-std-branch : BranchRead Kind.TypeInStd
unfolding alternatives parts_of number_of_kind between named_so_far applied is_there tree_of meaning part unfolding_.behind
type-in-std-branch rule taken parts all around at old v new front is e outer =
    let o = opened-read Kind.TypeInStd rule taken parts all around at old v new front is e in
    by-parts (λ w s. NameRead around w old s) Production.TaggedStdType tt tt o (λ w s read b q tags.
    let one = read Kind.SourceOrLocal refl in
    let none = tags Kind.MaybeTags refl in
    subst (λ u. NameRead around (tree (applied (in_std (piece_of w)) u) false) old q) (sym none.0)
    (subst (λ r. NameRead around (tree (in_std (piece_of w)) false) old r) (sym none.1)
    (std-name around (piece_of w) old s (begins-function (piece_of w) one.0) one.1)))

pub maybe-tags-branch : BranchRead Kind.MaybeTags
unfolding alternatives
maybe-tags-branch rule taken parts all around at old v new front is e =
    absurd (opened-read Kind.MaybeTags rule taken parts all around at old v new front is e)

pub vendor-arguments-branch : BranchRead Kind.VendorArguments
unfolding alternatives
vendor-arguments-branch rule taken parts all around at old v new front is e =
    absurd (opened-read Kind.VendorArguments rule taken parts all around at old v new front is e)

pub type-after-s-branch : BranchRead Kind.TypeAfterS
unfolding alternatives parts_of number_of_kind between meaning part unfolding_.behind number_of
type-after-s-branch rule taken parts all around at old v new front is e outer =
    let one = one-read Kind.TypeAfterS rule taken parts all around at old v new front is e in
    arm one.0 one.1 one.2
  where
    arm : (p : Production) → IsAmong (alternatives Kind.TypeAfterS) p → OpenedRead Kind.TypeAfterS around at old v new p
        → KindFits Kind.TypeAfterS around v old new
    arm Production.TypeInStd here o = by-parts (λ w s. NameRead around w old s) Production.TypeInStd tt tt o (λ w s one. one Kind.TypeInStd refl outer)
    arm Production.AbbreviatedType here o = by-parts (λ w s. NameRead around w old s) Production.AbbreviatedType tt tt o
        (λ w s one. abbreviated-type around (byte_of o.taken) old w old s (one Kind.Abbreviation refl))
    arm (Production.Operation Operation.ExpressionC) here o = absurd here
    arm p here o = absurd here

-- ## Names as types

pub with-s-solid : (takes : Slot → Bool) (kind : Kind) (around : Around) (at : ℕ) (old : State) (v : Value) (new : State)
    → InFront (OfKind (number_of_kind kind)) around at old → around.prefix ≡ outermost
    → OpenedRead kind around at old v new Production.TypeWithS → SolidFits takes around v old new
unfolding parts_of number_of_kind between meaning part unfolding_.behind
with-s-solid takes kind around at old v new front outer o =
    by-parts (λ w s. SolidFits takes around w old s) Production.TypeWithS tt tt o (λ w s one b q more.
    name-type takes around w b old s q (one Kind.TypeAfterS refl outer) (more Kind.ArgumentsAlone refl))

pub parameter-solid : (takes : Slot → Bool) (kind : Kind) (around : Around) (at : ℕ) (old : State) (v : Value) (new : State)
    → InFront (OfKind (number_of_kind kind)) around at old → around.prefix ≡ outermost
    → OpenedRead kind around at old v new Production.Parameter → SolidFits takes around v old new
unfolding parts_of number_of_kind between tree_of is_listed meaning part unfolding_.behind parameter_so_far parameter_named listed_so_far
parameter-solid takes kind around at old v new front outer o =
    by-parts (λ w s. SolidFits takes around w old s) Production.Parameter tt tt o (λ w s digits. parameter-goes around at (index_of w) s _ (λ t named b q more.
    name-type takes around (tree (parameter (index_of w)) true) b old t q
    (parameter-name around (index_of w) old t (subst (λ u. ParameterNamed around (index_of w) u t) digits.0 named) front.placed.lambda)
    (more Kind.ArgumentsAlone refl)))

-- a parameter as an argument, after the T
parameter-argument : (kind : Kind) (around : Around) (at : ℕ) (old : State) (v : Value) (new : State)
    → InFront (OfKind (number_of_kind kind)) around at old
    → OpenedRead kind around at old v new Production.ParameterArgument → SolidFits takes_all around v old new
unfolding parts_of number_of_kind between tree_of is_listed meaning part unfolding_.behind parameter_so_far parameter_named listed_so_far
parameter-argument kind around at old v new front o =
    by-parts (λ w s. SolidFits takes_all around w old s) Production.ParameterArgument tt tt o (λ w s digits.
    parameter-goes around (at - 1) (index_of w) s _ (λ t named b q more.
    name-type takes_all around (tree (parameter (index_of w)) true) b old t q
    (parameter-name around (index_of w) old t (subst (λ u. ParameterNamed around (index_of w) u t) digits.0 named) front.placed.lambda)
    (more Kind.ArgumentsAlone refl)))

pub argument-after-t-branch : BranchRead Kind.ArgumentAfterT
unfolding alternatives
argument-after-t-branch rule taken parts all around at old v new front is e outer =
    let o = opened-read Kind.ArgumentAfterT rule taken parts all around at old v new front is e in
    parameter-argument Kind.ArgumentAfterT around at old v new front o

-- a parameter as the first type of a lambda; in the wide grammar it may say its level
pub leveled-branch : BranchRead Kind.LeveledParameter
unfolding alternatives
leveled-branch rule taken parts all around at old v new front is e outer =
    let o = opened-read Kind.LeveledParameter rule taken parts all around at old v new front is e in
    parameter-argument Kind.LeveledParameter around at old v new front o

pub parameter-after-t-branch : BranchRead Kind.ParameterAfterT
unfolding alternatives number_of parts_of number_of_kind between meaning part unfolding_.behind
parameter-after-t-branch rule taken parts all around at old v new front is e outer =
    let one = one-read Kind.ParameterAfterT rule taken parts all around at old v new front is e in
    arm one.0 one.1 one.2
  where
    arm : (p : Production) → IsAmong (alternatives Kind.ParameterAfterT) p → OpenedRead Kind.ParameterAfterT around at old v new p → SolidFits takes_all around v old new
    arm Production.ParameterArgument here o = parameter-argument Kind.ParameterAfterT around at old v new front o
    arm Production.LeveledParameter here o = by-parts (λ w s. SolidFits takes_all around w old s) Production.LeveledParameter tt tt o (λ w s digits x t one.
        subst (λ u. SolidFits takes_all around x u t) digits.0 (one Kind.LeveledParameter refl outer))
    arm (Production.Operation Operation.ExpressionC) here o = absurd here
    arm p here o = absurd here

pub nested-solid : (takes : Slot → Bool) (kind : Kind) (around : Around) (at : ℕ) (old : State) (v : Value) (new : State)
    → InFront (OfKind (number_of_kind kind)) around at old → around.prefix ≡ outermost
    → OpenedRead kind around at old v new Production.NestedType → SolidFits takes around v old new
unfolding parts_of number_of_kind between meaning part unfolding_.behind
nested-solid takes kind around at old v new front outer o =
    by-parts (λ w s. SolidFits takes around w old s) Production.NestedType tt tt o
    (λ w s one. nest-solid takes around w old s (one Kind.Nest refl (inl outer)))

-- a name of one piece
read-solid : (takes : Slot → Bool) (around : Around) (v : Value) (old new : State) → around.prefix ≡ outermost
    → PieceRead names_type around v old new → SolidFits takes around v old new
unfolding extended
read-solid takes around v old new outer o =
    subst (λ w. SolidFits takes around w old new) (sym o.value)
    (subst (λ q. SolidFits takes around (tree (applied (extended q o.piece) o.arguments) false) old new) (sym outer)
    (piece-solid takes around o.piece o.arguments old o.mid new outer o.named o.fits
    (subst (λ q. KindFits Kind.MaybeArguments (after (extended q o.piece) false around) o.arguments o.mid new) outer o.later)))

pub source-solid : (takes : Slot → Bool) (kind : Kind) (around : Around) (at : ℕ) (old : State) (v : Value) (new : State)
    → InFront (OfKind (number_of_kind kind)) around at old → around.prefix ≡ outermost
    → OpenedRead kind around at old v new Production.SourceName → SolidFits takes around v old new
source-solid takes kind around at old v new front outer o =
    read-solid takes around v old new outer (source-comes kind around at old v new o)

pub local-type-name-solid : (takes : Slot → Bool) (kind : Kind) (around : Around) (at : ℕ) (old : State) (v : Value) (new : State)
    → InFront (OfKind (number_of_kind kind)) around at old → around.prefix ≡ outermost
    → OpenedRead kind around at old v new Production.LocalTypeName → SolidFits takes around v old new
local-type-name-solid takes kind around at old v new front outer o =
    read-solid takes around v old new outer (local-type-comes kind around at old v new o)

-- ## An encoding's own name

-- a name of one piece
read-own : (around : Around) (v : Value) (old new : State) → around.prefix ≡ outermost → PieceRead names_function around v old new
    → OwnNameRead around v old new
unfolding extended tree_of qualifiers_of ref_of
read-own around v old new outer o =
    subst (λ w. OwnNameRead around w old new) (sym o.value)
    (subst (λ q. OwnNameRead around (tree (applied (extended q o.piece) o.arguments) false) old new) (sym outer) (
      piece-own around o.piece o.arguments old o.mid new outer o.named o.fits
          (subst (λ q. KindFits Kind.MaybeArguments (after (extended q o.piece) false around) o.arguments o.mid new) outer o.later),
      tt,
    ))

type-function : (p : Term) → names_type p ≡ true → names_function p ≡ true
type-function p names = begins-function p (type-begins p names)

pub source-own : (around : Around) (at : ℕ) (old : State) (v : Value) (new : State) → around.prefix ≡ outermost
    → OpenedRead Kind.CompleteName around at old v new Production.SourceName → OwnNameRead around v old new
source-own around at old v new outer o =
    read-own around v old new outer
    (renamed names_type names_function around v old new type-function (source-comes Kind.CompleteName around at old v new o))

pub internal-own : (around : Around) (at : ℕ) (old : State) (v : Value) (new : State) → around.prefix ≡ outermost
    → OpenedRead Kind.CompleteName around at old v new Production.InternalName → OwnNameRead around v old new
internal-own around at old v new outer o =
    read-own around v old new outer
    (renamed begins_name names_function around v old new begins-function (internal-comes Kind.CompleteName around at old v new o))

pub local-type-own : (around : Around) (at : ℕ) (old : State) (v : Value) (new : State) → around.prefix ≡ outermost
    → OpenedRead Kind.CompleteName around at old v new Production.LocalTypeName → OwnNameRead around v old new
local-type-own around at old v new outer o =
    read-own around v old new outer
    (renamed names_type names_function around v old new type-function (local-type-comes Kind.CompleteName around at old v new o))

pub operator-own : (around : Around) (at : ℕ) (old : State) (v : Value) (new : State) → around.prefix ≡ outermost
    → OpenedRead Kind.CompleteName around at old v new Production.OperatorName → OwnNameRead around v old new
operator-own around at old v new outer o = read-own around v old new outer (operator-comes Kind.CompleteName around at old v new o)

pub with-s-own : (around : Around) (at : ℕ) (old : State) (v : Value) (new : State) → around.prefix ≡ outermost
    → OpenedRead Kind.CompleteName around at old v new Production.NameWithS → OwnNameRead around v old new
unfolding parts_of number_of_kind between meaning part unfolding_.behind
with-s-own around at old v new outer o =
    by-parts (λ w s. OwnNameRead around w old s) Production.NameWithS tt tt o (λ w s one. one Kind.NameAfterS refl outer)

pub name-after-s-branch : BranchRead Kind.NameAfterS
unfolding alternatives parts_of number_of_kind between named_so_far listed_so_far applied is_there tree_of qualifiers_of ref_of meaning part unfolding_.behind number_of
name-after-s-branch rule taken parts all around at old v new front is e outer =
    let one = one-read Kind.NameAfterS rule taken parts all around at old v new front is e in
    arm one.0 one.1 one.2
  where
    arm : (p : Production) → IsAmong (alternatives Kind.NameAfterS) p → OpenedRead Kind.NameAfterS around at old v new p
        → OwnNameRead around v old new
    arm Production.StdName here o = by-parts (λ w s. OwnNameRead around w old s) Production.StdName tt tt o (λ w s read b q more.
        let one = read Kind.Unqualified refl in
        (std-own around (piece_of w) b old s q one.0 one.1 (more Kind.MaybeArguments refl), tt))
    arm Production.AbbreviatedName here o = by-parts (λ w s. OwnNameRead around w old s) Production.AbbreviatedName tt tt o (λ w s one b q more.
        let behind_ = more Kind.Arguments refl in
        subst (λ t. OwnNameRead around (tree t false) old q) (sym (ap (λ u. applied (tree_of w) u) behind_.0))
        (named-own around w b old s q (one Kind.Abbreviation refl) behind_.1, tt))
    arm (Production.Operation Operation.ExpressionC) here o = absurd here
    arm p here o = absurd here
