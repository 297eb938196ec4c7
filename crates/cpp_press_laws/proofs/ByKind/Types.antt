-- Types that were read: each production keeps to what is known of its kind.
use Rattle.cpp_press_laws.proofs.Basics.{◌≡◌, ℕ, [], ◌∷◌, true, false, refl, sym, subst, ◌∙◌, Kind, Production, Operation, alternatives, number_of_kind, parts_of, is_chain, number_of, builtin, State, outermost, Around, Value, tree, tree_of, is_there, is_listed, ref_of, text_of, normal, part, under_expansion, between, listed_value, reference_to, parameters, enclosed_argument, ends_arguments, meaning, byte_of, with_type, Slot, any_type, item_type, parameter_type, takes_all, takes_qualified, takes_expansions, has_letters}
use Rattle.cpp_grammar.specs.Unfolding as unfolding_
use Rattle.cpp_press_laws.proofs.Components.AddedWays.{IsNotBare}
use Rattle.cpp_press_laws.proofs.Fits.Types.{TypeFits, SolidFits, vector-fits, qualified-fits}
use Rattle.cpp_press_laws.proofs.Fits.Solids.{builtin-with-d}
use Rattle.cpp_press_laws.proofs.Fits.Sorts.{KindFits, item-is-type, reference-solid, reference-plain}
use Rattle.cpp_press_laws.proofs.Fits.Lists.{parameters-fit, function-fits}
use Rattle.cpp_press_laws.proofs.Fits.Arguments.{expansion-fits}
use Rattle.cpp_press_laws.proofs.Fits.Typed.{type-as-argument}
use Rattle.cpp_press_laws.proofs.ByKind.LeafKinds.{own-byte, normal-digits}
use Rattle.cpp_press_laws.proofs.ByKind.Known.{OpenedRead, opened-read, comes-as, by-parts, fits-by-parts, BranchRead, one-read}
use Rattle.cpp_press_laws.proofs.ByKind.Rules.{IsAmong}

-- ## Types that become candidates

abbrev In : Around → Slot → State → Value → State → Type 0
In around slot old w s = TypeFits around slot (tree_of w) old s

const-arm : (kind : Kind) (slot : Slot) → takes_qualified slot ≡ true → (around : Around) (at : ℕ) (old : State) (v : Value) (new : State)
    → around.prefix ≡ outermost → OpenedRead kind around at old v new Production.ConstType → TypeFits around slot (tree_of v) old new
unfolding parts_of between meaning listed_value tree_of is_there part unfolding_.behind has_letters
const-arm kind slot take around at old v new outer o =
    by-parts (In around slot old) Production.ConstType tt tt o
    (λ w s one. qualified-fits around (record { restrict = false; volatile = false; const = true }) (tree_of w) slot old s take refl (one Kind.Plain refl outer))

volatile-arm : (kind : Kind) (slot : Slot) → takes_qualified slot ≡ true
    → (around : Around) (at : ℕ) (old : State) (v : Value) (new : State)
    → around.prefix ≡ outermost → OpenedRead kind around at old v new Production.VolatileType → TypeFits around slot (tree_of v) old new
unfolding parts_of between meaning listed_value tree_of is_there part unfolding_.behind has_letters
volatile-arm kind slot take around at old v new outer o =
    by-parts (In around slot old) Production.VolatileType tt tt o
    (λ c s const x t one. qualified-fits around (record { restrict = false; volatile = true; const = is_there c }) (tree_of x) slot old t take refl
    (subst (λ q. KindFits Kind.Plain around x q t) (const Kind.MaybeConst refl) (one Kind.Plain refl outer)))

restrict-arm : (kind : Kind) (slot : Slot) → takes_qualified slot ≡ true
    → (around : Around) (at : ℕ) (old : State) (v : Value) (new : State)
    → around.prefix ≡ outermost → OpenedRead kind around at old v new Production.RestrictType → TypeFits around slot (tree_of v) old new
unfolding parts_of between meaning listed_value tree_of is_there part unfolding_.behind has_letters
restrict-arm kind slot take around at old v new outer o =
    by-parts (In around slot old) Production.RestrictType tt tt o
    (λ a s volatile b r const x t one. qualified-fits around (record { restrict = true; volatile = is_there a; const = is_there b }) (tree_of x) slot old t take refl
    (subst (λ q. KindFits Kind.Plain around x q t) (const Kind.MaybeConst refl ∙ volatile Kind.MaybeVolatile refl) (one Kind.Plain refl outer)))

reference-arm : (kind : Kind) (slot : Slot) → IsNotBare slot → takes_all slot ≡ true → (around : Around) (at : ℕ) (old : State) (v : Value)
    (new : State) → around.prefix ≡ outermost → OpenedRead kind around at old v new Production.ReferenceType
    → TypeFits around slot (tree_of v) old new
unfolding parts_of between meaning listed_value reference_to tree_of is_listed part unfolding_.behind with_type
reference-arm kind slot other take around at old v new outer o =
    by-parts (In around slot old) Production.ReferenceType tt tt o
    (λ w s one. (reference-solid around (byte_of o.taken) w old s (one Kind.Type refl outer)).types slot other take)

plain-arm : (kind : Kind) (slot : Slot) → IsNotBare slot → takes_all slot ≡ true → (around : Around) (at : ℕ) (old : State) (v : Value)
    (new : State) → around.prefix ≡ outermost → OpenedRead kind around at old v new Production.PlainType
    → TypeFits around slot (tree_of v) old new
unfolding parts_of between meaning listed_value tree_of part unfolding_.behind
plain-arm kind slot other take around at old v new outer o =
    by-parts (In around slot old) Production.PlainType tt tt o
    (λ w s one. (one Kind.Solid refl outer).types slot other take)

item-d-arm : (kind : Kind) (slot : Slot) → IsNotBare slot → takes_expansions slot ≡ true
    → (around : Around) (at : ℕ) (old : State) (v : Value)
    (new : State) → around.prefix ≡ outermost → OpenedRead kind around at old v new Production.ItemWithD
    → TypeFits around slot (tree_of v) old new
unfolding parts_of between meaning listed_value tree_of part unfolding_.behind
item-d-arm kind slot other take around at old v new outer o =
    by-parts (In around slot old) Production.ItemWithD tt tt o
    (λ w s one. (one Kind.ItemAfterD refl outer).types slot other take)

pub type-branch : BranchRead Kind.Type
unfolding alternatives takes_qualified takes_all meaning listed_value tree_of part unfolding_.behind parts_of between number_of
type-branch rule taken parts all around at old v new front is e outer =
    let one = one-read Kind.Type rule taken parts all around at old v new front is e in
    arm one.0 one.1 one.2
  where
    arm : (p : Production) → IsAmong (alternatives Kind.Type) p → OpenedRead Kind.Type around at old v new p → KindFits Kind.Type around v old new
    arm Production.RestrictType here o = restrict-arm Kind.Type any_type refl around at old v new outer o
    arm Production.VolatileType here o = volatile-arm Kind.Type any_type refl around at old v new outer o
    arm Production.ConstType here o = const-arm Kind.Type any_type refl around at old v new outer o
    arm Production.TypeWithD here o = by-parts (In around any_type old) Production.TypeWithD tt tt o
        (λ w s one. (one Kind.AfterD refl outer).types any_type tt refl)
    arm Production.ReferenceType here o = reference-arm Kind.Type any_type tt refl around at old v new outer o
    arm Production.PlainType here o = plain-arm Kind.Type any_type tt refl around at old v new outer o
    arm (Production.Operation Operation.ExpressionC) here o = absurd here
    arm p here o = absurd here

pub item-branch : BranchRead Kind.Item
unfolding alternatives takes_qualified takes_all takes_expansions number_of
item-branch rule taken parts all around at old v new front is e outer =
    let one = one-read Kind.Item rule taken parts all around at old v new front is e in
    arm one.0 one.1 one.2
  where
    arm : (p : Production) → IsAmong (alternatives Kind.Item) p → OpenedRead Kind.Item around at old v new p → KindFits Kind.Item around v old new
    arm Production.RestrictType here o = restrict-arm Kind.Item item_type refl around at old v new outer o
    arm Production.VolatileType here o = volatile-arm Kind.Item item_type refl around at old v new outer o
    arm Production.ConstType here o = const-arm Kind.Item item_type refl around at old v new outer o
    arm Production.ItemWithD here o = item-d-arm Kind.Item item_type tt refl around at old v new outer o
    arm Production.ReferenceType here o = reference-arm Kind.Item item_type tt refl around at old v new outer o
    arm Production.PlainType here o = plain-arm Kind.Item item_type tt refl around at old v new outer o
    arm (Production.Operation Operation.ExpressionC) here o = absurd here
    arm p here o = absurd here

-- ## Arguments of templates

pub argument-branch : BranchRead Kind.Argument
unfolding alternatives takes_qualified takes_all takes_expansions meaning listed_value part unfolding_.behind number_of_kind enclosed_argument ends_arguments tree_of parts_of between number_of
argument-branch rule taken parts all around at old v new front is e outer =
    let one = one-read Kind.Argument rule taken parts all around at old v new front is e in
    arm one.0 one.1 one.2
  where
    typed : TypeFits around item_type (tree_of v) old new → KindFits Kind.Argument around v old new
    typed one = type-as-argument around v old new one

    arm : (p : Production) → IsAmong (alternatives Kind.Argument) p → OpenedRead Kind.Argument around at old v new p
        → KindFits Kind.Argument around v old new
    arm Production.RestrictType here o = typed (restrict-arm Kind.Argument item_type refl around at old v new outer o)
    arm Production.VolatileType here o = typed (volatile-arm Kind.Argument item_type refl around at old v new outer o)
    arm Production.ConstType here o = typed (const-arm Kind.Argument item_type refl around at old v new outer o)
    arm Production.ItemWithD here o = typed (item-d-arm Kind.Argument item_type tt refl around at old v new outer o)
    arm Production.ReferenceType here o = typed (reference-arm Kind.Argument item_type tt refl around at old v new outer o)
    arm Production.Expression here o = fits-by-parts Kind.Argument Production.Expression tt tt o (λ w s one x t end.
        let address = one Kind.Expression refl outer in
        subst (λ q. KindFits Kind.Argument around (enclosed_argument w) old q) (sym end.0)
        (subst (λ u. KindFits Kind.Argument around (enclosed_argument u) old s) (sym address.1) address.2))
    arm Production.ArgumentWithT here o = typed (by-parts (In around item_type old) Production.ArgumentWithT tt tt o
        (λ w s one. (one Kind.ArgumentAfterT refl outer).types item_type tt refl))
    arm Production.PlainArgument here o = typed (by-parts (In around item_type old) Production.PlainArgument tt tt o
        (λ w s one. (one Kind.SolidButT refl outer).types item_type tt refl))
    arm (Production.Operation Operation.ExpressionC) here o = absurd here
    arm p here o = absurd here

-- ## The first type of a lambda

pub first-after-t-branch : BranchRead Kind.FirstAfterT
unfolding alternatives parts_of between meaning listed_value tree_of part unfolding_.behind takes_all
first-after-t-branch rule taken parts all around at old v new front is e outer =
    let o = opened-read Kind.FirstAfterT rule taken parts all around at old v new front is e in
    by-parts (In around item_type old) Production.FirstParameter tt tt o (λ w s one. (one Kind.LeveledParameter refl outer).types item_type tt refl)

pub first-branch : BranchRead Kind.FirstOfLambda
unfolding alternatives takes_qualified takes_all takes_expansions meaning listed_value part unfolding_.behind tree_of parts_of between number_of
first-branch rule taken parts all around at old v new front is e outer =
    let one = one-read Kind.FirstOfLambda rule taken parts all around at old v new front is e in
    arm one.0 one.1 one.2
  where
    arm : (p : Production) → IsAmong (alternatives Kind.FirstOfLambda) p → OpenedRead Kind.FirstOfLambda around at old v new p
        → KindFits Kind.FirstOfLambda around v old new
    arm Production.RestrictType here o = restrict-arm Kind.FirstOfLambda item_type refl around at old v new outer o
    arm Production.VolatileType here o = volatile-arm Kind.FirstOfLambda item_type refl around at old v new outer o
    arm Production.ConstType here o = const-arm Kind.FirstOfLambda item_type refl around at old v new outer o
    arm Production.ItemWithD here o = item-d-arm Kind.FirstOfLambda item_type tt refl around at old v new outer o
    arm Production.ReferenceType here o = reference-arm Kind.FirstOfLambda item_type tt refl around at old v new outer o
    arm Production.FirstWithT here o = by-parts (In around item_type old) Production.FirstWithT tt tt o (λ w s one. one Kind.FirstAfterT refl outer)
    arm Production.PlainArgument here o = by-parts (In around item_type old) Production.PlainArgument tt tt o
        (λ w s one. (one Kind.SolidButT refl outer).types item_type tt refl)
    arm (Production.Operation Operation.ExpressionC) here o = absurd here
    arm p here o = absurd here

-- parameters of function types
pub parameter-branch : BranchRead Kind.ItemButRef
unfolding alternatives takes_qualified takes_all takes_expansions number_of
parameter-branch rule taken parts all around at old v new front is e outer =
    let one = one-read Kind.ItemButRef rule taken parts all around at old v new front is e in
    arm one.0 one.1 one.2
  where
    arm : (p : Production) → IsAmong (alternatives Kind.ItemButRef) p → OpenedRead Kind.ItemButRef around at old v new p
        → KindFits Kind.ItemButRef around v old new
    arm Production.RestrictType here o = restrict-arm Kind.ItemButRef parameter_type refl around at old v new outer o
    arm Production.VolatileType here o = volatile-arm Kind.ItemButRef parameter_type refl around at old v new outer o
    arm Production.ConstType here o = const-arm Kind.ItemButRef parameter_type refl around at old v new outer o
    arm Production.ItemWithD here o = item-d-arm Kind.ItemButRef parameter_type tt refl around at old v new outer o
    arm Production.PlainType here o = plain-arm Kind.ItemButRef parameter_type tt refl around at old v new outer o
    arm (Production.Operation Operation.ExpressionC) here o = absurd here
    arm p here o = absurd here

-- ## Right under qualifiers

pub plain-branch : BranchRead Kind.Plain
unfolding alternatives meaning listed_value tree_of part unfolding_.behind takes_all parts_of between number_of
plain-branch rule taken parts all around at old v new front is e outer =
    let one = one-read Kind.Plain rule taken parts all around at old v new front is e in
    arm one.0 one.1 one.2
  where
    arm : (p : Production) → IsAmong (alternatives Kind.Plain) p → OpenedRead Kind.Plain around at old v new p → KindFits Kind.Plain around v old new
    arm Production.PlainWithD here o = fits-by-parts Kind.Plain Production.PlainWithD tt tt o
        (λ w s one. (one Kind.AfterD refl outer).bare refl)
    arm Production.ReferenceType here o = fits-by-parts Kind.Plain Production.ReferenceType tt tt o
        (λ w s one. reference-plain around (byte_of o.taken) old w old s (one Kind.Type refl outer))
    arm Production.QualifiedPlain here o = fits-by-parts Kind.Plain Production.QualifiedPlain tt tt o
        (λ w s one. (one Kind.Solid refl outer).bare refl)
    arm (Production.Operation Operation.ExpressionC) here o = absurd here
    arm p here o = absurd here

-- ## After a D

pub item-d-branch : BranchRead Kind.ItemAfterD
unfolding alternatives parts_of between meaning part unfolding_.behind under_expansion number_of
item-d-branch rule taken parts all around at old v new front is e outer =
    let one = one-read Kind.ItemAfterD rule taken parts all around at old v new front is e in
    arm one.0 one.1 one.2
  where
    arm : (p : Production) → IsAmong (alternatives Kind.ItemAfterD) p → OpenedRead Kind.ItemAfterD around at old v new p
        → KindFits Kind.ItemAfterD around v old new
    arm Production.Expansion here o = fits-by-parts Kind.ItemAfterD Production.Expansion tt tt o (λ w s one. expansion-fits around (tree_of w) old s (one Kind.Type refl outer))
    arm Production.ItemIsType here o = fits-by-parts Kind.ItemAfterD Production.ItemIsType tt tt o
        (λ w s one. item-is-type around (byte_of o.taken) old w old s (one Kind.AfterD refl outer))
    arm (Production.Operation Operation.ExpressionC) here o = absurd here
    arm p here o = absurd here

builtin-d-arm : (around : Around) (at : ℕ) (old : State) (v : Value) (new : State)
    → OpenedRead Kind.AfterD around at old v new Production.BuiltinWithD → KindFits Kind.AfterD around v old new
unfolding parts_of is_chain meaning unfolding_.behind
builtin-d-arm around at old v new o =
    comes-as (λ w s. KindFits Kind.AfterD around w old s) Production.BuiltinWithD tt (byte_of o.taken) around at old [] old v new
    (o.goes tt)
    (subst (λ b. SolidFits takes_all around (tree (builtin (68 ∷ b ∷ [])) true) old old)
    (sym (own-byte Production.BuiltinWithD o.taken o.byte o.takes refl))
    (builtin-with-d around o.byte old o.small o.chosen))

pub after-d-branch : BranchRead Kind.AfterD
unfolding alternatives meaning part unfolding_.behind parts_of between number_of
after-d-branch rule taken parts all around at old v new front is e outer =
    let one = one-read Kind.AfterD rule taken parts all around at old v new front is e in
    arm one.0 one.1 one.2
  where
    arm : (p : Production) → IsAmong (alternatives Kind.AfterD) p → OpenedRead Kind.AfterD around at old v new p
        → KindFits Kind.AfterD around v old new
    arm Production.BuiltinWithD here o = builtin-d-arm around at old v new o
    arm Production.Vector here o = fits-by-parts Kind.AfterD Production.Vector tt tt o (λ d s number x r mark w t one.
        vector-fits around (normal (text_of d)) (tree_of w) old t (normal-digits (text_of d) number.2)
        (subst (λ q. KindFits Kind.Type around w q t) (mark.0 ∙ number.0) (one Kind.Type refl outer)))
    arm Production.NoexceptFunction here o = fits-by-parts Kind.AfterD Production.NoexceptFunction tt tt o (λ f s letter c r linkage w t one x u two.
        let rest = two Kind.FunctionRest refl outer in
        function-fits around (is_there c) true (ref_of x) rest.2 (tree_of w) (parameters (tree_of x)) old t u
        (subst (λ q. KindFits Kind.Type around w q t) (linkage Kind.MaybeCLinkage refl ∙ letter.0) (one Kind.Type refl outer))
        (parameters-fit around parameter_type (tree_of x) t u rest.0 rest.1))
    arm (Production.Operation Operation.ExpressionC) here o = absurd here
    arm p here o = absurd here
