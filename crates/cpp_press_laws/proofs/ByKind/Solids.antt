-- Types with letters of their own, and lists of types, as they were read: each production keeps to what is known of its
-- kind.
use Rattle.cpp_press_laws.proofs.Basics.{◌≡◌, ℕ, [], ◌∷◌, Bool, true, refl, sym, subst, Kind, Production, Operation, alternatives, parts_of, is_chain, number_of, builtin, State, outermost, Around, Value, tree, tree_of, text_of, normal, part, ref_of, between, no_items, signature_or, meaning, with_item, byte_of, Slot, item_type, parameter_type, takes_all}
use Rattle.cpp_grammar.specs.Unfolding as unfolding_
use Rattle.cpp_press_laws.proofs.Fits.Types.{SolidFits, pointer-fits, array-fits, member-pointer-fits}
use Rattle.cpp_press_laws.proofs.Fits.Lists.{nil-fits, list-fits}
use Rattle.cpp_press_laws.proofs.Fits.Solids.{builtin-solid}
use Rattle.cpp_press_laws.proofs.Fits.Sorts.{KindFits}
use Rattle.cpp_press_laws.proofs.Fits.Typed.{lvalue-item, rvalue-item, builtin-literal}
use Rattle.cpp_press_laws.proofs.ByKind.LeafKinds.{own-byte, normal-decimal}
use Rattle.cpp_press_laws.proofs.ByKind.Known.{OpenedRead, opened-read, comes-as, by-parts, fits-by-parts, BranchRead, one-read}
use Rattle.cpp_press_laws.proofs.ByKind.Rules.{IsAmong}

-- ## Letters

pub builtin-arm : (around : Around) (at : ℕ) (old : State) (v : Value) (new : State)
    → OpenedRead Kind.Solid around at old v new Production.Builtin → KindFits Kind.Solid around v old new
unfolding parts_of is_chain meaning unfolding_.behind
builtin-arm around at old v new o =
    comes-as (λ w s. KindFits Kind.Solid around w old s) Production.Builtin tt (byte_of o.taken) around at old [] old v new (o.goes tt)
    (subst (λ b. SolidFits takes_all around (tree (builtin (b ∷ [])) true) old old)
    (sym (own-byte Production.Builtin o.taken o.byte o.takes refl))
    (builtin-solid around o.byte old o.small o.chosen))

pub literal-arm : (around : Around) (at : ℕ) (old : State) (v : Value) (new : State)
    → OpenedRead Kind.LiteralType around at old v new Production.Builtin → KindFits Kind.LiteralType around v old new
unfolding parts_of is_chain meaning unfolding_.behind
literal-arm around at old v new o =
    comes-as (λ w s. KindFits Kind.LiteralType around w old s) Production.Builtin tt (byte_of o.taken) around at old [] old v new
    (o.goes tt)
    (subst (λ b. KindFits Kind.LiteralType around (tree (builtin (b ∷ [])) true) old old)
    (sym (own-byte Production.Builtin o.taken o.byte o.takes refl))
    (builtin-literal around o.byte old o.small o.chosen))

-- ## Types of types

pub array-rest-branch : BranchRead Kind.ArrayRest
unfolding alternatives meaning part unfolding_.behind parts_of between
array-rest-branch rule taken parts all around at old v new front is e outer =
    let o = opened-read Kind.ArrayRest rule taken parts all around at old v new front is e in
    fits-by-parts Kind.ArrayRest Production.LengthArray tt tt o (λ d s number w t one.
    array-fits around (normal (text_of d)) (tree_of w) old t (normal-decimal (text_of d) number.2)
    (subst (λ q. KindFits Kind.Type around w q t) number.0 (one Kind.Type refl outer)))

pub any-array-branch : BranchRead Kind.AnyArray
unfolding alternatives meaning part unfolding_.behind parts_of between
any-array-branch rule taken parts all around at old v new front is e outer =
    fits-by-parts Kind.AnyArray Production.AnyArray tt tt (opened-read Kind.AnyArray rule taken parts all around at old v new front is e)
    (λ w s one. one Kind.ArrayRest refl outer)

pub pointer-arm : (takes : Slot → Bool) (kind : Kind) (around : Around) (at : ℕ) (old : State) (v : Value) (new : State)
    → around.prefix ≡ outermost
    → OpenedRead kind around at old v new Production.Pointer → SolidFits takes around v old new
unfolding meaning part unfolding_.behind parts_of between
pointer-arm takes kind around at old v new outer o =
    by-parts (λ w s. SolidFits takes around w old s) Production.Pointer tt tt o
    (λ w s one. pointer-fits takes around (tree_of w) old s (one Kind.Type refl outer))

pub member-arm : (takes : Slot → Bool) (kind : Kind) (around : Around) (at : ℕ) (old : State) (v : Value) (new : State)
    → around.prefix ≡ outermost
    → OpenedRead kind around at old v new Production.MemberPointer → SolidFits takes around v old new
unfolding meaning part unfolding_.behind parts_of between
member-arm takes kind around at old v new outer o =
    by-parts (λ w s. SolidFits takes around w old s) Production.MemberPointer tt tt o
    (λ w s one x t two. member-pointer-fits takes around (tree_of w) (tree_of x) old s t (one Kind.Type refl outer) (two Kind.Type refl outer))

-- ## Parameters

pub function-rest-branch : BranchRead Kind.FunctionRest
unfolding alternatives meaning with_item tree_of ref_of part unfolding_.behind parts_of between number_of
function-rest-branch rule taken parts all around at old v new front is e outer =
    let one = one-read Kind.FunctionRest rule taken parts all around at old v new front is e in
    arm one.0 one.1 one.2
  where
    arm : (p : Production) → IsAmong (alternatives Kind.FunctionRest) p → OpenedRead Kind.FunctionRest around at old v new p
        → KindFits Kind.FunctionRest around v old new
    arm Production.RestEnd here o = fits-by-parts Kind.FunctionRest Production.RestEnd tt tt o (tt, nil-fits around parameter_type old, tt)
    arm Production.RestLvalue here o = fits-by-parts Kind.FunctionRest Production.RestLvalue tt tt o (λ w s one. one Kind.AfterR refl outer)
    arm Production.RestRvalue here o = fits-by-parts Kind.FunctionRest Production.RestRvalue tt tt o (λ w s one. one Kind.AfterO refl outer)
    arm Production.RestItem here o = fits-by-parts Kind.FunctionRest Production.RestItem tt tt o
        (λ w s one x t two. let rest = two Kind.FunctionRest refl outer in
        (tt, list-fits around parameter_type (tree_of w) (tree_of x) old s t (one Kind.ItemButRef refl outer) rest.1, rest.2))
    arm (Production.Operation Operation.ExpressionC) here o = absurd here
    arm p here o = absurd here

pub after-r-branch : BranchRead Kind.AfterR
unfolding alternatives meaning signature_or tree_of ref_of unfolding_.behind parts_of between number_of
after-r-branch rule taken parts all around at old v new front is e outer =
    let one = one-read Kind.AfterR rule taken parts all around at old v new front is e in
    arm one.0 one.1 one.2
  where
    arm : (p : Production) → IsAmong (alternatives Kind.AfterR) p → OpenedRead Kind.AfterR around at old v new p
        → KindFits Kind.AfterR around v old new
    arm Production.RefEnd here o = fits-by-parts Kind.AfterR Production.RefEnd tt tt o (tt, nil-fits around parameter_type old, tt)
    arm Production.LvalueItem here o = fits-by-parts Kind.AfterR Production.LvalueItem tt tt o (λ w s one x t two.
        lvalue-item around (byte_of o.taken) old (tree_of w) x old s t (one Kind.Type refl outer) (two Kind.FunctionRest refl outer))
    arm (Production.Operation Operation.ExpressionC) here o = absurd here
    arm p here o = absurd here

pub after-o-branch : BranchRead Kind.AfterO
unfolding alternatives meaning signature_or tree_of ref_of unfolding_.behind parts_of between number_of
after-o-branch rule taken parts all around at old v new front is e outer =
    let one = one-read Kind.AfterO rule taken parts all around at old v new front is e in
    arm one.0 one.1 one.2
  where
    arm : (p : Production) → IsAmong (alternatives Kind.AfterO) p → OpenedRead Kind.AfterO around at old v new p
        → KindFits Kind.AfterO around v old new
    arm Production.RefEnd here o = fits-by-parts Kind.AfterO Production.RefEnd tt tt o (tt, nil-fits around parameter_type old, tt)
    arm Production.RvalueItem here o = fits-by-parts Kind.AfterO Production.RvalueItem tt tt o (λ w s one x t two.
        rvalue-item around (byte_of o.taken) old (tree_of w) x old s t (one Kind.Type refl outer) (two Kind.FunctionRest refl outer))
    arm (Production.Operation Operation.ExpressionC) here o = absurd here
    arm p here o = absurd here

-- ## Items

pub items-branch : BranchRead Kind.Items
unfolding alternatives meaning no_items tree_of part unfolding_.behind parts_of between
items-branch rule taken parts all around at old v new front is e outer =
    let o = opened-read Kind.Items rule taken parts all around at old v new front is e in
    fits-by-parts Kind.Items Production.Items tt tt o
    (λ w s one x t two. (tt, list-fits around item_type (tree_of w) (no_items x) old s t (one Kind.Item refl outer) (two Kind.Items refl outer).1))
