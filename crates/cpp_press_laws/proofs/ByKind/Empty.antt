-- The value of a kind that may be empty, if it is empty.
use Rattle.cpp_press_laws.proofs.Basics.{◌≡◌, [], ◌∷◌, inl, true, false, refl, subst, sym, ◌∙◌, false≢true, empty, found, Kind, number_of_kind, may_be_empty, State, Around, nothing_there, text_of, mark_of, no_items, discriminator_of, cpp, empty_at_kind, ok_same, item_type}
use Rattle.cpp_press_laws.proofs.ByKind.Rules.{kind-at}
use Rattle.cpp_press_laws.proofs.ByKind.Leaves.{leaf-same}
use Rattle.cpp_press_laws.proofs.Fits.Lists.{nil-fits}
use Rattle.cpp_press_laws.proofs.Fits.Typed.{no-arguments}
use Rattle.cpp_press_laws.proofs.ByKind.Known.{KindRead, ShapeRead}

-- the value of an empty part
nothing-read : (kind : Kind) → may_be_empty kind ≡ true → (around : Around) (state : State) → KindRead kind around nothing_there state state
unfolding may_be_empty no_items discriminator_of text_of mark_of
nothing-read Kind.MaybeSuffix may around state = (refl, tt)
nothing-read Kind.SuffixMore may around state = (refl, tt)
nothing-read Kind.MaybeRestrict may around state = refl
nothing-read Kind.MaybeVolatile may around state = refl
nothing-read Kind.MaybeConst may around state = refl
nothing-read Kind.MaybeRef may around state = (refl, tt)
nothing-read Kind.MaybeDiscriminator may around state = (refl, tt)
nothing-read Kind.MaybeCLinkage may around state = refl
nothing-read Kind.Items may around state = λ outer. (tt, nil-fits around item_type state)
nothing-read Kind.MaybeArguments may around state = inl (refl, refl)
nothing-read Kind.ArgumentsAlone may around state = inl (refl, refl)
nothing-read Kind.ArgumentList may around state = λ outer. no-arguments around false state
nothing-read Kind.ArgumentsFirst may around state = λ outer. no-arguments around false state
nothing-read Kind.MaybeTags may around state = (refl, refl)
nothing-read Kind.VendorArguments may around state = (refl, refl)
nothing-read Kind.Declarations may around state = λ outer. tt
nothing-read Kind.BaseArguments may around state = λ outer. tt
nothing-read Kind.HeldArguments may around state = λ outer. tt
nothing-read Kind.ConceptArguments may around state = λ outer. tt
nothing-read Kind.Expressions may around state = λ outer. tt
nothing-read Kind.HexMore may around state = λ outer. tt
nothing-read Kind.MoreModule may around state = λ outer. tt
nothing-read Kind.MoreNames may around state = λ outer. tt
nothing-read Kind.MaybePartition may around state = λ outer. tt
nothing-read Kind.MaybeBefore may around state = λ outer. tt
nothing-read Kind.Requirements may around state = λ outer. tt
nothing-read Kind.MaybeNoexcept may around state = λ outer. tt
nothing-read Kind.AfterNoexcept may around state = λ outer. tt
nothing-read Kind.PackList may around state = λ outer. no-arguments around true state
nothing-read Kind.MaybeZero may around state = refl
nothing-read _ may around state = absurd (false≢true may)

-- the empty shape is read as nothing
pub empty-read : ShapeRead empty
unfolding cpp
empty-read kind around at state v new front is e =
    let may : may_be_empty kind ≡ true = sym (empty_at_kind (number_of_kind kind) kind (kind-at kind)) ∙ is in
    let r = leaf-same (λ w. KindRead kind around w state state) v nothing_there state new
    (sym (ok_same (found (nothing_there ∷ []) state) (found (v ∷ []) new) e)) (nothing-read kind may around state) in
    subst (KindRead kind around v state) (sym r.0) r.1
