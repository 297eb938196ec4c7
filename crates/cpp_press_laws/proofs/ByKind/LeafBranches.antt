-- Marks, letters, numbers, offsets, discriminators and suffixes that were read: what is known of their kinds, and that
-- nothing else changes.
use Rattle.cpp_press_laws.proofs.Basics.{◌≡◌, ℕ, inl, inr, List, [], ◌∷◌, true, false, refl, ap, arith, sym, subst, ◌∙◌, Option, None, Some, Kind, Production, Operation, Alternative, alternatives, choose, is_chain, parts_of, pick, is_in, in_ranges, among, number_of, State, Around, Value, letter_of, text_of, signed_of, adjustment_of, normal, part, mark_of, letter, between, meaning, discriminator_of, byte_of, IsSpellableSuffix, IsAbiMark, nat_eq, cond, eqb-true, lvalue_only, rvalue_only, explicit_object, either_cond}
use Rattle.cpp_grammar.specs.Unfolding as unfolding_
use Rattle.cpp_press_laws.proofs.ByKind.Rules.{OneOf, IsAmong}
use Rattle.cpp_press_laws.proofs.ByKind.LeafKinds.{own-byte, only-at, signed-spellable, normal-digits, spellable-discriminator}
use Rattle.cpp_press_laws.proofs.ByKind.Known.{KindRead, MarkRead, OpenedRead, opened-read, by-parts, BranchTo, BranchRead, one-read}

-- ## Marks

abbrev pub OnlyMarks : List Alternative → Type 0
OnlyMarks [] = Unit {0}
OnlyMarks (a ∷ rest) = (a.production ≡ Production.Mark) × OnlyMarks rest

one-mark : (all : List Alternative) (F : Production → Type 0) → OnlyMarks all → OneOf all F → F Production.Mark
one-mark [] F only one = absurd one
one-mark (a ∷ []) F only f = subst F only.0 f
one-mark (a ∷ b ∷ rest) F only (inl f) = subst F only.0 f
one-mark (a ∷ b ∷ rest) F only (inr more) = one-mark (b ∷ rest) F only.1 more

-- the byte that was taken is the mark
mark-taken : (kind : Kind) {around : Around} {at : ℕ} {old : State} {v : Value} {new : State}
    → OpenedRead kind around at old v new Production.Mark → MarkRead kind v old new
unfolding parts_of is_chain meaning unfolding_.behind letter_of
mark-taken kind {around} {at} {old} {v} {new} o =
    let eaten : byte_of o.taken ≡ o.byte = own-byte Production.Mark o.taken o.byte o.takes refl in
    by-parts (λ w s. MarkRead kind w old s) Production.Mark tt tt o (refl, refl, omega (arith, eaten, o.small), ap (choose kind) eaten ∙ o.chosen)

-- a branch of a kind of letters is read as a letter that the kind allows
pub letter-branch : (kind : Kind) → OnlyMarks (alternatives kind) → BranchTo kind (λ around v old new. MarkRead kind v old new)
letter-branch kind only rule taken parts all around at old v new front is e =
    mark-taken kind (one-mark (alternatives kind) (OpenedRead kind around at old v new) only
    (opened-read kind rule taken parts all around at old v new front is e))

-- a branch of a kind of marks leaves the state as it is; nothing is claimed about the mark
pub mark-branch : (kind : Kind) → OnlyMarks (alternatives kind) → BranchTo kind (λ around v old new. new ≡ old)
mark-branch kind only rule taken parts all around at old v new front is e =
    (letter-branch kind only rule taken parts all around at old v new front is e).0

-- a reference mark that the grammar reads isn't the mark of an explicit object
abi-mark : (byte : ℕ) → choose Kind.MaybeRef byte ≡ Some Production.Mark → IsAbiMark (mark_of (letter byte))
unfolding mark_of alternatives choose pick is_in in_ranges among
abi-mark byte chosen =
    either_cond IsAbiMark (nat_eq byte 82) lvalue_only (cond (nat_eq byte 72) explicit_object rvalue_only) (λ is. tt)
    (λ other. either_cond IsAbiMark (nat_eq byte 72) explicit_object rvalue_only (λ is. never (subst (λ b. choose Kind.MaybeRef b ≡ Some Production.Mark)
    (eqb-true byte 72 is) chosen)) (λ no. tt))
  where
    never : ◌≡◌ {A = Option Production} None (Some Production.Mark) → ⊥
    never h = cc

-- a reference mark
pub ref-branch : BranchRead Kind.MaybeRef
unfolding alternatives
ref-branch rule taken parts all around at old v new front is e =
    let one = letter-branch Kind.MaybeRef (refl, tt) rule taken parts all around at old v new front is e in
    (one.0, subst (λ w. IsAbiMark (mark_of w)) (sym one.1) (abi-mark (letter_of v) one.3))

-- after an l: a letter, or the name of a literal operator
pub operator-after-l-branch : BranchRead Kind.OperatorAfterL
unfolding alternatives parts_of between meaning part unfolding_.behind number_of
operator-after-l-branch rule taken parts all around at old v new front is e =
    let one = one-read Kind.OperatorAfterL rule taken parts all around at old v new front is e in
    arm one.0 one.1 one.2
  where
    arm : (p : Production) → IsAmong (alternatives Kind.OperatorAfterL) p → OpenedRead Kind.OperatorAfterL around at old v new p
        → KindRead Kind.OperatorAfterL around v old new
    arm Production.Mark here o = inl (mark-taken Kind.OperatorAfterL o)
    arm Production.LiteralOperator here o = by-parts (λ w s. KindRead Kind.OperatorAfterL around w old s) Production.LiteralOperator tt tt o
        (λ w s name. inr (text_of w, name.0, refl, name.2))
    arm (Production.Operation Operation.ExpressionC) here o = absurd here
    arm p here o = absurd here

-- ## Numbers and offsets

pub integer-branch : BranchRead Kind.Integer
unfolding alternatives parts_of between meaning part unfolding_.behind signed_of number_of
integer-branch rule taken parts all around at old v new front is e =
    let one = one-read Kind.Integer rule taken parts all around at old v new front is e in
    arm one.0 one.1 one.2
  where
    arm : (p : Production) → IsAmong (alternatives Kind.Integer) p → OpenedRead Kind.Integer around at old v new p
        → KindRead Kind.Integer around v old new
    arm Production.Negative here o = by-parts (λ w s. KindRead Kind.Integer around w old s) Production.Negative tt tt o
        (λ w s number. (number.0, signed-spellable true (text_of w) number.2))
    arm Production.Positive here o = by-parts (λ w s. KindRead Kind.Integer around w old s) Production.Positive tt tt o
        (λ w s number. (number.0, signed-spellable false (text_of w) number.2))
    arm (Production.Operation Operation.ExpressionC) here o = absurd here
    arm p here o = absurd here

pub call-offset-branch : BranchRead Kind.CallOffset
unfolding alternatives parts_of between meaning part unfolding_.behind adjustment_of number_of
call-offset-branch rule taken parts all around at old v new front is e =
    let one = one-read Kind.CallOffset rule taken parts all around at old v new front is e in
    arm one.0 one.1 one.2
  where
    arm : (p : Production) → IsAmong (alternatives Kind.CallOffset) p → OpenedRead Kind.CallOffset around at old v new p
        → KindRead Kind.CallOffset around v old new
    arm Production.NonVirtualOffset here o = by-parts (λ w s. KindRead Kind.CallOffset around w old s) Production.NonVirtualOffset tt tt o (λ w s read m t mark.
        let one = read Kind.Integer refl in (mark.0 ∙ one.0, one.1))
    arm Production.VirtualOffset here o = by-parts (λ w s. KindRead Kind.CallOffset around w old s) Production.VirtualOffset tt tt o (λ w s read m t mark x u more b q end.
        let one = read Kind.Integer refl in
        let two = more Kind.Integer refl in
        (end.0 ∙ two.0 ∙ mark.0 ∙ one.0, (one.1, two.1)))
    arm (Production.Operation Operation.ExpressionC) here o = absurd here
    arm p here o = absurd here

-- ## Discriminators

pub discriminator-branch : BranchRead Kind.MaybeDiscriminator
unfolding alternatives parts_of between meaning part unfolding_.behind
discriminator-branch rule taken parts all around at old v new front is e =
    let o = opened-read Kind.MaybeDiscriminator rule taken parts all around at old v new front is e in
    by-parts (λ w s. KindRead Kind.MaybeDiscriminator around w old s) Production.Discriminator tt tt o (λ w s rest. rest Kind.DiscriminatorRest refl)

pub discriminator-rest-branch : BranchRead Kind.DiscriminatorRest
unfolding alternatives parts_of between meaning part unfolding_.behind is_chain discriminator_of number_of
discriminator-rest-branch rule taken parts all around at old v new front is e =
    let one = one-read Kind.DiscriminatorRest rule taken parts all around at old v new front is e in
    arm one.0 one.1 one.2
  where
    arm : (p : Production) → IsAmong (alternatives Kind.DiscriminatorRest) p → OpenedRead Kind.DiscriminatorRest around at old v new p
        → KindRead Kind.DiscriminatorRest around v old new
    arm Production.OneDigit here o =
        let eaten : byte_of o.taken ≡ o.byte = own-byte Production.OneDigit o.taken o.byte o.takes refl in
        by-parts (λ w s. KindRead Kind.DiscriminatorRest around w old s) Production.OneDigit tt tt o
        (refl, (omega (arith, eaten, o.small), ap (choose Kind.DiscriminatorRest) eaten ∙ o.chosen))
    arm Production.ManyDigits here o = by-parts (λ w s. KindRead Kind.DiscriminatorRest around w old s) Production.ManyDigits tt tt o (λ w s number m t mark.
        (mark.0 ∙ number.0, spellable-discriminator (normal (text_of w)) (normal-digits (text_of w) number.2)))
    arm (Production.Operation Operation.ExpressionC) here o = absurd here
    arm p here o = absurd here

-- ## Suffixes

pub suffix-more-branch : BranchRead Kind.SuffixMore
unfolding alternatives parts_of between meaning part unfolding_.behind is_chain text_of
suffix-more-branch rule taken parts all around at old v new front is e =
    let o = opened-read Kind.SuffixMore rule taken parts all around at old v new front is e in
    let eaten : byte_of o.taken ≡ o.byte = own-byte Production.SuffixByte o.taken o.byte o.takes refl in
    by-parts (λ w s. KindRead Kind.SuffixMore around w old s) Production.SuffixByte tt tt o (λ w s more.
    let rest = more Kind.SuffixMore refl in
    (rest.0, (omega (arith, eaten, o.small), ap (choose Kind.SuffixMore) eaten ∙ o.chosen, rest.1)))

pub suffix-first-branch : BranchRead Kind.SuffixFirst
unfolding alternatives parts_of between meaning part unfolding_.behind is_chain text_of
suffix-first-branch rule taken parts all around at old v new front is e =
    let o = opened-read Kind.SuffixFirst rule taken parts all around at old v new front is e in
    let eaten : byte_of o.taken ≡ o.byte = own-byte Production.SuffixByte o.taken o.byte o.takes refl in
    by-parts (λ w s. KindRead Kind.SuffixFirst around w old s) Production.SuffixByte tt tt o (λ w s more.
    let rest = more Kind.SuffixMore refl in
    (rest.0, (refl, omega (arith, eaten, o.small), ap (choose Kind.SuffixFirst) eaten ∙ o.chosen, rest.1)))

pub suffix-branch : BranchRead Kind.MaybeSuffix
unfolding alternatives parts_of between meaning part unfolding_.behind is_chain text_of
suffix-branch rule taken parts all around at old v new front is e =
    let o = opened-read Kind.MaybeSuffix rule taken parts all around at old v new front is e in
    let dot : byte_of o.taken ≡ 46 =
    own-byte Production.Suffix o.taken o.byte o.takes refl ∙ only-at Kind.MaybeSuffix Production.Suffix 46 refl o.byte o.chosen in
    by-parts (λ w s. KindRead Kind.MaybeSuffix around w old s) Production.Suffix tt tt o (λ w s first.
    let rest = first Kind.SuffixFirst refl in
    (rest.0, subst (λ b. IsSpellableSuffix (b ∷ text_of w)) (sym dot) rest.1))
