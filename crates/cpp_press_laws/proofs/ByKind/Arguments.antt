-- Template arguments of each kind that were read: lists of arguments, packs, literals and addresses.
use Rattle.cpp_press_laws.proofs.Basics.{◌≡◌, ℕ, [], ◌∷◌, true, false, refl, ap, sym, subst, ◌∙◌, nat_eq, Kind, Production, Operation, alternatives, is_chain, number_of_kind, parts_of, number_of, absent, State, outermost, Around, Value, pair, tree_of, letter_of, part, between, no_items, operation_by, operation_or_address, is_code, meaning, byte_of, literal_type, IsBuiltin}
use Rattle.cpp_grammar.specs.Unfolding as unfolding_
use Rattle.cpp_press_laws.proofs.Fits.Symbols.{WholeFits}
use Rattle.cpp_press_laws.proofs.Fits.Sorts.{KindFits, Meant}
use Rattle.cpp_press_laws.proofs.Fits.Arguments.{arguments-fit, null-fits, boolean-fits, encoding-literal-fits, address-fits}
use Rattle.cpp_press_laws.proofs.Fits.Typed as step
use Rattle.cpp_press_laws.proofs.Fits.Places.{behind-bytes}
use Rattle.cpp_press_laws.proofs.ByKind.LeafKinds.{own-byte, only-at}
use Rattle.cpp_press_laws.proofs.ByKind.Known.{OpenedRead, opened-read, fits-by-parts, BranchRead, one-read}
use Rattle.cpp_press_laws.proofs.ByKind.Rules.{IsAmong}

-- ## Literals

pub literal-after-d-branch : BranchRead Kind.LiteralAfterD
unfolding alternatives is_chain unfolding_.behind number_of_kind parts_of between meaning tree_of part number_of
literal-after-d-branch rule taken parts all around at old v new front is e outer =
    let one = one-read Kind.LiteralAfterD rule taken parts all around at old v new front is e in
    arm one.0 one.1 one.2
  where
    arm : (p : Production) → IsAmong (alternatives Kind.LiteralAfterD) p → OpenedRead Kind.LiteralAfterD around at old v new p
        → KindFits Kind.LiteralAfterD around v old new
    arm Production.NullLiteral here o = fits-by-parts Kind.LiteralAfterD Production.NullLiteral tt tt o (λ w s zero.
        subst (KindFits Kind.LiteralAfterD around (Meant Production.NullLiteral (byte_of o.taken) around (w ∷ [])) old) (sym (zero Kind.MaybeZero refl))
        (λ in_pack. null-fits around in_pack old))
    arm Production.CharLiteral here o = fits-by-parts Kind.LiteralAfterD Production.CharLiteral tt tt o (λ w s one.
        let number = one Kind.Integer refl in
        subst (KindFits Kind.LiteralAfterD around (Meant Production.CharLiteral (byte_of o.taken) around (w ∷ [])) old) (sym number.0)
        (step.char-literal around (byte_of o.taken) old w old
        (subst (λ b. IsBuiltin literal_type (68 ∷ b ∷ [])) (sym (own-byte Production.CharLiteral o.taken o.byte o.takes refl)) (refl, o.small, o.chosen))
        number.1))
    arm (Production.Operation Operation.ExpressionC) here o = absurd here
    arm p here o = absurd here

pub literal-branch : BranchRead Kind.Literal
unfolding alternatives unfolding_.behind number_of_kind parts_of between meaning tree_of part number_of
literal-branch rule taken parts all around at old v new front is e outer =
    let one = one-read Kind.Literal rule taken parts all around at old v new front is e in
    arm one.0 one.1 one.2
  where
    arm : (p : Production) → IsAmong (alternatives Kind.Literal) p → OpenedRead Kind.Literal around at old v new p
        → KindFits Kind.Literal around v old new
    arm Production.EncodingLiteral here o = fits-by-parts Kind.Literal Production.EncodingLiteral tt tt o (λ m s mark w t one.
        λ in_pack. encoding-literal-fits around in_pack (tree_of w) old t (behind-bytes around (tree_of w) old t
        (subst (λ q. WholeFits around (tree_of w) q t) mark.0 (one Kind.Encoding refl).fits)))
    arm Production.BoolLiteral here o = fits-by-parts Kind.Literal Production.BoolLiteral tt tt o (λ w s bit.
        subst (KindFits Kind.Literal around (Meant Production.BoolLiteral (byte_of o.taken) around (w ∷ [])) old) (sym (bit Kind.Bit refl))
        (λ in_pack. boolean-fits around in_pack (nat_eq (letter_of w) 49) old))
    arm Production.LiteralWithD here o = fits-by-parts Kind.Literal Production.LiteralWithD tt tt o
        (λ w s one. one Kind.LiteralAfterD refl outer)
    arm Production.IntegerLiteral here o = fits-by-parts Kind.Literal Production.IntegerLiteral tt tt o (λ w s one n t read.
        let number = read Kind.Integer refl in
        subst (KindFits Kind.Literal around (Meant Production.IntegerLiteral (byte_of o.taken) around (w ∷ n ∷ [])) old) (sym number.0)
        (step.integer-literal around (byte_of o.taken) old w n old s (one Kind.LiteralType refl outer) number.1))
    arm (Production.Operation Operation.ExpressionC) here o = absurd here
    arm p here o = absurd here

-- ## Addresses

pub addressed-literal-branch : BranchRead Kind.AddressedLiteral
unfolding alternatives number_of_kind parts_of between meaning tree_of part unfolding_.behind
addressed-literal-branch rule taken parts all around at old v new front is e outer =
    let o = opened-read Kind.AddressedLiteral rule taken parts all around at old v new front is e in
    fits-by-parts Kind.AddressedLiteral Production.EncodingLiteral tt tt o (λ m s mark w t one. (
      tree_of w,
      refl,
      λ in_pack. address-fits around in_pack (tree_of w) old t (behind-bytes around (tree_of w) old t
          (subst (λ q. WholeFits around (tree_of w) q t) mark.0 (one Kind.Encoding refl).fits)),
    ))

pub addressed-branch : BranchRead Kind.AddressedExpression
unfolding alternatives meaning part unfolding_.behind number_of_kind parts_of between
addressed-branch rule taken parts all around at old v new front is e outer =
    let o = opened-read Kind.AddressedExpression rule taken parts all around at old v new front is e in
    fits-by-parts Kind.AddressedExpression Production.AddressedLiteral tt tt o (λ w s one x t end.
    subst (λ q. KindFits Kind.AddressedLiteral around w old q) (sym end.0) (one Kind.AddressedLiteral refl outer))

pub expression-after-a-branch : BranchRead Kind.ExpressionAfterA
unfolding alternatives meaning part tree_of unfolding_.behind is_chain number_of_kind parts_of between
expression-after-a-branch rule taken parts all around at old v new front is e outer =
    let o = opened-read Kind.ExpressionAfterA rule taken parts all around at old v new front is e in
    fits-by-parts Kind.ExpressionAfterA Production.AddressExpression tt tt o (λ w s one.
    let operand = one Kind.AddressedExpression refl outer in
    let letter : byte_of o.taken ≡ 100 = own-byte Production.AddressExpression o.taken o.byte o.takes refl
    ∙ only-at Kind.ExpressionAfterA Production.AddressExpression 100 refl o.byte o.chosen in
    (operand.0, ap (λ b. pair b (tree_of w) absent) letter ∙ ap (λ u. pair 100 (tree_of u) absent) operand.1, operand.2))

pub expression-branch : BranchRead Kind.Expression
unfolding alternatives meaning operation_by operation_or_address is_code part unfolding_.behind is_chain number_of_kind parts_of between
expression-branch rule taken parts all around at old v new front is e outer =
    let o = opened-read Kind.Expression rule taken parts all around at old v new front is e in
    fits-by-parts Kind.Expression Production.ExpressionA tt tt o (λ w s one.
    let operands = one Kind.ExpressionAfterA refl outer in
    let letter : byte_of o.taken ≡ 97 = own-byte Production.ExpressionA o.taken o.byte o.takes refl
    ∙ only-at Kind.Expression Production.ExpressionA 97 refl o.byte o.chosen in
    (operands.0, ap (λ b. operation_by b w) letter ∙ ap (λ u. operation_by 97 u) operands.1, operands.2))

-- ## Lists

pack-argument : (kind : Kind) (around : Around) (at : ℕ) (old : State) (v : Value) (new : State) → around.prefix ≡ outermost
    → OpenedRead kind around at old v new Production.PackArgument → KindFits Kind.ArgumentList around v old new
unfolding parts_of between number_of_kind
pack-argument kind around at old v new outer o =
    fits-by-parts Kind.ArgumentList Production.PackArgument tt tt o (λ w s one m r end x t two.
    step.pack-argument around (byte_of o.taken) old (no_items w) m x old s t (one Kind.PackList refl outer)
    (subst (λ q. KindFits Kind.ArgumentList around x q t) end.0 (two Kind.ArgumentList refl outer)))

literal-argument : (kind : Kind) (around : Around) (at : ℕ) (old : State) (v : Value) (new : State) → around.prefix ≡ outermost
    → OpenedRead kind around at old v new Production.LiteralArgument → KindFits Kind.ArgumentList around v old new
unfolding parts_of between meaning no_items tree_of part unfolding_.behind
literal-argument kind around at old v new outer o =
    fits-by-parts Kind.ArgumentList Production.LiteralArgument tt tt o (λ w s one m r end x t two.
    arguments-fit around false (tree_of w) (no_items x) old s t (one Kind.Literal refl outer false)
    (subst (λ q. KindFits Kind.ArgumentList around x q t) end.0 (two Kind.ArgumentList refl outer)))

any-argument : (kind : Kind) (around : Around) (at : ℕ) (old : State) (v : Value) (new : State) → around.prefix ≡ outermost
    → OpenedRead kind around at old v new Production.AnyArgument → KindFits Kind.ArgumentList around v old new
unfolding parts_of between meaning no_items tree_of part unfolding_.behind
any-argument kind around at old v new outer o =
    fits-by-parts Kind.ArgumentList Production.AnyArgument tt tt o
    (λ w s one x t two. arguments-fit around false (tree_of w) (no_items x) old s t (one Kind.Argument refl outer false) (two Kind.ArgumentList refl outer))

pub argument-list-branch : BranchRead Kind.ArgumentList
unfolding alternatives number_of
argument-list-branch rule taken parts all around at old v new front is e outer =
    let one = one-read Kind.ArgumentList rule taken parts all around at old v new front is e in
    arm one.0 one.1 one.2
  where
    arm : (p : Production) → IsAmong (alternatives Kind.ArgumentList) p → OpenedRead Kind.ArgumentList around at old v new p
        → KindFits Kind.ArgumentList around v old new
    arm Production.PackArgument here o = pack-argument Kind.ArgumentList around at old v new outer o
    arm Production.LiteralArgument here o = literal-argument Kind.ArgumentList around at old v new outer o
    arm Production.AnyArgument here o = any-argument Kind.ArgumentList around at old v new outer o
    arm (Production.Operation Operation.ExpressionC) here o = absurd here
    arm p here o = absurd here

pub arguments-first-branch : BranchRead Kind.ArgumentsFirst
unfolding alternatives number_of
arguments-first-branch rule taken parts all around at old v new front is e outer =
    let one = one-read Kind.ArgumentsFirst rule taken parts all around at old v new front is e in
    arm one.0 one.1 one.2
  where
    arm : (p : Production) → IsAmong (alternatives Kind.ArgumentsFirst) p → OpenedRead Kind.ArgumentsFirst around at old v new p
        → KindFits Kind.ArgumentList around v old new
    arm Production.PackArgument here o = pack-argument Kind.ArgumentsFirst around at old v new outer o
    arm Production.LiteralArgument here o = literal-argument Kind.ArgumentsFirst around at old v new outer o
    arm Production.AnyArgument here o = any-argument Kind.ArgumentsFirst around at old v new outer o
    arm (Production.Operation Operation.ExpressionC) here o = absurd here
    arm p here o = absurd here

pub pack-list-branch : BranchRead Kind.PackList
unfolding alternatives number_of_kind parts_of between meaning no_items tree_of part unfolding_.behind number_of
pack-list-branch rule taken parts all around at old v new front is e outer =
    let one = one-read Kind.PackList rule taken parts all around at old v new front is e in
    arm one.0 one.1 one.2
  where
    arm : (p : Production) → IsAmong (alternatives Kind.PackList) p → OpenedRead Kind.PackList around at old v new p
        → KindFits Kind.PackList around v old new
    arm Production.LiteralElement here o = fits-by-parts Kind.PackList Production.LiteralElement tt tt o (λ w s one m r end x t two.
        arguments-fit around true (tree_of w) (no_items x) old s t (one Kind.Literal refl outer true)
        (subst (λ q. KindFits Kind.PackList around x q t) end.0 (two Kind.PackList refl outer)))
    arm Production.AnyElement here o = fits-by-parts Kind.PackList Production.AnyElement tt tt o
        (λ w s one x t two. arguments-fit around true (tree_of w) (no_items x) old s t (one Kind.Argument refl outer true) (two Kind.PackList refl outer))
    arm (Production.Operation Operation.ExpressionC) here o = absurd here
    arm p here o = absurd here
