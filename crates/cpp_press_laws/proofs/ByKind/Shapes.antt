-- What a shape of the grammar is read as fits, whatever its kind.
use Rattle.cpp_press_laws.proofs.Basics.{◌≡◌, ℕ, List, false, refl, sym, subst, false≢true, Rule, Tree as Shape, Forest, branch, Kind, Production, Operation, alternatives, choose, pick, is_in, in_ranges, among, number_of_kind, number_of, kinds, parts_of, may_be_empty, Term, vendor, State, outermost, Around, Value, tree, tree_of, ref_of, text_of, is_there, part, after, applied, between, meaning, parameters, byte_of, same_choice, each_below, abi, sheet, sheet_with, IsReadFrom, parameter_type, takes_all, SymbolFits}
use Rattle.sym_shape.specs.declared.rule.Sym.TheVariants.{Kind as OfKind}
use Rattle.cpp_grammar.specs.Unfolding as unfolding_
use Rattle.cpp_grammar.proofs.ClosedTrees.{is_encoding as holds_encoding}
use Rattle.cpp_press_laws.proofs.Fits.Sorts.{KindFits, takes_literals}
use Rattle.cpp_press_laws.proofs.Fits.Types.{complex-fits}
use Rattle.cpp_press_laws.proofs.Fits.Lists.{parameters-fit, function-fits}
use Rattle.cpp_press_laws.proofs.Fits.Solids.{vendor-fits}
use Rattle.cpp_press_laws.proofs.ByKind.Rules.{AllOf, every-shape, by-name, IsAmong}
use Rattle.cpp_press_laws.proofs.ByKind.LeafBranches.{letter-branch, mark-branch, ref-branch, operator-after-l-branch, integer-branch, call-offset-branch, discriminator-branch, discriminator-rest-branch, suffix-more-branch, suffix-first-branch, suffix-branch}
use Rattle.cpp_press_laws.proofs.ByKind.Known.{InFront, ShapeRead, OpenedRead, opened-read, taken-among, BranchRead, fits-by-parts, one-read, OwnNameRead}
use Rattle.cpp_press_laws.proofs.ByKind.Types.{type-branch, plain-branch, item-branch, argument-branch, parameter-branch, item-d-branch, after-d-branch, first-branch, first-after-t-branch}
use Rattle.cpp_press_laws.proofs.ByKind.Solids.{builtin-arm, literal-arm, array-rest-branch, any-array-branch, pointer-arm, member-arm, function-rest-branch, after-r-branch, after-o-branch, items-branch}
use Rattle.cpp_press_laws.proofs.ByKind.References.{abbreviation-branch}
use Rattle.cpp_press_laws.proofs.ByKind.Empty.{empty-read}
use Rattle.cpp_press_laws.proofs.ByKind.Root.{read-fits}
use Rattle.cpp_press_laws.proofs.ByKind.PieceKinds.{source-or-local-branch, unqualified-branch, operator-branch, other-operator-branch, anonymous-branch}
use Rattle.cpp_press_laws.proofs.ByKind.Arguments.{argument-list-branch, arguments-first-branch, pack-list-branch, literal-branch, literal-after-d-branch, addressed-literal-branch, addressed-branch, expression-after-a-branch, expression-branch}
use Rattle.cpp_press_laws.proofs.ByKind.Nests.{nest-branch, nest-after-s-branch, nest-rest-branch, nest-rest-alone-branch, nest-rest-or-end-branch, nest-more-or-end-branch, nest-tail-branch, component-branch, component-after-c-branch, constructor-after-c-branch}
use Rattle.cpp_press_laws.proofs.ByKind.Names.{arguments-branch, maybe-arguments-branch, arguments-alone-branch, argument-after-t-branch, type-after-s-branch, type-in-std-branch, maybe-tags-branch, vendor-arguments-branch, name-after-s-branch, with-s-solid, parameter-solid, nested-solid, source-solid, local-type-name-solid, source-own, internal-own, local-type-own, operator-own, with-s-own, parameter-after-t-branch, leveled-branch}
use Rattle.cpp_press_laws.proofs.ByKind.Encodings.{encoding-branch, special-branch, special-after-g-branch}
use Rattle.cpp_press_laws.proofs.ByKind.Entities.{entity-branch, type-entity-branch, local-type-solid, local-name-read, nested-name-read}

-- ## Types by their own letters, and names as types

solid-read : (around : Around) (at : ℕ) (old : State) (v : Value) (new : State) → InFront (OfKind (number_of_kind Kind.Solid)) around at old
    → around.prefix ≡ outermost → (p : Production) → IsAmong (alternatives Kind.Solid) p → OpenedRead Kind.Solid around at old v new p
    → KindFits Kind.Solid around v old new
unfolding alternatives meaning part unfolding_.behind parts_of between number_of number_of_kind applied is_there tree_of after
solid-read around at old v new front outer Production.Builtin here o = builtin-arm around at old v new o
solid-read around at old v new front outer Production.Vendor here o =
    fits-by-parts Kind.Solid Production.Vendor tt tt o (λ w s name b q more.
    let none = more Kind.VendorArguments refl in
    subst (λ u. KindFits Kind.Solid around (tree (applied (vendor (text_of w)) u) false) old q) (sym none.0)
    (subst (λ r. KindFits Kind.Solid around (tree (vendor (text_of w)) false) old r) (sym none.1)
    (subst (λ t. KindFits Kind.Solid around (tree (vendor (text_of w)) false) old t) (sym name.0) (vendor-fits around (text_of w) old name.2))))
solid-read around at old v new front outer Production.ArrayType here o =
    fits-by-parts Kind.Solid Production.ArrayType tt tt o (λ w s one. one Kind.AnyArray refl outer)
solid-read around at old v new front outer Production.Function here o =
    fits-by-parts Kind.Solid Production.Function tt tt o (λ c s linkage w t one x u two.
    let rest = two Kind.FunctionRest refl outer in
    function-fits around (is_there c) false (ref_of x) rest.2 (tree_of w) (parameters (tree_of x)) old t u
    (subst (λ q. KindFits Kind.Type around w q t) (linkage Kind.MaybeCLinkage refl) (one Kind.Type refl outer))
    (parameters-fit around parameter_type (tree_of x) t u rest.0 rest.1))
solid-read around at old v new front outer Production.Complex here o =
    fits-by-parts Kind.Solid Production.Complex tt tt o (λ w s one. complex-fits around (tree_of w) old s (one Kind.Type refl outer))
solid-read around at old v new front outer Production.Pointer here o = pointer-arm takes_all Kind.Solid around at old v new outer o
solid-read around at old v new front outer Production.MemberPointer here o = member-arm takes_all Kind.Solid around at old v new outer o
solid-read around at old v new front outer Production.Parameter here o = parameter-solid takes_all Kind.Solid around at old v new front outer o
solid-read around at old v new front outer Production.TypeWithS here o = with-s-solid takes_all Kind.Solid around at old v new front outer o
solid-read around at old v new front outer Production.NestedType here o = nested-solid takes_all Kind.Solid around at old v new front outer o
solid-read around at old v new front outer Production.LocalType here o =
    local-type-solid takes_all Kind.Solid around at old v new front outer o
solid-read around at old v new front outer Production.LocalTypeName here o =
    local-type-name-solid takes_all Kind.Solid around at old v new front outer o
solid-read around at old v new front outer Production.SourceName here o =
    source-solid takes_all Kind.Solid around at old v new front outer o
solid-read around at old v new front outer (Production.Operation Operation.ExpressionC) here o = absurd here
solid-read around at old v new front outer p here o = absurd here

solid-branch : BranchRead Kind.Solid
solid-branch rule taken parts all around at old v new front is e outer =
    let one = one-read Kind.Solid rule taken parts all around at old v new front is e in
    solid-read around at old v new front outer one.0 one.1 one.2

-- what is known before a type that begins with its own letter, but not with T, is known before any type with its own letter
solid-front : (around : Around) (at : ℕ) (old : State) → InFront (OfKind (number_of_kind Kind.SolidButT)) around at old
    → InFront (OfKind (number_of_kind Kind.Solid)) around at old
unfolding number_of_kind holds_encoding
solid-front around at old front = record { placed = front.placed; opening = λ opens. absurd (false≢true opens); prefix = front.prefix }

solid-but-t-branch : BranchRead Kind.SolidButT
unfolding alternatives choose pick is_in in_ranges among same_choice each_below number_of
solid-but-t-branch rule taken parts all around at old v new front is e outer =
    let one = by-name (alternatives Kind.Solid) (OpenedRead Kind.Solid around at old v new)
    (taken-among Kind.SolidButT Kind.Solid refl around at old v new (alternatives Kind.SolidButT)
    (opened-read Kind.SolidButT rule taken parts all around at old v new front is e)) in
    solid-read around at old v new (solid-front around at old front) outer one.0 one.1 one.2

-- the type of a literal
literal-type-branch : BranchRead Kind.LiteralType
unfolding alternatives number_of
literal-type-branch rule taken parts all around at old v new front is e outer =
    let one = one-read Kind.LiteralType rule taken parts all around at old v new front is e in
    arm one.0 one.1 one.2
  where
    arm : (p : Production) → IsAmong (alternatives Kind.LiteralType) p → OpenedRead Kind.LiteralType around at old v new p
        → KindFits Kind.LiteralType around v old new
    arm Production.Builtin here o = literal-arm around at old v new o
    arm Production.Pointer here o = pointer-arm takes_literals Kind.LiteralType around at old v new outer o
    arm Production.MemberPointer here o = member-arm takes_literals Kind.LiteralType around at old v new outer o
    arm Production.Parameter here o = parameter-solid takes_literals Kind.LiteralType around at old v new front outer o
    arm Production.TypeWithS here o = with-s-solid takes_literals Kind.LiteralType around at old v new front outer o
    arm Production.NestedType here o = nested-solid takes_literals Kind.LiteralType around at old v new front outer o
    arm Production.LocalType here o = local-type-solid takes_literals Kind.LiteralType around at old v new front outer o
    arm Production.LocalTypeName here o = local-type-name-solid takes_literals Kind.LiteralType around at old v new front outer o
    arm Production.SourceName here o = source-solid takes_literals Kind.LiteralType around at old v new front outer o
    arm (Production.Operation Operation.ExpressionC) here o = absurd here
    arm p here o = absurd here

-- ## Names of encodings

complete-name-branch : BranchRead Kind.CompleteName
unfolding alternatives number_of
complete-name-branch rule taken parts all around at old v new front is e outer =
    let one = one-read Kind.CompleteName rule taken parts all around at old v new front is e in
    arm one.0 one.1 one.2
  where
    arm : (p : Production) → IsAmong (alternatives Kind.CompleteName) p → OpenedRead Kind.CompleteName around at old v new p
        → OwnNameRead around v old new
    arm Production.NestedName here o = nested-name-read around at old v new o outer
    arm Production.NameWithS here o = with-s-own around at old v new outer o
    arm Production.LocalName here o = local-name-read around at old v new o outer
    arm Production.InternalName here o = internal-own around at old v new outer o
    arm Production.LocalTypeName here o = local-type-own around at old v new outer o
    arm Production.OperatorName here o = operator-own around at old v new outer o
    arm Production.SourceName here o = source-own around at old v new outer o
    arm (Production.Operation Operation.ExpressionC) here o = absurd here
    arm p here o = absurd here

-- ## All kinds

kind-branch : (kind : Kind) → BranchRead kind
unfolding alternatives abi sheet sheet_with may_be_empty kinds number_of_kind
kind-branch Kind.Symbol = λ rule taken parts all around at old v new front is e. tt
kind-branch Kind.MaybeSuffix = suffix-branch
kind-branch Kind.SuffixFirst = suffix-first-branch
kind-branch Kind.SuffixMore = suffix-more-branch
kind-branch Kind.Encoding = encoding-branch
kind-branch Kind.Special = special-branch
kind-branch Kind.CallOffset = call-offset-branch
kind-branch Kind.Integer = integer-branch
kind-branch Kind.CompleteName = complete-name-branch
kind-branch Kind.MaybeRestrict = mark-branch Kind.MaybeRestrict (refl, tt)
kind-branch Kind.MaybeVolatile = mark-branch Kind.MaybeVolatile (refl, tt)
kind-branch Kind.MaybeConst = mark-branch Kind.MaybeConst (refl, tt)
kind-branch Kind.MaybeRef = ref-branch
kind-branch Kind.NameAfterS = name-after-s-branch
kind-branch Kind.Unqualified = unqualified-branch
kind-branch Kind.Nest = nest-branch
kind-branch Kind.NestAfterS = nest-after-s-branch
kind-branch Kind.NestRest = nest-rest-branch
kind-branch Kind.NestRestAlone = nest-rest-alone-branch
kind-branch Kind.NestTail = nest-tail-branch
kind-branch Kind.Component = component-branch
kind-branch Kind.ConstructorAfterC = constructor-after-c-branch
kind-branch Kind.ConstructorDigit = letter-branch Kind.ConstructorDigit (refl, tt)
kind-branch Kind.ComponentAfterD = letter-branch Kind.ComponentAfterD (refl, tt)
kind-branch Kind.Abbreviation = abbreviation-branch
kind-branch Kind.Entity = entity-branch
kind-branch Kind.TypeEntity = type-entity-branch
kind-branch Kind.MaybeDiscriminator = discriminator-branch
kind-branch Kind.DiscriminatorRest = discriminator-rest-branch
kind-branch Kind.Anonymous = anonymous-branch
kind-branch Kind.Type = type-branch
kind-branch Kind.Plain = plain-branch
kind-branch Kind.Item = item-branch
kind-branch Kind.ItemButRef = parameter-branch
kind-branch Kind.ItemAfterD = item-d-branch
kind-branch Kind.AfterD = after-d-branch
kind-branch Kind.Solid = solid-branch
kind-branch Kind.MaybeCLinkage = mark-branch Kind.MaybeCLinkage (refl, tt)
kind-branch Kind.TypeAfterS = type-after-s-branch
kind-branch Kind.SourceOrLocal = source-or-local-branch
kind-branch Kind.FunctionRest = function-rest-branch
kind-branch Kind.AfterR = after-r-branch
kind-branch Kind.AfterO = after-o-branch
kind-branch Kind.Items = items-branch
kind-branch Kind.MaybeArguments = maybe-arguments-branch
kind-branch Kind.ArgumentsAlone = arguments-alone-branch
kind-branch Kind.Arguments = arguments-branch
kind-branch Kind.ArgumentsFirst = arguments-first-branch
kind-branch Kind.ArgumentList = argument-list-branch
kind-branch Kind.PackList = pack-list-branch
kind-branch Kind.Literal = literal-branch
kind-branch Kind.Bit = mark-branch Kind.Bit (refl, tt)
kind-branch Kind.LiteralAfterD = literal-after-d-branch
kind-branch Kind.MaybeZero = mark-branch Kind.MaybeZero (refl, tt)
kind-branch Kind.LiteralType = literal-type-branch
kind-branch Kind.Operator = operator-branch
kind-branch Kind.OperatorAfterN = letter-branch Kind.OperatorAfterN (refl, tt)
kind-branch Kind.OperatorAfterD = letter-branch Kind.OperatorAfterD (refl, tt)
kind-branch Kind.OperatorAfterA = letter-branch Kind.OperatorAfterA (refl, tt)
kind-branch Kind.OperatorAfterP = letter-branch Kind.OperatorAfterP (refl, tt)
kind-branch Kind.OperatorAfterC = letter-branch Kind.OperatorAfterC (refl, tt)
kind-branch Kind.OperatorAfterM = letter-branch Kind.OperatorAfterM (refl, tt)
kind-branch Kind.OperatorAfterR = letter-branch Kind.OperatorAfterR (refl, tt)
kind-branch Kind.OperatorAfterO = letter-branch Kind.OperatorAfterO (refl, tt)
kind-branch Kind.OperatorAfterE = letter-branch Kind.OperatorAfterE (refl, tt)
kind-branch Kind.OperatorAfterL = operator-after-l-branch
kind-branch Kind.OperatorAfterS = letter-branch Kind.OperatorAfterS (refl, tt)
kind-branch Kind.OperatorAfterI = letter-branch Kind.OperatorAfterI (refl, tt)
kind-branch Kind.OperatorAfterG = letter-branch Kind.OperatorAfterG (refl, tt)
kind-branch Kind.NestRestOrEnd = nest-rest-or-end-branch
kind-branch Kind.ComponentAfterC = component-after-c-branch
kind-branch Kind.OtherOperator = other-operator-branch
kind-branch Kind.SpecialMark = mark-branch Kind.SpecialMark (refl, tt)
kind-branch Kind.SpecialAfterG = special-after-g-branch
kind-branch Kind.TypeInStd = type-in-std-branch
kind-branch Kind.MaybeTags = maybe-tags-branch
kind-branch Kind.VendorArguments = vendor-arguments-branch
kind-branch Kind.Argument = argument-branch
kind-branch Kind.ArgumentAfterT = argument-after-t-branch
kind-branch Kind.SolidButT = solid-but-t-branch
kind-branch Kind.ParameterAfterT = parameter-after-t-branch
kind-branch Kind.LeveledParameter = leveled-branch
kind-branch Kind.FirstOfLambda = first-branch
kind-branch Kind.FirstAfterT = first-after-t-branch
kind-branch Kind.Expression = expression-branch
kind-branch Kind.AddressedExpression = addressed-branch
kind-branch Kind.AddressedLiteral = addressed-literal-branch
kind-branch Kind.ExpressionAfterA = expression-after-a-branch
kind-branch Kind.AnyArray = any-array-branch
kind-branch Kind.ArrayRest = array-rest-branch
kind-branch Kind.NestMoreOrEnd = nest-more-or-end-branch
-- the other kinds are never parts of a symbol's tree
kind-branch _ = λ rule taken parts all around at old v new front is e outer. tt

branch-read : (rule : Rule) (taken : List ℕ) (parts : Forest) → AllOf ShapeRead parts → ShapeRead (branch rule taken parts)
branch-read rule taken parts all kind around at old v new front is e = kind-branch kind rule taken parts all around at old v new front is e

pub shape-read : (t : Shape) → ShapeRead t
shape-read = every-shape ShapeRead branch-read empty-read (λ t kind around at old v new front is e. absurd is)
    (λ b kind around at old v new front is e. absurd is)

-- the tree that a symbol is read as fits
pub symbol-read-fits : (shape : Shape) (t : Term) → IsReadFrom shape t → SymbolFits t
symbol-read-fits = read-fits shape-read
