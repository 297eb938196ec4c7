-- An entity in the scope of an encoding that was read fits, and so does a name or a type that consists of such an entity.
use Rattle.cpp_press_laws.proofs.Basics.{◌≡◌, inl, inr, ℕ, [], Bool, true, false, refl, ap, sym, subst, ◌∙◌, Kind, Production, Operation, alternatives, number_of_kind, parts_of, number_of, any_value, Term, local, within, string_literal, State, outermost, behind, Around, Value, unqualified, tree, tree_of, qualifiers_of, ref_of, mark_of, is_there, is_listed, part, is_function_type, with_type, with_unqualified, after, extended, applied, between, discriminator_of, meaning, qualifier_letters, mark_letter, name_letters, no_ways, type_ways, is_encoding, ways_of, Slot, bare_type, Role, in_type, in_name_with, letters_of, IsAbiMark, begins_name, names_type, names_entity, names_in, IsSpellableDiscriminator}
use Rattle.sym_shape.specs.declared.rule.Sym.TheVariants.{Kind as OfKind}
use Rattle.cpp_grammar.specs.Unfolding as unfolding_
use Rattle.cpp_press_laws.proofs.Fits.Types.{SolidFits}
use Rattle.cpp_press_laws.proofs.Fits.Names.{PieceFits}
use Rattle.cpp_press_laws.proofs.Fits.Nests.{OwnNameFits, EntityFits}
use Rattle.cpp_press_laws.proofs.Fits.Pieces.{local-entity}
use Rattle.cpp_press_laws.proofs.Fits.Locals.{local-typed, local-own}
use Rattle.cpp_press_laws.proofs.Fits.Sorts.{KindFits}
use Rattle.cpp_press_laws.proofs.Fits.Own.{piece-entity}
use Rattle.cpp_press_laws.proofs.ByKind.Pieces.{string-literal-fits, type-begins, begins-entity}
use Rattle.cpp_press_laws.proofs.ByKind.Known.{EncodingRead, KindRead, BranchRead, InFront, OpenedRead, by-parts, one-read}
use Rattle.cpp_press_laws.proofs.ByKind.Pieced.{PieceRead, renamed, source-comes, internal-comes, local-type-comes}
use Rattle.cpp_press_laws.proofs.ByKind.Rules.{IsAmong}

-- ## Entities and their discriminators

-- an entity after its encoding, and perhaps a discriminator after the entity; the discriminator leaves the state as it
-- is
local-name : (around : Around) (e entity d : Value) (old mid from late new : State) → EncodingRead around e old mid → from ≡ mid
    → EntityFits (after (tree_of e) true around) (tree_of entity) (in_name_with (qualifiers_of entity) (ref_of entity)) from late × IsAbiMark (ref_of entity)
    → new ≡ late → IsSpellableDiscriminator (discriminator_of d)
    → OwnNameFits around (local (tree_of e) (tree_of entity) (discriminator_of d)) (qualifiers_of entity) (ref_of entity) old new × IsAbiMark (ref_of entity)
local-name around e entity d old mid from late new one same other still good =
    let E : Term = tree_of entity in
    let role : Role = in_name_with (qualifiers_of entity) (ref_of entity) in
    let inner : Around = after (tree_of e) true around in (
      local-own around (tree_of e) E (discriminator_of d) (qualifiers_of entity) (ref_of entity) old mid new good one.fits
          (subst (λ s. EntityFits inner E role mid s) (sym still) (subst (λ s. EntityFits inner E role s late) same other.0)),
      other.1,
    )

local-solid : (takes : Slot → Bool) (around : Around) (e entity d : Value) (old mid from late new : State) → EncodingRead around e old mid
    → from ≡ mid → EntityFits (after (tree_of e) true around) (tree_of entity) in_type from late → new ≡ late
    → IsSpellableDiscriminator (discriminator_of d)
    → SolidFits takes around (tree (local (tree_of e) (tree_of entity) (discriminator_of d)) false) old new
unfolding ways_of type_ways no_ways with_type with_unqualified is_function_type tree_of is_listed
local-solid takes around e entity d old mid from late new one same other still good =
    let E : Term = tree_of entity in
    let inner : Around = after (tree_of e) true around in
    let whole : EntityFits inner E in_type mid new =
    subst (λ s. EntityFits inner E in_type mid s) (sym still) (subst (λ s. EntityFits inner E in_type s late) same other) in
    record {
      types = λ slot not_bare take. local-typed around (tree_of e) E (discriminator_of d) slot old mid new good one.fits whole;
      bare = λ take. local-typed around (tree_of e) E (discriminator_of d) bare_type old mid new good one.fits whole;
    }

-- ## Local names and types

pub local-name-read : (around : Around) (at : ℕ) (old : State) (v : Value) (new : State)
    → OpenedRead Kind.CompleteName around at old v new Production.LocalName → KindRead Kind.CompleteName around v old new
unfolding parts_of between number_of_kind meaning part unfolding_.behind tree_of qualifiers_of ref_of after
local-name-read around at old v new o outer =
    by-parts (λ v s. KindRead Kind.CompleteName around v old s) Production.LocalName tt tt o (λ g s one b r end n t entity d u number out.
    let e = one Kind.Encoding refl in
    let tested = number Kind.MaybeDiscriminator refl in
    local-name around g n d old s r t u e end.0 (entity Kind.Entity refl (tree_of g) e.is refl) tested.0 tested.1) outer

pub local-type-solid : (takes : Slot → Bool) (kind : Kind) (around : Around) (at : ℕ) (old : State) (v : Value) (new : State)
    → InFront (OfKind (number_of_kind kind)) around at old → around.prefix ≡ outermost
    → OpenedRead kind around at old v new Production.LocalType → SolidFits takes around v old new
unfolding parts_of between number_of_kind meaning part unfolding_.behind after
local-type-solid takes kind around at old v new front outer o =
    by-parts (λ w s. SolidFits takes around w old s) Production.LocalType tt tt o (λ g s one b r end n t entity d u number.
    let e = one Kind.Encoding refl in
    let tested = number Kind.MaybeDiscriminator refl in
    local-solid takes around g n d old s r t u e end.0 (entity Kind.TypeEntity refl (tree_of g) e.is refl) tested.0 tested.1)

-- ## Names between N and E

pub nested-name-read : (around : Around) (at : ℕ) (old : State) (v : Value) (new : State)
    → OpenedRead Kind.CompleteName around at old v new Production.NestedName → KindRead Kind.CompleteName around v old new
unfolding parts_of between number_of_kind meaning part unfolding_.behind tree_of qualifiers_of ref_of
nested-name-read around at old v new o outer =
    by-parts (λ v s. KindRead Kind.CompleteName around v old s) Production.NestedName tt tt o (λ r a restrict w b volatile c d const m e ref n s one out. (
      subst (λ q. OwnNameFits around (tree_of n) (record { restrict = is_there r; volatile = is_there w; const = is_there c }) (mark_of m) q s)
          ((ref Kind.MaybeRef refl).0 ∙ const Kind.MaybeConst refl ∙ volatile Kind.MaybeVolatile refl ∙ restrict Kind.MaybeRestrict refl)
          ((one Kind.Nest refl (inl out)).1.own (record { restrict = is_there r; volatile = is_there w; const = is_there c }) (mark_of m)),
      (ref Kind.MaybeRef refl).1,
    )) outer

nested-entity-read : (around : Around) (at : ℕ) (old : State) (v : Value) (new : State)
    → OpenedRead Kind.Entity around at old v new Production.NestedName → KindRead Kind.Entity around v old new
unfolding parts_of between number_of_kind meaning part unfolding_.behind tree_of qualifiers_of ref_of
nested-entity-read around at old v new o e is scoped =
    by-parts (λ v s. KindRead Kind.Entity around v old s) Production.NestedName tt tt o (λ r a restrict w b volatile c d const m x ref n s one f own here.
    let role : Role = in_name_with (record { restrict = is_there r; volatile = is_there w; const = is_there c }) (mark_of m) in (
      subst (λ q. EntityFits around (tree_of n) role q s)
          ((ref Kind.MaybeRef refl).0 ∙ const Kind.MaybeConst refl ∙ volatile Kind.MaybeVolatile refl ∙ restrict Kind.MaybeRestrict refl)
          ((one Kind.Nest refl (inr (f, own, here))).1.entity role),
      (ref Kind.MaybeRef refl).1,
    )) e is scoped

nested-type-read : (around : Around) (at : ℕ) (old : State) (v : Value) (new : State)
    → OpenedRead Kind.TypeEntity around at old v new Production.NestedType → KindRead Kind.TypeEntity around v old new
unfolding parts_of between number_of_kind meaning part unfolding_.behind
nested-type-read around at old v new o e is scoped =
    by-parts (λ v s. KindRead Kind.TypeEntity around v old s) Production.NestedType tt tt o
    (λ n s one f own here. (one Kind.Nest refl (inr (f, own, here))).1.entity in_type) e is scoped

-- ## String literals

-- the role of an entity in an encoding's own name, without letters
abbrev plain_name : Role
plain_name = in_name_with unqualified any_value

string-read : (around : Around) (at : ℕ) (old : State) (v : Value) (new : State)
    → OpenedRead Kind.Entity around at old v new Production.StringLiteral → KindRead Kind.Entity around v old new
unfolding parts_of meaning unfolding_.behind tree_of qualifiers_of ref_of extended letters_of name_letters qualifier_letters mark_letter names_in names_entity
string-read around at old v new o e is scoped =
    by-parts (λ v s. KindRead Kind.Entity around v old s) Production.StringLiteral tt tt o
    (λ f own here. (
      subst (λ prefix. EntityFits around (extended prefix string_literal) plain_name old old) (sym here)
          (local-entity around f string_literal plain_name old old own here refl refl (string-literal-fits around old)),
      tt,
    )) e is scoped

-- ## Entities of one piece

-- a role in which names of one piece appear
record TakesPieces (role : Role) : Type 0 where
  pub none : letters_of role ≡ []
  pub takes : (p : Term) → begins_name p ≡ true → names_in role p ≡ true

-- an entity that was read in the scope of some encoding
abbrev EntityRead : Around → Term → Role → (old new : State) → Type 0
EntityRead around t role old new =
    (e : Term) → is_encoding e ≡ true → around.prefix ≡ behind e true → EntityFits around t role old new

scoped-piece : (around : Around) (p : Term) (w : Value) (role : Role) (old mid new : State) → TakesPieces role → begins_name p ≡ true
    → PieceFits around p old mid → KindFits Kind.MaybeArguments (after (extended around.prefix p) false around) w mid new
    → EntityRead around (applied (extended around.prefix p) w) role old new
unfolding extended
scoped-piece around p w role old mid new takes begins one arguments e is scoped =
    let same : extended around.prefix p ≡ within e p = ap (λ prefix. extended prefix p) scoped in
    subst (λ t. EntityFits around (applied t w) role old new) (sym same)
    (piece-entity around e p w role old mid new is scoped begins (takes.takes p begins) takes.none one
    (subst (λ t. KindFits Kind.MaybeArguments (after t false around) w mid new) same arguments))

-- a kind reads entities in a role
abbrev Reads : Kind → Role → Type 0
Reads kind role =
    (around : Around) (t : Term) (old new : State) → EntityRead around t role old new → KindRead kind around (tree t false) old new

entity-piece : (kind : Kind) (role : Role) → TakesPieces role → Reads kind role → (around : Around) (v : Value) (old new : State)
    → PieceRead begins_name around v old new → KindRead kind around v old new
entity-piece kind role takes reads around v old new o =
    subst (λ w. KindRead kind around w old new) (sym o.value)
    (reads around (applied (extended around.prefix o.piece) o.arguments) old new
    (scoped-piece around o.piece o.arguments role old o.mid new takes o.named o.fits o.later))

-- ## The kinds of entities

name-pieces : TakesPieces plain_name
unfolding letters_of name_letters qualifier_letters mark_letter names_in
name-pieces = record { none = refl; takes = begins-entity }

type-pieces : TakesPieces in_type
unfolding letters_of names_in
type-pieces = record { none = refl; takes = λ p begins. begins }

name-reads : Reads Kind.Entity plain_name
unfolding tree_of qualifiers_of ref_of
name-reads around t old new one e is scoped = (one e is scoped, tt)

type-reads : Reads Kind.TypeEntity in_type
unfolding tree_of
type-reads around t old new one = one

-- an entity that a name ends in, by what is known of its parts
pub entity-branch : BranchRead Kind.Entity
unfolding alternatives number_of
entity-branch rule taken parts all around at old v new front is e =
    let one = one-read Kind.Entity rule taken parts all around at old v new front is e in
    arm one.0 one.1 one.2
  where
    piece : PieceRead begins_name around v old new → KindRead Kind.Entity around v old new
    piece o = entity-piece Kind.Entity plain_name name-pieces name-reads around v old new o

    typed : PieceRead names_type around v old new → KindRead Kind.Entity around v old new
    typed o = piece (renamed names_type begins_name around v old new type-begins o)

    arm : (p : Production) → IsAmong (alternatives Kind.Entity) p → OpenedRead Kind.Entity around at old v new p
        → KindRead Kind.Entity around v old new
    arm Production.StringLiteral here o = string-read around at old v new o
    arm Production.NestedName here o = nested-entity-read around at old v new o
    arm Production.InternalName here o = piece (internal-comes Kind.Entity around at old v new o)
    arm Production.LocalTypeName here o = typed (local-type-comes Kind.Entity around at old v new o)
    arm Production.SourceName here o = typed (source-comes Kind.Entity around at old v new o)
    arm (Production.Operation Operation.ExpressionC) here o = absurd here
    arm p here o = absurd here

-- a type in the scope of an encoding, by what is known of its parts
pub type-entity-branch : BranchRead Kind.TypeEntity
unfolding alternatives number_of
type-entity-branch rule taken parts all around at old v new front is e =
    let one = one-read Kind.TypeEntity rule taken parts all around at old v new front is e in
    arm one.0 one.1 one.2
  where
    piece : PieceRead begins_name around v old new → KindRead Kind.TypeEntity around v old new
    piece o = entity-piece Kind.TypeEntity in_type type-pieces type-reads around v old new o

    typed : PieceRead names_type around v old new → KindRead Kind.TypeEntity around v old new
    typed o = piece (renamed names_type begins_name around v old new type-begins o)

    arm : (p : Production) → IsAmong (alternatives Kind.TypeEntity) p → OpenedRead Kind.TypeEntity around at old v new p
        → KindRead Kind.TypeEntity around v old new
    arm Production.NestedType here o = nested-type-read around at old v new o
    arm Production.InternalName here o = piece (internal-comes Kind.TypeEntity around at old v new o)
    arm Production.LocalTypeName here o = typed (local-type-comes Kind.TypeEntity around at old v new o)
    arm Production.SourceName here o = typed (source-comes Kind.TypeEntity around at old v new o)
    arm (Production.Operation Operation.ExpressionC) here o = absurd here
    arm p here o = absurd here
