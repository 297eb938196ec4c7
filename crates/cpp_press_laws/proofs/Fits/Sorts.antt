-- What is known of the values of types, by kind: it holds of the value of each production of types.
use Rattle.cpp_press_laws.proofs.Basics.{◌≡◌, ℕ, ◌⊎◌, List, [], ◌∷◌, Bool, true, false, refl, nat_eq, Kind, Production, lvalue_only, rvalue_only, Term, abbreviation, lvalue, rvalue, encoding_literal, address_of, absent, Candidate, State, Around, Value, nothing_there, tree, pair, tree_of, ref_of, is_listed, part, with_type, with_prefix, appended, is_function_type, with_unqualified, after, no_items, signature_or, meaning, listed_value, reference_to, either_cond, Slot, any_type, item_type, parameter_type, literal_type, takes_all, takes_expansions, IsAbbreviation, IsAbiMark}
use Rattle.cpp_grammar.specs.Unfolding as unfolding_
use Rattle.cpp_press_laws.proofs.Slots.{each-slot}
use Rattle.cpp_press_laws.proofs.Fits.Types.{TypeFits, BareFits, SolidFits, lvalue-fits, rvalue-fits}
use Rattle.cpp_press_laws.proofs.Fits.Lists.{ListFits, IsList}
use Rattle.cpp_press_laws.proofs.Fits.References.{Referred}
use Rattle.cpp_press_laws.proofs.Fits.Names.{ElementsFit}
use Rattle.cpp_press_laws.proofs.Fits.Solids.{BeforeFits}
use Rattle.cpp_press_laws.proofs.Fits.Arguments.{ArgumentFits, ArgumentsFit, fewer-slots}

-- ## Kinds

unfoldable pub takes_literals : Slot → Bool
takes_literals literal_type = true
takes_literals _ = false

-- what follows an S: an abbreviation, or what a reference names
abbrev pub AbbreviationRead : Around → Value → (old new : State) → Type 0
AbbreviationRead around v old new =
    ((l : ℕ) × (v ≡ tree (abbreviation l) true) × IsAbbreviation l × (new ≡ old))
    ⊎ ((c : Candidate) × (v ≡ tree c.tree true) × Referred around old new c)

-- the arguments after a name, which becomes a candidate before them if it isn't one
abbrev pub ArgumentsRead : Around → Value → (old new : State) → Type 0
ArgumentsRead around v old new = ElementsFit around (tree_of v) (with_prefix around old) new

-- a name before arguments, or as a type without them
pub record NameRead (around : Around) (v : Value) (old new : State) : Type 0 where
  pub solid : SolidFits (λ slot. true) around v old new
  pub before : (a : Term) (now : State) → ElementsFit around a (with_prefix (after (tree_of v) (is_listed v) around) new) now
      → BeforeFits around (tree_of v) a old now

-- the address of an encoding, as it is read so far
abbrev pub AddressRead : (value_of : Term → Value) → Around → Value → (old new : State) → Type 0
AddressRead value_of around v old new = (e : Term) × (v ≡ value_of e) × ((in_pack : Bool) → ArgumentFits around in_pack (address_of e) old new)

-- what was read of types, their lists and the arguments of templates
abbrev pub KindFits : Kind → Around → Value → (old new : State) → Type 0
KindFits Kind.Type around v old new = TypeFits around any_type (tree_of v) old new
KindFits Kind.Plain around v old new = BareFits around (tree_of v) old new
KindFits Kind.Item around v old new = TypeFits around item_type (tree_of v) old new
KindFits Kind.ItemButRef around v old new = TypeFits around parameter_type (tree_of v) old new
KindFits Kind.ItemAfterD around v old new = SolidFits takes_expansions around v old new
KindFits Kind.AfterD around v old new = SolidFits takes_all around v old new
KindFits Kind.Solid around v old new = SolidFits takes_all around v old new
KindFits Kind.SolidButT around v old new = SolidFits takes_all around v old new
KindFits Kind.AnyArray around v old new = SolidFits takes_all around v old new
KindFits Kind.ArrayRest around v old new = SolidFits takes_all around v old new
KindFits Kind.ArgumentAfterT around v old new = SolidFits takes_all around v old new
KindFits Kind.ParameterAfterT around v old new = SolidFits takes_all around v old new
KindFits Kind.LeveledParameter around v old new = SolidFits takes_all around v old new
KindFits Kind.FirstOfLambda around v old new = TypeFits around item_type (tree_of v) old new
KindFits Kind.FirstAfterT around v old new = TypeFits around item_type (tree_of v) old new
KindFits Kind.LiteralType around v old new = SolidFits takes_literals around v old new
KindFits Kind.TypeAfterS around v old new = NameRead around v old new
KindFits Kind.TypeInStd around v old new = NameRead around v old new
KindFits Kind.Abbreviation around v old new = AbbreviationRead around v old new
KindFits Kind.FunctionRest around v old new = IsList (tree_of v) × ListFits around parameter_type (tree_of v) old new × IsAbiMark (ref_of v)
KindFits Kind.AfterR around v old new =
    IsList (tree_of (signature_or lvalue_only v)) × ListFits around parameter_type (tree_of (signature_or lvalue_only v)) old new
    × IsAbiMark (ref_of (signature_or lvalue_only v))
KindFits Kind.AfterO around v old new =
    IsList (tree_of (signature_or rvalue_only v)) × ListFits around parameter_type (tree_of (signature_or rvalue_only v)) old new
    × IsAbiMark (ref_of (signature_or rvalue_only v))
KindFits Kind.Items around v old new = IsList (no_items v) × ListFits around item_type (no_items v) old new
KindFits Kind.ArgumentList around v old new = ArgumentsFit around false (no_items v) old new
KindFits Kind.PackList around v old new = ArgumentsFit around true (no_items v) old new
KindFits Kind.Arguments around v old new = ArgumentsRead around v old new
KindFits Kind.MaybeArguments around v old new =
    ((v ≡ nothing_there) × (new ≡ old)) ⊎ ((v ≡ tree (tree_of v) true) × ArgumentsRead around v old new)
KindFits Kind.Literal around v old new = (in_pack : Bool) → ArgumentFits around in_pack (tree_of v) old new
KindFits Kind.LiteralAfterD around v old new = (in_pack : Bool) → ArgumentFits around in_pack (tree_of v) old new
KindFits Kind.AddressedLiteral around v old new = AddressRead (λ e. tree (encoding_literal e) true) around v old new
KindFits Kind.AddressedExpression around v old new = AddressRead (λ e. tree (encoding_literal e) true) around v old new
KindFits Kind.ExpressionAfterA around v old new = AddressRead (λ e. pair 100 (encoding_literal e) absent) around v old new
KindFits Kind.Expression around v old new = AddressRead (λ e. tree (address_of e) true) around v old new
KindFits Kind.Argument around v old new = (in_pack : Bool) → ArgumentFits around in_pack (tree_of v) old new
KindFits _ around v old new = Unit {0}

-- ## Types become candidates

-- the meaning of a production after parts with these values, and the state after it
abbrev pub Meant : Production → (byte : ℕ) → Around → List Value → Value
Meant p byte around vs = meaning p byte around vs

abbrev pub Later : Production → (byte : ℕ) → Around → (began : State) → List Value → (state : State) → State
Later p byte around began vs state = unfolding_.behind p byte around began vs state

item-slots : (slot : Slot) → takes_expansions slot ≡ true → takes_all slot ≡ true
unfolding takes_all takes_expansions
item-slots = each-slot _ (λ take. refl) (λ take. refl) (λ take. refl) (λ take. refl) (λ take. take)

pub item-is-type : (around : Around) (byte : ℕ) (began : State) (v : Value) (old new : State) → SolidFits takes_all around v old new
    → KindFits Kind.ItemAfterD around (Meant Production.ItemIsType byte around (v ∷ [])) old
    (Later Production.ItemIsType byte around began (v ∷ []) new)
unfolding meaning part unfolding_.behind
item-is-type around byte began v old new one = fewer-slots takes_all takes_expansions around v old new item-slots one

-- ## Qualified types and references

-- a reference of either sort
pub reference-solid : (around : Around) (byte : ℕ) (v : Value) (old new : State) → KindFits Kind.Type around v old new
    → SolidFits takes_all around (reference_to byte v) old new
unfolding reference_to
reference-solid around byte v old new one =
    either_cond (λ t. SolidFits takes_all around (tree t false) old new) (nat_eq byte 82) (lvalue (tree_of v)) (rvalue (tree_of v))
    (λ h. lvalue-fits around (tree_of v) old new one)
    (λ h. rvalue-fits around (tree_of v) old new one)

-- a reference right under qualifiers
pub reference-plain : (around : Around) (byte : ℕ) (began : State) (v : Value) (old new : State) → KindFits Kind.Type around v old new
    → KindFits Kind.Plain around (Meant Production.ReferenceType byte around (v ∷ [])) old
    (Later Production.ReferenceType byte around began (v ∷ []) new)
unfolding meaning listed_value reference_to tree_of is_listed part unfolding_.behind with_type with_unqualified is_function_type takes_all
reference-plain around byte began v old new one =
    either_cond (λ t. BareFits around t old (appended around t new)) (nat_eq byte 82) (lvalue (tree_of v)) (rvalue (tree_of v))
    (λ h. (lvalue-fits around (tree_of v) old new one).bare refl)
    (λ h. (rvalue-fits around (tree_of v) old new one).bare refl)
