-- The productions of names as types, of arguments and of literals have values that fit.
use Rattle.cpp_press_laws.proofs.Basics.{◌≡◌, ℕ, ◌<◌, Some, inl, inr, [], ◌∷◌, Bool, true, false, refl, sym, subst, ◌&&◌, not, and-true, and_right, false≢true, Kind, choose, Production, Term, abbreviation, parameter, instance, lvalue, rvalue, builtin, pack, Candidate, State, Around, prefix_listed, Value, nothing_there, tree, tree_of, is_listed, is_there, signed_of, part, ref_of, appended, with_type, with_unqualified, with_prefix, after, applied, inside, no_items, signature_or, meaning, with_item, Found, Slot, any_type, bare_type, item_type, parameter_type, literal_type, takes_all, IsBuiltin, IsAbbreviation, IsSpellableNumber}
use Rattle.cpp_grammar.specs.Unfolding as unfolding_
use Rattle.cpp_press_laws.proofs.Fits.Types.{TypeFits, SolidFits, lvalue-fits, rvalue-fits}
use Rattle.cpp_press_laws.proofs.Fits.Lists.{list-fits}
use Rattle.cpp_press_laws.proofs.Fits.References.{Referred, referred-solid, Substituted, referred-before}
use Rattle.cpp_press_laws.proofs.Fits.Solids.{LambdasAreBare, ParameterNamed, abbreviation-fits, abbreviation-before, builtin-fits, parameter-fits, parameter-before, instance-fits}
use Rattle.cpp_press_laws.proofs.Fits.Arguments.{ArgumentsFit, type-argument, no-arguments-fit, arguments-fit, pack-fits, integer-fits}
use Rattle.cpp_press_laws.proofs.Fits.Sorts.{takes_literals, NameRead, KindFits, Meant, Later}

-- ## Names that arguments may follow

abbreviation-name : (around : Around) (l : ℕ) (state : State) → IsAbbreviation l → NameRead around (tree (abbreviation l) true) state state
unfolding with_prefix after tree_of is_listed prefix_listed
abbreviation-name around l state is = record {
  solid = abbreviation-fits (λ slot. true) around l state is;
  before = λ a now other. abbreviation-before around l a state now is other;
}

referred-name : (around : Around) (old new : State) (c : Candidate) → Referred around old new c → NameRead around (tree c.tree true) old new
unfolding with_prefix after tree_of is_listed prefix_listed
referred-name around old new c r = record {
  solid = referred-solid (λ slot. true) around old new c r;
  before = λ a now other. referred-before around true c a old new now r other;
}

-- a name after an S
pub abbreviated-type : (around : Around) (byte : ℕ) (began : State) (v : Value) (old new : State) → KindFits Kind.Abbreviation around v old new
    → KindFits Kind.TypeAfterS around (Meant Production.AbbreviatedType byte around (v ∷ [])) old
    (Later Production.AbbreviatedType byte around began (v ∷ []) new)
unfolding meaning part unfolding_.behind
abbreviated-type around byte began v old new (inl (l, value, is, same)) =
    subst (λ s. NameRead around v old s) (sym same)
    (subst (λ w. NameRead around w old old) (sym value) (abbreviation-name around l old is))
abbreviated-type around byte began v old new (inr (c, value, refers)) =
    subst (λ w. NameRead around w old new) (sym value) (referred-name around old new c refers)

-- a parameter that wasn't refused
pub parameter-name : (around : Around) (k : ℕ) (old new : State) → ParameterNamed around k old new → LambdasAreBare around
    → NameRead around (tree (parameter k) true) old new
unfolding with_prefix after tree_of is_listed prefix_listed
parameter-name around k old new p bare = record {
  solid = parameter-fits (λ slot. true) around k old new p bare;
  before = λ a now other. parameter-before around k a old new now p bare other;
}

with-slots : (takes : Slot → Bool) (around : Around) (v : Value) (old new : State) → SolidFits (λ slot. true) around v old new
    → SolidFits takes around v old new
with-slots takes around v old new one = record { types = λ slot other take. one.types slot other refl; bare = λ take. one.bare refl }

-- a name as a type, with or without arguments
pub name-type : (takes : Slot → Bool) (around : Around) (v w : Value) (old mid new : State) → NameRead around v old mid
    → KindFits Kind.MaybeArguments (after (tree_of v) (is_listed v) around) w mid new
    → SolidFits takes around (tree (applied (tree_of v) w) (is_listed v && not (is_there w))) old new
unfolding applied with_type with_unqualified tree_of is_listed is_there after inside with_prefix
name-type takes around v w old mid new name (inl (none, same)) =
    subst (λ u. SolidFits takes around (tree (applied (tree_of v) u) (is_listed v && not (is_there u))) old new) (sym none)
    (subst (λ b. SolidFits takes around (tree (tree_of v) b) old new) (sym (and-true (is_listed v)))
    (subst (λ s. SolidFits takes around (tree (tree_of v) (is_listed v)) old s) (sym same) (with-slots takes around v old mid name.solid)))
name-type takes around v w old mid new name (inr (there, other)) =
    subst (λ u. SolidFits takes around (tree (applied (tree_of v) u) (is_listed v && not (is_there u))) old new) (sym there)
    (subst (λ b. SolidFits takes around (tree (instance (tree_of v) (tree_of w)) b) old new) (sym (and_right (is_listed v) false refl))
    (instance-fits takes around (tree_of v) (tree_of w) old new (name.before (tree_of w) new other)))

-- ## References among parameters

-- a reference among the parameters, which is a candidate before the others
pub lvalue-item : (around : Around) (byte : ℕ) (began : State) (t : Term) (rest : Value) (old mid new : State)
    → TypeFits around any_type t old mid → KindFits Kind.FunctionRest around rest (appended around (lvalue t) mid) new
    → KindFits Kind.AfterR around (Meant Production.LvalueItem byte around (tree (lvalue t) true ∷ rest ∷ [])) old
    (Later Production.LvalueItem byte around began (tree (lvalue t) true ∷ rest ∷ []) new)
unfolding meaning signature_or with_item tree_of ref_of part unfolding_.behind with_type is_listed takes_all
lvalue-item around byte began t rest old mid new one other = (
  tt,
  list-fits around parameter_type (lvalue t) (tree_of rest) old (appended around (lvalue t) mid) new
      ((lvalue-fits around t old mid one).types parameter_type tt refl) other.1,
  other.2,
)

pub rvalue-item : (around : Around) (byte : ℕ) (began : State) (t : Term) (rest : Value) (old mid new : State)
    → TypeFits around any_type t old mid → KindFits Kind.FunctionRest around rest (appended around (rvalue t) mid) new
    → KindFits Kind.AfterO around (Meant Production.RvalueItem byte around (tree (rvalue t) true ∷ rest ∷ [])) old
    (Later Production.RvalueItem byte around began (tree (rvalue t) true ∷ rest ∷ []) new)
unfolding meaning signature_or with_item tree_of ref_of part unfolding_.behind with_type is_listed takes_all
rvalue-item around byte began t rest old mid new one other = (
  tt,
  list-fits around parameter_type (rvalue t) (tree_of rest) old (appended around (rvalue t) mid) new
      ((rvalue-fits around t old mid one).types parameter_type tt refl) other.1,
  other.2,
)

-- ## Arguments

-- a type is an argument
pub type-as-argument : (around : Around) (v : Value) (old new : State) → KindFits Kind.Item around v old new → KindFits Kind.Argument around v old new
type-as-argument around v old new one in_pack = type-argument (tree_of v) around in_pack old new one

-- a pack is made before the arguments after it are read
pub pack-argument : (around : Around) (byte : ℕ) (began : State) (t : Term) (mark rest : Value) (old mid new : State)
    → ArgumentsFit around true t old mid → KindFits Kind.ArgumentList around rest mid new
    → KindFits Kind.ArgumentList around (Meant Production.PackArgument byte around (tree (pack t) true ∷ mark ∷ rest ∷ [])) old
    (Later Production.PackArgument byte around began (tree (pack t) true ∷ mark ∷ rest ∷ []) new)
unfolding meaning no_items tree_of part unfolding_.behind
pack-argument around byte began t mark rest old mid new one other =
    arguments-fit around false (pack t) (no_items rest) old mid new (pack-fits around t old mid one) other

-- the end of the arguments
pub no-arguments : (around : Around) (in_pack : Bool) (state : State) → ArgumentsFit around in_pack (no_items nothing_there) state state
unfolding no_items
no-arguments around in_pack state = no-arguments-fit around in_pack state

-- ## Literals

-- a literal's type becomes a candidate before its number is read
pub integer-literal : (around : Around) (byte : ℕ) (began : State) (v number : Value) (old new : State)
    → KindFits Kind.LiteralType around v old new → IsSpellableNumber (signed_of number)
    → KindFits Kind.Literal around (Meant Production.IntegerLiteral byte around (v ∷ number ∷ [])) old
    (Later Production.IntegerLiteral byte around began (v ∷ number ∷ []) (with_type around v new))
unfolding meaning tree_of part unfolding_.behind takes_literals
integer-literal around byte began v number old new one is in_pack =
    integer-fits around in_pack (tree_of v) (signed_of number) old (with_type around v new) is (one.types literal_type tt refl)

pub char-literal : (around : Around) (byte : ℕ) (began : State) (number : Value) (state : State)
    → IsBuiltin literal_type (68 ∷ byte ∷ []) → IsSpellableNumber (signed_of number)
    → KindFits Kind.LiteralAfterD around (Meant Production.CharLiteral byte around (number ∷ [])) state
    (Later Production.CharLiteral byte around began (number ∷ []) state)
unfolding meaning tree_of part unfolding_.behind takes_literals with_type is_listed
char-literal around byte began number state known is in_pack =
    integer-fits around in_pack (builtin (68 ∷ byte ∷ [])) (signed_of number) state state is
    ((builtin-fits takes_literals around (68 ∷ byte ∷ []) state literal-slots).types literal_type tt refl)
  where
    literal-slots : (slot : Slot) → takes_literals slot ≡ true → IsBuiltin slot (68 ∷ byte ∷ [])
    literal-slots literal_type take = known
    literal-slots any_type take = absurd (false≢true take)
    literal-slots bare_type take = absurd (false≢true take)
    literal-slots item_type take = absurd (false≢true take)
    literal-slots parameter_type take = absurd (false≢true take)

-- the type of a literal by its letter
pub builtin-literal : (around : Around) (byte : ℕ) (state : State) → byte < 256 → choose Kind.LiteralType byte ≡ Some Production.Builtin
    → KindFits Kind.LiteralType around (tree (builtin (byte ∷ [])) true) state state
unfolding takes_literals
builtin-literal around byte state small is = builtin-fits takes_literals around (byte ∷ []) state slots
  where
    slots : (slot : Slot) → takes_literals slot ≡ true → IsBuiltin slot (byte ∷ [])
    slots literal_type take = (small, is)
    slots any_type take = absurd (false≢true take)
    slots bare_type take = absurd (false≢true take)
    slots item_type take = absurd (false≢true take)
    slots parameter_type take = absurd (false≢true take)

-- ## After an S, and types of vendors

pub abbreviation-read : (around : Around) (byte : ℕ) (began state : State) → byte < 256
    → choose Kind.Abbreviation byte ≡ Some Production.Abbreviation
    → KindFits Kind.Abbreviation around (Meant Production.Abbreviation byte around []) state
    (Later Production.Abbreviation byte around began [] state)
unfolding meaning unfolding_.behind
abbreviation-read around byte began state small is = inl (byte, refl, (small, is), refl)

-- the candidate that a substitution denotes, if the substitution wasn't refused
pub substitution-read : (around : Around) (old : State) (r : Found Value State) → Substituted around old r
    → KindFits Kind.Abbreviation around r.value old r.state
substitution-read around old r named = inr (named.candidate, named.value, named.referred)
