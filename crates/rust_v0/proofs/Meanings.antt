-- What a production makes of its parts is its meaning.
use Rattle.rust_v0.proofs.Basics.{◌≡◌, ◌≤◌, ◌<◌, ◌+◌, refl, sym, arith, ℕ, List, length, drop, get_or, true, false, Option, Ok, Err, ◌^◌, length-drop, false≢true, Result, Refusal, Malformed, BadReference, BadValue, TooLong, Memory, AreAll, Fails, Gives, ◌>>=◌, grows-same, RustNodes, Made, IsNoted, v0_view, Keeps, GoesOn, refers_by, of_type, of_types, of_constant, Table, tree_of, type_of, types_of, constant_of, IsWithin, bytes_at, trees, Node, Ty, Constant, Production, Part, Value, a_suffix, some_bounds, suffix_rest, letter, unsafe_mark, an_abi, minus_mark, a_truth, At, Meaning, meaning, byte_at, number_part, referred, Target, IsPart, IsNumber, Agree, ground, HasLists, MadeGives, is_reference, makes_part}
use Rattle.std.proofs.Math.Seq.{take-length}
use Rattle.rust_tree.specs.Symbol as tree
use Rattle.rust_tree.specs.declared.node.Types.{Types}
use Rattle.rust_grammar.specs.declared.production.Production.TheVariants as rules
use Rattle.rust_v0.specs.CodeOperands as operands
use Rattle.rust_v0.proofs.OperandLemmas.{number_agrees}
use Rattle.rust_v0.specs.CodeSemantics as semantics
use Rattle.rust_v0.proofs.SemanticsLemmas.{abi_gives, array_gives, binder_gives, binding_gives, bool_constant_gives, char_constant_gives, const_pointer_gives, constant_argument_gives, crate_root_gives, disambiguated_gives, disambiguator_gives, dyn_type_gives, function_gives, generic_gives, inherent_impl_gives, lifetime_argument_gives, lifetime_gives, more_bounds_gives, more_types_gives, mut_pointer_gives, mutable_reference_gives, nested_gives, plain_name_gives, punycode_name_gives, shared_reference_gives, signed_constant_gives, slice_gives, symbol_gives, trait_definition_gives, trait_impl_gives, tuple_gives, type_argument_gives, unsigned_constant_gives}

to_end : (s : List ℕ) (place : ℕ) → place ≤ length s
    → IsWithin (record { from = place; to = length s }) s × (bytes_at s (record { from = place; to = length s }) ≡ drop place s)
to_end s place within = ((within, omega arith), rw (← length-drop place s) (take-length (drop place s)))

basic_tree : (s : List ℕ) (table : Table) (c : ℕ) → tree_of s (ground s table).all (Node.Ty (Ty.Basic c)) ≡ of_type (tree.basic c)
unfolding type_of
basic_tree s table c = refl

types_tree : (s : List ℕ) (table : Table) → tree_of s (ground s table).all (Node.Types Types.None) ≡ of_types tree.no_types
unfolding types_of
types_tree s table = refl

placeholder_tree : (s : List ℕ) (table : Table) → tree_of s (ground s table).all (Node.Constant Constant.Placeholder) ≡ of_constant tree.placeholder
unfolding constant_of
placeholder_tree s table = refl

pub made_gives : (table : Table) (at : At) (production : Production) (ps : List Part) (vs : List Value) → is_reference production ≡ false
    → at.place < length at.symbol → at.bound < 2 ^ 64 → HasLists (ground at.symbol table) → AreAll (IsPart (ground at.symbol table)) ps vs
    → MadeGives at.symbol table at (semantics.made production at.symbol at.place at.bound ps) (meaning production at vs)
made_gives table at rules.Symbol ps vs other within fits lists are = symbol_gives at.symbol table at ps vs lists are
made_gives table at rules.PathReference ps vs other within fits lists are = absurd (false≢true (sym other))
made_gives table at rules.Suffix ps vs other within fits lists are = (a_suffix (drop at.place at.symbol), refl, (to_end at.symbol at.place (omega (arith, within))))
made_gives table at rules.SuffixByte ps vs other within fits lists are = (suffix_rest, refl, tt)
made_gives table at rules.Namespace ps vs other within fits lists are = (letter (byte_at at), refl, refl)
made_gives table at rules.Disambiguator ps vs other within fits lists are = disambiguator_gives at.symbol table at ps vs lists are
made_gives table at rules.DisambiguatedIdentifier ps vs other within fits lists are = disambiguated_gives at.symbol table at ps vs lists are
made_gives table at rules.PunycodeName ps vs other within fits lists are = punycode_name_gives at.symbol table at ps vs lists are
made_gives table at rules.PlainName ps vs other within fits lists are = plain_name_gives at.symbol table at ps vs lists are
made_gives table at rules.BasicType ps vs other within fits lists are = (of_type (tree.basic (byte_at at)), refl, record { parts = tt; tree = basic_tree at.symbol table (byte_at at) })
made_gives table at rules.TypeReference ps vs other within fits lists are = absurd (false≢true (sym other))
made_gives table at rules.TypesEnd ps vs other within fits lists are = (of_types tree.no_types, refl, record { parts = tt; tree = types_tree at.symbol table })
made_gives table at rules.Lifetime ps vs other within fits lists are = lifetime_gives at.symbol table at ps vs lists fits are
made_gives table at rules.Binder ps vs other within fits lists are = binder_gives at.symbol table at ps vs lists are
made_gives table at rules.Unsafe ps vs other within fits lists are = (unsafe_mark, refl, tt)
made_gives table at rules.Abi ps vs other within fits lists are = abi_gives at.symbol table at ps vs lists are
made_gives table at rules.AbiC ps vs other within fits lists are = (an_abi tree.c_abi, refl, (tt, refl))
made_gives table at rules.BoundsEnd ps vs other within fits lists are = (some_bounds tree.no_bounds, refl, lists.bounds)
made_gives table at rules.SignedConstant ps vs other within fits lists are = signed_constant_gives at.symbol table at ps vs lists are
made_gives table at rules.UnsignedConstant ps vs other within fits lists are = unsigned_constant_gives at.symbol table at ps vs lists are
made_gives table at rules.CharConstant ps vs other within fits lists are = char_constant_gives at.symbol table at ps vs lists are
made_gives table at rules.Placeholder ps vs other within fits lists are = (of_constant tree.placeholder, refl, record { parts = tt; tree = placeholder_tree at.symbol table })
made_gives table at rules.ConstantReference ps vs other within fits lists are = absurd (false≢true (sym other))
made_gives table at rules.Minus ps vs other within fits lists are = (minus_mark, refl, tt)
made_gives table at rules.False ps vs other within fits lists are = (a_truth false, refl, refl)
made_gives table at rules.True ps vs other within fits lists are = (a_truth true, refl, refl)
-- Generated by tools/rust_productions.py.
made_gives table at rules.Crate ps vs other within fits lists are = crate_root_gives at.symbol table at ps vs lists are
made_gives table at rules.InherentImpl ps vs other within fits lists are = inherent_impl_gives at.symbol table at ps vs lists are
made_gives table at rules.TraitImpl ps vs other within fits lists are = trait_impl_gives at.symbol table at ps vs lists are
made_gives table at rules.TraitDefinition ps vs other within fits lists are = trait_definition_gives at.symbol table at ps vs lists are
made_gives table at rules.Nested ps vs other within fits lists are = nested_gives at.symbol table at ps vs lists are
made_gives table at rules.Generic ps vs other within fits lists are = generic_gives at.symbol table at ps vs lists are
made_gives table at rules.LifetimeArgument ps vs other within fits lists are = lifetime_argument_gives at.symbol table at ps vs lists are
made_gives table at rules.ConstantArgument ps vs other within fits lists are = constant_argument_gives at.symbol table at ps vs lists are
made_gives table at rules.TypeArgument ps vs other within fits lists are = type_argument_gives at.symbol table at ps vs lists are
made_gives table at rules.Array ps vs other within fits lists are = array_gives at.symbol table at ps vs lists are
made_gives table at rules.Slice ps vs other within fits lists are = slice_gives at.symbol table at ps vs lists are
made_gives table at rules.Tuple ps vs other within fits lists are = tuple_gives at.symbol table at ps vs lists are
made_gives table at rules.SharedReference ps vs other within fits lists are = shared_reference_gives at.symbol table at ps vs lists are
made_gives table at rules.MutableReference ps vs other within fits lists are = mutable_reference_gives at.symbol table at ps vs lists are
made_gives table at rules.ConstPointer ps vs other within fits lists are = const_pointer_gives at.symbol table at ps vs lists are
made_gives table at rules.MutPointer ps vs other within fits lists are = mut_pointer_gives at.symbol table at ps vs lists are
made_gives table at rules.Function ps vs other within fits lists are = function_gives at.symbol table at ps vs lists are
made_gives table at rules.Dyn ps vs other within fits lists are = dyn_type_gives at.symbol table at ps vs lists are
made_gives table at rules.TypesMore ps vs other within fits lists are = more_types_gives at.symbol table at ps vs lists are
made_gives table at rules.BoundsMore ps vs other within fits lists are = more_bounds_gives at.symbol table at ps vs lists are
made_gives table at rules.Binding ps vs other within fits lists are = binding_gives at.symbol table at ps vs lists are
made_gives table at rules.BoolConstant ps vs other within fits lists are = bool_constant_gives at.symbol table at ps vs lists are

-- a production that makes a part isn't a reference
pub makes_no_reference : (production : Production) → makes_part production ≡ true → is_reference production ≡ false
makes_no_reference rules.PathReference makes = absurd (false≢true makes)
makes_no_reference rules.TypeReference makes = absurd (false≢true makes)
makes_no_reference rules.ConstantReference makes = absurd (false≢true makes)
makes_no_reference production makes = refl

pub reference_means : (at : At) (production : Production) (known : List Value) → is_reference production ≡ true
    → meaning production at known ≡ (number_part known >>= λ n. refers_by production at (referred at n.0))
reference_means at rules.PathReference known is = refl
reference_means at rules.TypeReference known is = refl
reference_means at rules.ConstantReference known is = refl
reference_means at production known is = absurd (false≢true is)

fails_same : {A : Type 0} (e : Refusal) (read : Result A Refusal) → read ≡ Err e → Fails e read
fails_same Memory read is = tt
fails_same (Malformed at) read is = is
fails_same (BadReference at) read is = is
fails_same (BadValue at) read is = is
fails_same TooLong read is = is

pub refused : (s : List ℕ) (linked : RustNodes) (e : Refusal) (read : Meaning) → read ≡ Err e → Gives (v0_view s) linked (Err e) read
refused s linked e read is = fails_same e read is

-- a part was made and the nodes are as they were, or there is a refusal
pub gives_part : (s : List ℕ) (linked : RustNodes) (at : At) (result : Result Part Refusal) (made : semantics.Outcome) (read : Meaning) → Keeps s linked at.ended
    → semantics.of_part result ≡ made → MadeGives s linked.nodes at made read → Gives (v0_view s) linked result read
gives_part s linked at (Ok part) made read keeps is given = stands (rw (← is) at given)
  where
    stands : MadeGives s linked.nodes at (Ok (Made.Part part)) read → Gives (v0_view s) linked (Ok part) read
    stands (v, is, stand) = (v, _, is, stand, keeps)
gives_part s linked at (Err e) made read keeps is given = refused s linked e read (rw (← is) at given)

pub goes_on_same : (old new : RustNodes) → new.nodes ≡ old.nodes → length new.targets.items ≡ length old.targets.items → GoesOn old new
goes_on_same old new nodes places = record { nodes = grows-same old.nodes new.nodes nodes; places = omega (arith, places) }

pub reference_gives : (at : At) (linked new : RustNodes) (production : Production) (ps : List Part) (known : List Value) (found : Option ℕ) (rest : List Part) (ending : Target)
    (result : Result Part Refusal) → is_reference production ≡ true → operands.number ps ≡ Ok (found, rest) → AreAll (IsPart (ground at.symbol linked.nodes)) ps known
    → Keeps at.symbol linked at.ended → ((n : ℕ) → IsNumber found n → ending ≡ get_or linked.targets.items (n + 2) Target.Nothing)
    → ((value : Option Value) → IsNoted (trees at.symbol linked.nodes.nodes) ending value → Gives (v0_view at.symbol) new result (refers_by production at value))
    → Gives (v0_view at.symbol) new result (meaning production at known)
reference_gives at linked new production ps known found rest ending result is front_is are keeps ending_is give =
    let agree : Agree {X = Option ℕ} {A = ℕ} (ground at.symbol linked.nodes) IsNumber (Ok (found, rest)) (number_part known) =
    rw front_is at (number_agrees (ground at.symbol linked.nodes) ps known are) in
    rw (reference_means at production known is, agree.2) (give (referred at agree.0) (rw (ending_is agree.0 agree.3) (keeps.noted (agree.0 + 2))))
