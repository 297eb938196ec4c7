-- What a row means: what a production denotes, and what is done before its parts and once they are read.
use Rattle.std.specs.Prelude.{ℕ, ◌-◌, List, [], ◌∷◌, ◌++◌, Bool, true, false, cond, not, ◌&&◌, nat_eq, None, Err}
use Rattle.sym_core.specs.declared.refusal.Refusal.TheVariants.{BadReference}
use Rattle.sym_link.specs.Reading.{◌>>=◌}
use Rattle.cpp_grammar.specs.Term.{Term, list, parameter, pack, absent, any_value}
use Rattle.cpp_grammar.specs.Values.{State, Around, prefix_tree, Value, nothing_there, letter, tree, piece, named, pair, unqualified, tree_of, piece_of, is_listed, qualifiers_of, ref_of, letter_of, is_there, text_of, signed_of, normal, local_number, part}
use Rattle.cpp_grammar.specs.References.{appended, with_type, with_unqualified, with_prefix, parameter_named}
use Rattle.cpp_grammar.specs.Surrounding.{Continuation, next, in_name, in_types, in_signature, under_expansion, after, inside, extended, with_tag, applied, no_items, index_of}
use Rattle.cpp_grammar.specs.Standing.{parameters, discriminator_of, listed_value, with_item, first_letter, second_letter}
use Rattle.cpp_grammar.specs.Builders.{Argument, a_tree, some_bytes, a_number, a_truth, some_qualifiers, a_mark, a_signed, a_discriminator, tree_in, number_in, truth_in, built}
use Rattle.cpp_grammar.specs.Row.{Source, tree_at, list_at, parameters_at, piece_at, the_name, no_tree, text_at, digits_at, code, taken, fixed, letter_at, letter_or_taken, letter_or, operator_first_at, operator_second_at, number_at, yes, no, there_at, letter_is, qualifiers_at, qualified_by, ref_at, signed_at, discriminator_at, Made, of, only, extending, tagging, applying, packing, Listing, listed, unlisted, as_part, unless_there, as_part_alone, Form, handed, finished, either, the_byte, makes, a_piece, a_pair, cell, item, a_name, in_place, own, Where, as_before, in_its_name, in_its_types, in_a_signature, under_it, nameless, after_part, after_the_name, Gain, nothing, the_prefix, type_of, unqualified_of, itself, Action, quiet, goes, becomes, tests, holds, unread, Row}
use Rattle.cpp_grammar.specs.Own.{own_meaning}

-- ## Trees

-- an argument of a tree, given the byte that is taken, what surrounds the production, and the values of its parts
unfoldable pub given : (byte : ℕ) → Around → List Value → Source → Argument
given byte around vs (tree_at k) = a_tree (tree_of (part vs k))
given byte around vs (list_at k) = a_tree (no_items (part vs k))
given byte around vs (parameters_at k) = a_tree (parameters (tree_of (part vs k)))
given byte around vs (piece_at k) = a_tree (piece_of (part vs k))
given byte around vs no_tree = a_tree absent
given byte around vs the_name = a_tree (prefix_tree around.prefix)
given byte around vs (text_at k) = some_bytes (text_of (part vs k))
given byte around vs (digits_at k) = some_bytes (normal (text_of (part vs k)))
given byte around vs (code front) = some_bytes (front ++ (byte ∷ []))
given byte around vs taken = a_number byte
given byte around vs (fixed n) = a_number n
given byte around vs (letter_at k) = a_number (letter_of (part vs k))
given byte around vs (letter_or_taken k) = a_number (cond (nat_eq (letter_of (part vs k)) 0) byte (letter_of (part vs k)))
given byte around vs (letter_or k other) = a_number (cond (nat_eq (letter_of (part vs k)) 0) other (letter_of (part vs k)))
given byte around vs (operator_first_at k) = a_number (first_letter (piece_of (part vs k)))
given byte around vs (operator_second_at k) = a_number (second_letter (piece_of (part vs k)))
given byte around vs (number_at k) = a_number (local_number (text_of (part vs k)))
given byte around vs yes = a_truth true
given byte around vs no = a_truth false
given byte around vs (there_at k) = a_truth (is_there (part vs k))
given byte around vs (letter_is k n) = a_truth (nat_eq (letter_of (part vs k)) n)
given byte around vs (qualifiers_at k) = some_qualifiers (qualifiers_of (part vs k))
given byte around vs (qualified_by r v c) =
    some_qualifiers (record { restrict = truth_in (given byte around vs r); volatile = truth_in (given byte around vs v); const = truth_in (given byte around vs c) })
given byte around vs (ref_at k) = a_mark (ref_of (part vs k))
given byte around vs (signed_at k) = a_signed (signed_of (part vs k))
given byte around vs (discriminator_at k) = a_discriminator (discriminator_of (part vs k))

unfoldable pub all_given : (byte : ℕ) → Around → List Value → List Source → List Argument
all_given byte around vs [] = []
all_given byte around vs (s ∷ ss) = given byte around vs s ∷ all_given byte around vs ss

unfoldable pub made : (byte : ℕ) → Around → List Value → Made → Term
made byte around vs (of maker sources) = built maker (all_given byte around vs sources)
made byte around vs (only source) = tree_in (given byte around vs source)
made byte around vs (extending m) = extended around.prefix (made byte around vs m)
made byte around vs (tagging k) = with_tag (prefix_tree around.prefix) (text_of (part vs k))
made byte around vs (applying m k) = applied (made byte around vs m) (part vs k)
made byte around vs (packing k) = pack (no_items (part vs k))

unfoldable pub is_listing : List Value → Listing → Bool
is_listing vs listed = true
is_listing vs unlisted = false
is_listing vs (as_part k) = is_listed (part vs k)
is_listing vs (unless_there k) = not (is_there (part vs k))
is_listing vs (as_part_alone k n) = is_listed (part vs k) && not (is_there (part vs n))

-- ## What a production denotes

unfoldable pub meant : Form → (byte : ℕ) → Around → List Value → Value
meant (handed k) byte around vs = part vs k
meant (finished k) byte around vs = listed_value (part vs k)
meant (either k n) byte around vs = elim (is_there (part vs k)) [ true ↦ part vs k | false ↦ part vs n ]
meant the_byte byte around vs = letter byte
meant (makes m listing) byte around vs = tree (made byte around vs m) (is_listing vs listing)
meant (a_piece m) byte around vs = piece (made byte around vs m)
meant (a_pair l x y) byte around vs = pair (number_in (given byte around vs l)) (made byte around vs x) (made byte around vs y)
meant (cell first rest) byte around vs = tree (list (tree_of (part vs first)) (no_items (part vs rest))) true
meant (item first rest) byte around vs = with_item (tree_of (part vs first)) (part vs rest)
meant (a_name listing) byte around vs = tree (applied (tree_of (part vs 0)) (part vs 1)) (is_listing vs listing)
meant in_place byte around vs = named (applied (tree_of (part vs 0)) (part vs 1)) unqualified any_value
meant (own o most) byte around vs = own_meaning o byte around vs

-- ## Before a part

unfoldable pub around_part : Around → (place : ℕ) → List Value → Where → Around
around_part around place vs as_before = around
around_part around place vs in_its_name = in_name place
around_part around place vs in_its_types = in_types place (tree_of (part vs 0))
around_part around place vs in_a_signature = in_signature around
around_part around place vs under_it = under_expansion around
around_part around place vs nameless = inside around
around_part around place vs (after_part k listing) = after (tree_of (part vs k)) (is_listing vs listing) around
around_part around place vs after_the_name = after (prefix_tree around.prefix) true around

-- under an expansion no packs have been named yet
unfoldable pub packs_within : Where → State → State
packs_within under_it state = record state { packs = None }
packs_within w state = state

unfoldable pub gained : Gain → Around → List Value → Value → State → State
gained nothing around vs v state = state
gained the_prefix around vs v state = with_prefix around state
gained (type_of k) around vs v state = with_type around (part vs k) state
gained (unqualified_of k) around vs v state = with_unqualified around (part vs k) state
gained itself around vs v state = appended around (tree_of v) state

-- the values, with this one in place of the first
unfoldable pub replaced : Value → List Value → List Value
replaced t [] = []
replaced t (v ∷ vs) = t ∷ vs

-- a parameter takes the place of its number
unfoldable pub tested : (is_name : Bool) → Around → Term → List Value → (now before : State) → Continuation
tested is_name around t vs now before =
    next (replaced (tree t true) vs) (cond is_name (after t true around) around) (cond is_name now (record now { candidates = before.candidates }))

unfoldable pub done : Action → Around → (place : ℕ) → List Value → State → Continuation
done quiet around place vs state = next vs around state
done (goes gain w) around place vs state = next vs (around_part around place vs w) (packs_within w (gained gain around vs nothing_there state))
done (becomes m is_in is_name is_candidate) around place vs state =
    let t = made 0 around vs m in
    next (replaced (tree t is_in) vs) (cond is_name (after t is_in around) around) (cond is_candidate (appended around t state) state)
done (tests after_t is_name) around place vs state =
    let k = index_of (part vs 0) in
    parameter_named around (cond after_t (place - 1) place) k state >>= λ s. tested is_name around (parameter k) vs s state
-- the ABI's grammar has no M in a name
done holds around place vs state = Err (BadReference place)
-- the ABI's grammar has no inherited constructor
done unread around place vs state = Err (BadReference place)

-- ## Once its parts are read

unfoldable pub state_after : Row → Around → (began : State) → Value → List Value → State → State
state_after row around began v vs state = let s = gained row.gain around vs v state in cond row.restores_packs (record s { packs = began.packs }) s
