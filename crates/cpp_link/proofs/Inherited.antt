-- What is done with an inherited constructor is what the wide reading says.
use Rattle.cpp_link.proofs.Basics.{◌≡◌, refl, sym, ℕ, ◌<◌, List, length, drop, true, false, Option, Some, None, Err, BadReference, Frame, ClosesAll, Production, production_at, Term, by_gcc, appended_by, counted_unless, counted_base, State, Around, Value, Prefix, is_listed, extended, inherited, behind, close, Stored, tree_at, IsAliasBelow, Surroundings, Linked, Part, link_close, linked, with_candidate, inheriting_at_end, trees_in, value_of, around_of, IsKeptThere, around_stays, cpp_view}
use Rattle.cpp_term.specs.Term as term
use Rattle.cpp_term.specs.Values as values
use Rattle.cpp_link.proofs.Bytes.{byte_serves}
use Rattle.cpp_link.proofs.Finishing.{plain_closing, refused_right}

-- ## The base class is counted

pub counted_alone : (s : List ℕ) (ts : List Term) (around : Around) (base : Part) (state : State) → ((letter left right : ℕ) → base ≡ Part.Pair letter left right → ⊥)
    → counted_base around (value_of s ts base) state ≡ elim (is_listed (value_of s ts base)) [ true ↦ state | false ↦ appended_by by_gcc around (values.tree_of (value_of s ts base)) state ]
unfolding counted_base counted_unless value_of
counted_alone s ts around (Part.Pair letter left right) state other = absurd (other letter left right refl)
counted_alone s ts around _ state other = refl

-- the base class is counted once the constructor's node exists
pub counted_after : (s : List ℕ) (y z : Stored) (kept : Surroundings) (base : Option ℕ) (before mid : State) → ((i : ℕ) → i < length y.nodes → tree_at (trees_in s z) i ≡ tree_at (trees_in s y) i)
    → IsKeptThere (length y.nodes) kept → IsAliasBelow (length y.nodes) base → before ≡ mid
    → with_candidate by_gcc (around_of (trees_in s y) kept) (trees_in s y) base before ≡ with_candidate by_gcc (around_of (trees_in s z) kept) (trees_in s z) base mid
unfolding with_candidate
counted_after s y z kept None before mid stays kept_there there same = same
counted_after s y z kept (Some node) before mid stays kept_there there same =
    rw (around_stays s y z stays kept kept_there, stays node there, same) refl

pub nothing_behind : (byte : ℕ) (around : Around) (began : State) (vs : List Value) (state : State) → behind Production.Inheriting byte around began vs state ≡ state
unfolding behind
nothing_behind byte around began vs state = refl

-- ## Where it closes

-- the ABI's reading refuses an inherited constructor
pub inheriting_unread : (s : List ℕ) (old new : Linked) (frame : Frame Surroundings) (parts new_parts : List Part) → production_at frame.rule ≡ Production.Inheriting
    → ClosesAll (cpp_view s) s old new frame parts new_parts (Err (BadReference frame.place))
unfolding link_close close
inheriting_unread s old new frame parts new_parts inheriting =
    refused_right (linked s) (plain_closing s) s (byte_serves s) old frame parts (drop frame.base parts) Production.Inheriting (sym inheriting) refl new new_parts (BadReference frame.place) (λ began. refl)

-- ## Its name

pub base_alone : (prefix : Prefix) (digit : ℕ) (s : List ℕ) (ts : List Term) (base : Part) → ((letter left right : ℕ) → base ≡ Part.Pair letter left right → ⊥)
    → inherited prefix digit (value_of s ts base) ≡ values.tree (extended prefix (term.inheriting digit (values.tree_of (value_of s ts base)))) false
unfolding inherited value_of
base_alone prefix digit s ts (Part.Pair letter left right) other = absurd (other letter left right refl)
base_alone prefix digit s ts _ other = refl

pub one_made : (s : List ℕ) (ts : List Term) (base : Part) → ((letter left right : ℕ) → base ≡ Part.Pair letter left right → ⊥) → inheriting_at_end (value_of s ts base) ≡ 1
unfolding inheriting_at_end value_of
one_made s ts (Part.Pair letter left right) other = absurd (other letter left right refl)
one_made s ts _ other = refl
