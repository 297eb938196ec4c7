-- The parts of an open rule exist, and denote the values that the reading has for them.
use Rattle.std.proofs.Common.{◌≡◌, refl, sym, ◌∙◌, ap, subst, ℕ, ◌-◌, List, [], ◌∷◌, length, take, drop, Option}
use Rattle.sym_link.proofs.Lists.{rest_all}
use Rattle.sym_link.specs.declared.language.Frame.{Frame}
use Rattle.sym_link.specs.Driving.{AreAll}
use Rattle.sym_link.specs.Threads.{IsOpenAt}
use Rattle.cpp_grammar.specs.Values.{Counting}
use Rattle.cpp_term.specs.Values.{Candidate, State, Value, Around}
use Rattle.cpp_references.specs.declared.around.Surroundings.{Surroundings}
use Rattle.cpp_link.specs.declared.part.Part.{Part}
use Rattle.cpp_link.specs.declared.linked.Linked.{Linked}
use Rattle.cpp_link.specs.Parts.{trees_in, values_of, values_in, around_of, IsClosed, AreThere, IsKeptThere}
use Rattle.cpp_link.specs.Making.{state_of}
use Rattle.cpp_link.specs.View.{IsPart, IsWhole, Holds, Surrounds, cpp_view}

pub parts_are : (s : List ℕ) (l : Linked) (own : List Part) (known : List Value) → AreAll (IsPart s l) own known
    → AreThere s (length l.nodes.nodes) own × (values_in s l.nodes own ≡ known)
unfolding values_of
parts_are s l [] [] are = (tt, refl)
parts_are s l (p ∷ ps) (v ∷ vs) are = let rest = parts_are s l ps vs are.1 in ((are.0.there, rest.0), rw (are.0.is, rest.1) refl)
parts_are s l [] (v ∷ vs) are = absurd are
parts_are s l (p ∷ ps) [] are = absurd are

-- states with equal candidates, equal packs and equal counting are equal
pub same_state : (cs ds : List Candidate) (p q : Option ℕ) (a b : Counting) → cs ≡ ds → p ≡ q → a ≡ b
    → ◌≡◌ {A = State} (record { candidates = cs; packs = p; counting = a }) (record { candidates = ds; packs = q; counting = b })
same_state cs ds p q a b candidates packs counting = rw (candidates, packs, counting) refl

pub held_state : (s : List ℕ) (l : Linked) (state : State) → Holds s l state → state_of s l ≡ state
held_state s l state holds = same_state _ state.candidates _ state.packs _ state.counting holds.candidates holds.packs holds.counting

-- the parts of an open rule exist
pub open_there : (s : List ℕ) (l : Linked) (frame : Frame Surroundings) (parts own : List Part) → IsOpenAt (cpp_view s) s l frame parts → own ≡ drop frame.base parts
    → AreThere s (length l.nodes.nodes) own
open_there s l frame parts own o same =
    subst (λ ps. AreThere s (length l.nodes.nodes) ps) (sym same) (parts_are s l (drop frame.base parts) o.known o.at.parts).0

-- the parts in the slice from the rule's base on exist
pub own_there : (s : List ℕ) (l : Linked) (frame : Frame Surroundings) (parts given : List Part) → IsOpenAt (cpp_view s) s l frame parts → given ≡ parts
    → AreThere s (length l.nodes.nodes) (take (length given - frame.base) (drop frame.base given))
own_there s l frame parts given o same = open_there s l frame parts _ o (rest_all given frame.base ∙ ap (λ ps. drop frame.base ps) same)

-- where a rule is open the nodes are a table
pub open_whole : (s : List ℕ) (l : Linked) (frame : Frame Surroundings) (parts : List Part) → IsOpenAt (cpp_view s) s l frame parts → IsWhole s l
open_whole s l frame parts o = record { table = o.at.holds.table; there = o.at.holds.there }

pub open_kept : (s : List ℕ) (l : Linked) (frame : Frame Surroundings) (parts : List Part) → IsOpenAt (cpp_view s) s l frame parts → IsKeptThere (length l.nodes.nodes) frame.kept
open_kept s l frame parts o = o.at.kept.surrounds.there

pub parts_all : (s : List ℕ) (l : Linked) (own : List Part) → AreThere s (length l.nodes.nodes) own → AreAll (IsPart s l) own (values_in s l.nodes own)
unfolding values_of
parts_all s l [] there = tt
parts_all s l (p ∷ ps) there = (record { there = there.0; is = refl }, parts_all s l ps there.1)

-- no parameter is free in the arguments that are named where a rule is open
pub kept_closed : (s : List ℕ) (l : Linked) (kept : Surroundings) (around : Around) → Surrounds s l kept around → IsClosed (around_of (trees_in s l.nodes) kept)
kept_closed s l kept around surrounds = subst (λ a. IsClosed a) (sym surrounds.is) surrounds.closed
