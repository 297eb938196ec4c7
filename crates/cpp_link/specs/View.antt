-- How the nodes agree with the reading of a C++ symbol.
use Rattle.std.specs.Prelude.{◌≡◌, ℕ, ◌-◌, ◌*◌, ◌<◌, ◌≤◌, List, length}
use Rattle.sym_link.specs.Reading.{Open}
use Rattle.sym_link.specs.Linking.{View}
use Rattle.cpp_grammar.specs.Table.{wide}
use Rattle.cpp_term.specs.Unfolding.{first_around, first_state}
use Rattle.cpp_term.specs.Values.{State, Value, Around}
use Rattle.cpp_tree.specs.Nodes.{over, tree_at, IsTable}
use Rattle.cpp_link.specs.declared.part.Part.{Part}
use Rattle.cpp_references.specs.declared.around.Surroundings.{Surroundings}
use Rattle.cpp_link.specs.declared.linked.Linked.{Linked}
use Rattle.cpp_link.specs.LinkReading.{linked}
use Rattle.cpp_link.specs.Room.{lists_of}
use Rattle.cpp_link.specs.Owed.{owes}
use Rattle.cpp_link.specs.Closes.{closes}
use Rattle.cpp_link.specs.Counting.{counting_of}
use Rattle.cpp_link.specs.Parts.{trees_in, value_in, packs_of, around_of, candidates_of, IsClosed, IsThere, IsKeptThere, AreCandidatesThere}

-- the part denotes the value
pub record IsPart (s : List ℕ) (l : Linked) (part : Part) (value : Value) : Type 0 where
  pub there : IsThere s (length l.nodes.nodes) part
  pub is : value_in s l.nodes part ≡ value

-- what is kept denotes these surroundings of a part
pub record Surrounds (s : List ℕ) (l : Linked) (kept : Surroundings) (around : Around) : Type 0 where
  pub there : IsKeptThere (length l.nodes.nodes) kept
  pub is : around_of (trees_in s l.nodes) kept ≡ around
  pub closed : IsClosed around

pub record IsKept (s : List ℕ) (l : Linked) (kept : Surroundings) (rule : Open State Around) : Type 0 where
  pub surrounds : Surrounds s l kept rule.context
  pub packs : packs_of kept ≡ rule.before.packs

-- the nodes are a table, and the candidates and the packs are those of the state
pub record Holds (s : List ℕ) (l : Linked) (state : State) : Type 0 where
  pub table : IsTable (over s l.nodes)
  pub there : AreCandidatesThere (length l.nodes.nodes) l.candidates
  pub candidates : candidates_of (trees_in s l.nodes) l.candidates.list.items ≡ state.candidates
  pub packs : l.packs ≡ state.packs
  pub counting : counting_of l.counting ≡ state.counting

-- the new table extends the old one
pub record GoesOn (s : List ℕ) (old new : Linked) : Type 0 where
  pub least : length old.nodes.nodes ≤ length new.nodes.nodes
  pub stays : (i : ℕ) → i < length old.nodes.nodes → tree_at (trees_in s new.nodes) i ≡ tree_at (trees_in s old.nodes) i

-- the nodes are a table, and the candidates are nodes of it
pub record IsWhole (s : List ℕ) (l : Linked) : Type 0 where
  pub table : IsTable (over s l.nodes)
  pub there : AreCandidatesThere (length l.nodes.nodes) l.candidates

-- the table has its first four nodes, and at most as many thunks as nodes
pub record IsPaid (l : Linked) : Type 0 where
  pub begun : 4 ≤ length l.nodes.nodes
  pub thunks : length l.nodes.thunks ≤ length l.nodes.nodes

abbrev pub cpp_view : List ℕ → View Linked Part Surroundings Value State Around
cpp_view s = record {
  table = wide;
  reading = linked s;
  around = first_around;
  first = first_state;
  IsPart = IsPart s;
  IsKept = IsKept s;
  Holds = Holds s;
  Grows = GoesOn s;
  size = λ l. length l.nodes.nodes - 4;
  owes = owes;
  closes = closes;
  most = λ bytes. 2 * bytes;
  IsPaid = λ l bytes. IsPaid l;
  lists = lists_of;
  TakesMemory = λ number own. ⊥;
}
