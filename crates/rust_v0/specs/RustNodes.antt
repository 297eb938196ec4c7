-- How the nodes made so far agree with the reading of a symbol.
use Rattle.std.specs.Prelude.{◌≡◌, ℕ, ◌+◌, ◌-◌, ◌*◌, ◌≤◌, ◌<◌, List, [], ◌∷◌, true, length, Option, Some, Result, Err, IfErr}
use Rattle.sym_core.specs.Printed.{IsDecoded}
use Rattle.sym_link.specs.Linking.{View}
use Rattle.rust_tree.specs.Nodes.{most_bound, IsTable, Grows}
use Rattle.sym_core.specs.declared.refusal.Refusal.{Refusal}
use Rattle.sym_core.specs.declared.refusal.Refusal.TheVariants.{Memory}
use Rattle.rust_grammar.specs.declared.production.Production.{Production}
use Rattle.rust_grammar.specs.declared.production.Production.TheVariants as rules
use Rattle.rust_references.specs.Targets.{AreNoted}
use Rattle.rust_v0.specs.declared.nodes.BoundLifetimes.{BoundLifetimes}
use Rattle.rust_v0.specs.declared.nodes.RustNodes.{RustNodes}
use Rattle.rust_v0.specs.declared.part.Part.{Part}
use Rattle.rust_grammar.specs.Productions.{production_of}
use Rattle.rust_grammar.specs.Rules.{v0_table}
use Rattle.rust_grammar.specs.Value as value
use Rattle.rust_grammar.specs.Value.{Value, State, Ended}
use Rattle.rust_grammar.specs.Unfold.{v0, at_first, as_path, as_type, as_constant, At, Meaning, no_such_parts, refers_to_path, refers_to_type, refers_to_constant}
use Rattle.rust_v0.specs.PartValues.{IsPart}
use Rattle.rust_v0.specs.Made.{ground, HasLists}
use Rattle.rust_v0.specs.Tokens.{HasZero}

-- the nodes are a table of the symbol, begun with the empty lists, and what has ended is noted by its place in the symbol
pub record Keeps (s : List ℕ) (linked : RustNodes) (ended : List Ended) : Type 0 where
  pub places : length s < length linked.targets.items
  pub table : IsTable s linked.nodes
  pub lists : HasLists (ground s linked.nodes)
  pub noted : AreNoted (ground s linked.nodes).all linked.targets.items ended

-- how many nodes the table has before the first row
abbrev pub first_nodes : ℕ
first_nodes = 3

-- The lifetimes bound around the rule: at most as many as a symbol can bind before the rule's place.
pub record IsKept (linked : RustNodes) (kept : BoundLifetimes) (place bound : ℕ) : Type 0 where
  pub is : kept.bound ≡ bound
  pub few : bound ≤ most_bound * place
  pub there : place < length linked.targets.items

-- one table of nodes extends another
pub record GoesOn (old new : RustNodes) : Type 0 where
  pub nodes : Grows old.nodes new.nodes
  pub places : length old.targets.items ≤ length new.targets.items

-- a text may have been printed to the text list, and nothing else has changed
pub record Prints (old new : RustNodes) : Type 0 where
  pub nodes : new.nodes.nodes ≡ old.nodes.nodes
  pub ended : new.targets.items ≡ old.targets.items
  pub grows : Grows old.nodes new.nodes
  pub stays : (s : List ℕ) → IsTable s old.nodes → IsTable s new.nodes
  pub node_room : new.nodes.node_room ≡ old.nodes.node_room
  pub text_room : old.nodes.text_room ≤ new.nodes.text_room

-- At most one node was added, and nothing else. If memory was refused for the node, the list of nodes had no room for one
-- more.
pub record AddsOne {X : Type 0} (old new : RustNodes) (result : Result X Refusal) : Type 0 where
  pub grows : GoesOn old new
  pub one : length new.nodes.nodes ≤ length old.nodes.nodes + 1
  pub text : new.nodes.text ≡ old.nodes.text
  pub full : IfErr result (λ e. e ≡ Memory → old.nodes.node_room < length new.nodes.nodes + 1)
  pub node_room : old.nodes.node_room ≤ new.nodes.node_room
  pub text_room : new.nodes.text_room ≡ old.nodes.text_room

-- this many bytes pay for the text list, which begins with the decimal of zero
pub record IsPaid (linked : RustNodes) (bytes : ℕ) : Type 0 where
  pub begun : first_nodes ≤ length linked.nodes.nodes
  pub text : length linked.nodes.text ≤ 4 * bytes + 20
  pub zero : HasZero linked.nodes.text

-- how many bytes a token adds to the text list at once, at most
abbrev pub most_text : List ℕ → ℕ
most_text s = 4 * length s + 10

abbrev pub v0_view : List ℕ → View RustNodes Part BoundLifetimes Value State ℕ
v0_view s = record {
  table = v0_table;
  reading = v0 s;
  around = 0;
  first = at_first;
  IsPart = λ linked part value. IsPart (ground s linked.nodes) part value;
  IsKept = λ linked kept rule. IsKept linked kept rule.place rule.context;
  Holds = λ linked state. Keeps s linked state.ended;
  Grows = GoesOn;
  size = λ linked. length linked.nodes.nodes - first_nodes;
  owes = λ number held. 1;
  closes = λ number own. 1;
  most = λ bytes. 4 * bytes + 4;
  IsPaid = IsPaid;
  lists = λ linked.
      record { room = linked.nodes.node_room; held = length linked.nodes.nodes; most = 1 }
      ∷ record { room = linked.nodes.text_room; held = length linked.nodes.text; most = most_text s } ∷ [];
  -- a name is decoded with memory of its own
  TakesMemory = λ number own. (production_of number ≡ Some rules.PunycodeName) × IsDecoded true own;
}

-- what a reference's production means, from what the reference names
abbrev pub refers_by : Production → At → Option Value → Meaning
refers_by rules.PathReference at known = refers_to_path at (as_path known)
refers_by rules.TypeReference at known = refers_to_type at (as_type known)
refers_by rules.ConstantReference at known = refers_to_constant at (as_constant known)
refers_by _ at known = Err no_such_parts
