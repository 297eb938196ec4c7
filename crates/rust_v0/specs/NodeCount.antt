-- How many nodes are made for a symbol.
use Rattle.std.specs.Prelude.{◌≡◌, ℕ, ◌+◌, ◌||◌, if◌then◌else◌, List, Option, Some, None}
use Rattle.sym_shape.specs.Tree.{Tree}
use Rattle.sym_link.specs.Linking.{View}
use Rattle.sym_link.specs.Tally.{Tally, closing_makes, tallied_view, nodes_in}
use Rattle.rust_grammar.specs.declared.production.Production.{Production}
use Rattle.rust_v0.specs.declared.nodes.BoundLifetimes.{BoundLifetimes}
use Rattle.rust_v0.specs.declared.nodes.RustNodes.{RustNodes}
use Rattle.rust_v0.specs.declared.part.Part.{Part}
use Rattle.rust_grammar.specs.Productions.{production_of, is_reference, makes_part}
use Rattle.rust_grammar.specs.Value.{Value, State}
use Rattle.rust_v0.specs.RustNodes.{v0_view, first_nodes}

-- A production makes one node where it closes. It makes none if it is a reference, which names an existing node, or if it
-- makes a part of another production's node.
unfoldable pub nodes_of_production : Option Production → ℕ
nodes_of_production None = 0
nodes_of_production (Some production) = if is_reference production || makes_part production then 0 else 1

-- the nodes that a rule of this number makes
abbrev pub made_by : (number : ℕ) → ℕ
made_by number = nodes_of_production (production_of number)

-- the nodes of a symbol of this shape: those at the front of each table, and those that its rules make
abbrev pub nodes_of_shape : Tree → ℕ
nodes_of_shape shape = first_nodes + nodes_in made_by shape

-- a symbol of this shape has this many nodes
abbrev pub are_nodes : Tree → ℕ → Type 0
are_nodes shape nodes = nodes ≡ nodes_of_shape shape

-- Rust's language, with its nodes counted
abbrev pub v0_counted : List ℕ → View RustNodes Part BoundLifetimes Value (Tally State) ℕ
v0_counted s = tallied_view (v0_view s) (closing_makes made_by)
