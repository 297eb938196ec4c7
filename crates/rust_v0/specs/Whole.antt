-- What the demangler takes from a Rust symbol that was read: its tree, its refusals and the numbers of its nodes.
use Rattle.std.proofs.Common.{arith, ℕ, List, length}
use Rattle.std.specs.Prelude.{slice_get}
use Rattle.sym_core.specs.declared.refusal.Refusal.{Refusal}
use Rattle.sym_shape.specs.declared.rule.Sym.TheVariants.{Kind}
use Rattle.sym_shape.specs.Tree.{Tree, IsTree, spell}
use Rattle.sym_link.specs.Driving.{Fails}
use Rattle.sym_link.specs.Following.{meaning_of}
use Rattle.sym_link.specs.Tally.{closing_makes}
use Rattle.sym_link.proofs.Tally.{fails_behind, fails_untallied}
use Rattle.sym_demangle.specs.Standing.{CountsNodes}
use Rattle.rust_tree.specs.Symbol as tree
use Rattle.rust_tree.specs.Layout.{ReadSymbol, trees_of}
use Rattle.rust_tree.specs.Nodes.{symbol_in}
use Rattle.rust_grammar.specs.Rules.{v0_table}
use Rattle.rust_grammar.specs.Unfold.{unfolded, symbol_of}
use Rattle.rust_v0.specs.declared.nodes.RustNodes.{RustNodes}
use Rattle.rust_v0.specs.RustNodes.{v0_view, first_nodes}
use Rattle.rust_v0.specs.NodeCount.{made_by, v0_counted}

-- the tree of a symbol that was read
abbrev pub whole_of : ReadSymbol → tree.Symbol
whole_of y = symbol_in (slice_get (trees_of y) y.root)

pub v0_fails : (shape : Tree) (e : Refusal) → IsTree v0_table (Kind 0) shape → Fails e (meaning_of (v0_counted (spell shape)) shape) → Fails e (unfolded shape)
v0_fails shape e is fails =
    fails_behind e (meaning_of (v0_view (spell shape)) shape) (λ whole. symbol_of whole.value) (fails_untallied (v0_view (spell shape)) (closing_makes made_by) shape e fails)

-- how many nodes a table has, with those that it has before the first row
abbrev pub node_count : RustNodes → ℕ
node_count linked = length linked.nodes.nodes

pub v0_counts : (s : List ℕ) → CountsNodes (v0_counted s) node_count first_nodes
v0_counts s = record { few = omega arith; most = λ nodes. omega arith; least = λ nodes bytes paid. omega (arith, paid.begun) }
