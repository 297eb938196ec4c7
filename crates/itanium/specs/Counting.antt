-- How many nodes the table of a C++ symbol has.
use Rattle.std.proofs.Common.{arith, ℕ, List, length}
use Rattle.sym_demangle.specs.Standing.{CountsNodes}
use Rattle.cpp_link.specs.declared.linked.Linked.{Linked}
use Rattle.cpp_link.specs.declared.rescoping.Rescoping.{Rescoping}
use Rattle.cpp_link.specs.NodeCount.{cpp_counted}
use Rattle.cpp_link.specs.LinkRescoping.{wide_counted}

abbrev pub node_count : Linked → ℕ
node_count linked = length linked.nodes.nodes

-- the nodes that exist before the first row: the absent tree, the empty list, the empty pack and the type auto
abbrev pub first_nodes : ℕ
first_nodes = 4

pub cpp_counts : (s : List ℕ) → CountsNodes (cpp_counted s) node_count first_nodes
cpp_counts s = record { few = omega arith; most = λ nodes. omega arith; least = λ nodes bytes paid. omega (arith, paid.begun) }

-- the number of nodes by the wide grammar
abbrev pub wide_node_count : Rescoping → ℕ
wide_node_count l = node_count l.linked

pub wide_counts : (s : List ℕ) → CountsNodes (wide_counted s) wide_node_count first_nodes
wide_counts s = record { few = omega arith; most = λ nodes. omega arith; least = λ nodes bytes paid. omega (arith, paid.begun) }
