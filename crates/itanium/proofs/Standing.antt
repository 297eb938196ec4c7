-- A linked symbol is what its shape denotes.
use Rattle.std.proofs.Common.{◌≡◌, refl, sym, ◌∙◌, ap, subst, arith, ℕ, ◌*◌, ◌+◌, ◌<◌, ◌≤◌, List, [], ◌∷◌, length, Bool, true, Result, Ok}
use Rattle.sym_core.specs.Number.{FitsSymbol}
use Rattle.sym_shape.specs.declared.rule.Row.{Row}
use Rattle.sym_shape.specs.Table.{Table}
use Rattle.sym_shape.specs.Tree.{Tree}
use Rattle.sym_demangle.specs.Standing.{IsLinked}
use Rattle.sym_core.specs.declared.refusal.Refusal.{Refusal}
use Rattle.sym_link.proofs.Tally.{done_nodes, done_untallied}
use Rattle.sym_link.specs.Reading.{Found}
use Rattle.sym_link.specs.Tally.{tallied_view}
use Rattle.sym_link.specs.Unfold.{found}
use Rattle.sym_link.specs.Following.{IsDone, meaning_of}
use Rattle.cpp_grammar.specs.Term as plain_
use Rattle.cpp_grammar.specs.Unfolding.{unfold_cpp}
use Rattle.cpp_grammar.specs.Rescoping.{unfold_wide}
use Rattle.cpp_term.specs.Term.{Term, symbol}
use Rattle.cpp_term.specs.Values.{Value, State, tree, tree_of}
use Rattle.cpp_term.specs.Erased.{erase, CarriesArguments}
use Rattle.cpp_term.specs.ReadAs.{IsReadAs}
use Rattle.cpp_tree.specs.Nodes.{tree_at}
use Rattle.cpp_link.specs.declared.part.Part.{Part}
use Rattle.cpp_link.specs.declared.linked.Linked.{Linked}
use Rattle.cpp_link.specs.Parts.{trees_in, value_of, IsThere}
use Rattle.cpp_link.specs.NodeCount.{cpp_makes, cpp_counted, counted_nodes, nodes_of_shape}
use Rattle.cpp_link.specs.View.{cpp_view}
use Rattle.cpp_link.specs.LinkRescoping.{wide_makes, wide_view, wide_counted, wide_nodes_of_shape}
use Rattle.cpp_link.specs.declared.rescoping.Rescoping.{Rescoping}
use Rattle.cpp_link.proofs.LinkReading.{meaning_same, counted_same, wide_meaning_same, wide_counted_same}
use Rattle.cpp_term.proofs.Wholes.{read_as, wide_read_as}
use Rattle.itanium.specs.Whole.{HasWhole}
use Rattle.cpp_layout.specs.Layout.{IsRead}

-- ## The one part

-- the part is this node, which denotes the tree
record IsNode (ts : List Term) (n : ℕ) (p : Part) (t : Term) : Type 0 where
  node : ℕ
  listed : Bool
  is : p ≡ Part.Tree node listed
  below : node < n
  stands : tree_at ts node ≡ t

tree_part : (s : List ℕ) (ts : List Term) (n : ℕ) (p : Part) (t : Term) (listed : Bool) → value_of s ts p ≡ tree t listed → IsThere s n p → IsNode ts n p t
unfolding value_of tree_of
tree_part s ts n (Part.Tree node own) t listed is there = record { node = node; listed = own; is = refl; below = there; stands = ap tree_of is }
tree_part s ts n Part.Nothing t listed is there = absurd cc
tree_part s ts n (Part.Letter byte) t listed is there = absurd cc
tree_part s ts n (Part.Text span) t listed is there = absurd cc
tree_part s ts n (Part.Signed number) t listed is there = absurd cc
tree_part s ts n (Part.Adjusted adjustment) t listed is there = absurd cc
tree_part s ts n (Part.Piece p) t listed is there = absurd cc
tree_part s ts n (Part.Named node q m) t listed is there = absurd cc
tree_part s ts n (Part.Signature list m) t listed is there = absurd cc
tree_part s ts n (Part.Pair letter left right) t listed is there = absurd cc

value_first : Value → List Value → Value
value_first other [] = other
value_first other (v ∷ vs) = v

has_whole : (s : List ℕ) (rows : List Row) (meaning : Result (Found (List Value) State) Refusal) (stands_for : Result plain_.Term Refusal) (linked : Linked) (parts : List Part)
    (done : IsDone (cpp_view s) s rows meaning linked parts) → IsReadAs stands_for (done.value ∷ []) → HasWhole s stands_for linked parts
unfolding value_first
has_whole s rows meaning stands_for linked parts done read =
    let value_is : done.value ≡ tree (symbol read.encoding read.suffix) true = ap (value_first done.value) read.one in
    let node = tree_part s (trees_in s linked.nodes) (length linked.nodes.nodes) done.part (symbol read.encoding read.suffix) true (done.is_part.is ∙ value_is) done.is_part.there in
    record {
      node = node.node;
      listed = node.listed;
      encoding = read.encoding;
      suffix = read.suffix;
      parts_are = done.parts_are ∙ ap (λ p. p ∷ []) node.is;
      below = node.below;
      whole = node.stands;
      carries = read.carries;
      stands = read.plain;
      table = done.holds.table;
      nodes = omega (arith, done.size, done.paid.begun);
      thunks = done.paid.thunks;
    }

-- ## The symbol

node_of : List Part → ℕ
node_of (Part.Tree node listed ∷ parts) = node
node_of parts = 0

-- the node of the one part is the node of the whole symbol
same_node : (s : List ℕ) (stands_for : Result plain_.Term Refusal) (linked : Linked) (parts : List Part) (w : HasWhole s stands_for linked parts) (node : ℕ) (listed : Bool) → parts ≡ Part.Tree node listed ∷ [] → w.node ≡ node
unfolding node_of
same_node s stands_for linked parts w node listed is = ap node_of (sym w.parts_are ∙ is)

pub whole_stands : (s : List ℕ) (stands_for : Result plain_.Term Refusal) (linked : Linked) (parts : List Part) (w : HasWhole s stands_for linked parts) (node : ℕ) (listed : Bool) → parts ≡ Part.Tree node listed ∷ []
    → Ok (erase (tree_at (trees_in s linked.nodes) node)) ≡ stands_for
whole_stands s stands_for linked parts w node listed is =
    ap (λ k. Ok (erase (tree_at (trees_in s linked.nodes) k))) (sym (same_node s stands_for linked parts w node listed is)) ∙ ap (λ t. Ok (erase t)) w.whole ∙ sym w.stands

pub reads : (s : List ℕ) (stands_for : Result plain_.Term Refusal) (linked : Linked) (parts : List Part) (w : HasWhole s stands_for linked parts) (node rows steps : ℕ) (listed : Bool) → parts ≡ Part.Tree node listed ∷ []
    → FitsSymbol s → rows ≤ 4 * length s + 4 → rows ≤ steps → steps ≤ 32 * length s + 48
    → IsRead (record { bytes = s; table = linked.nodes; root = node; rows = rows; steps = steps })
reads s stands_for linked parts w node rows steps listed is fits few each all =
    let same = same_node s stands_for linked parts w node listed is in
    let whole_is : tree_at (trees_in s linked.nodes) node ≡ symbol w.encoding w.suffix = ap (tree_at (trees_in s linked.nodes)) (sym same) ∙ w.whole in
    record {
      table = w.table;
      root = subst (λ k. k < length linked.nodes.nodes) same w.below;
      whole = (w.encoding, w.suffix, whole_is);
      carries = subst CarriesArguments (sym whole_is) w.carries;
      fits = fits;
      rows = few;
      nodes = w.nodes;
      thunks = w.thunks;
      steps = all;
      counted = each;
    }

-- ## By each reading

pub abi_whole : (g : Table) (s : List ℕ) (linked : Linked) (parts : List Part) (rows steps : ℕ) (shape : Tree) → IsLinked g (cpp_counted s) s linked parts rows steps shape
    → HasWhole s (unfold_cpp shape) linked parts
abi_whole g s linked parts rows steps shape is =
    let done = done_untallied (cpp_view s) cpp_makes s is.rows shape linked parts is.done in
    has_whole s is.rows (meaning_of (cpp_view s) shape) (unfold_cpp shape) linked parts done
    (read_as shape (found (done.value ∷ []) done.state) is.is_shape.is_tree (sym (meaning_same s shape is.is_shape.is_tree is.is_shape.spelled) ∙ done.means))

-- a symbol that the wide linker has linked is linked by the linker that it wraps
done_within : (s : List ℕ) (rows : List Row) (shape : Tree) (l : Rescoping) (parts : List Part) → IsDone (wide_counted s) s rows (meaning_of (wide_counted s) shape) l parts
    → IsDone (tallied_view (wide_view s) wide_makes) s rows (meaning_of (tallied_view (wide_view s) wide_makes) shape) l.linked parts
done_within s rows shape l parts done = record {
  part = done.part;
  value = done.value;
  state = done.state;
  parts_are = done.parts_are;
  means = done.means;
  is_part = done.is_part;
  holds = done.holds;
  size = done.size;
  paid = done.paid;
}

done_plain : (s : List ℕ) (rows : List Row) (meaning : Result (Found (List Value) State) Refusal) (l : Linked) (parts : List Part) → IsDone (wide_view s) s rows meaning l parts
    → IsDone (cpp_view s) s rows meaning l parts
done_plain s rows meaning l parts done = record {
  part = done.part;
  value = done.value;
  state = done.state;
  parts_are = done.parts_are;
  means = done.means;
  is_part = done.is_part;
  holds = done.holds;
  size = done.size;
  paid = done.paid;
}

pub wide_whole : (g : Table) (s : List ℕ) (l : Rescoping) (parts : List Part) (rows steps : ℕ) (shape : Tree) → IsLinked g (wide_counted s) s l parts rows steps shape
    → HasWhole s (unfold_wide shape) l.linked parts
wide_whole g s l parts rows steps shape is =
    let meaning = meaning_of (wide_view s) shape in
    let done = done_plain s is.rows meaning l.linked parts (done_untallied (wide_view s) wide_makes s is.rows shape l.linked parts (done_within s is.rows shape l parts is.done)) in
    has_whole s is.rows meaning (unfold_wide shape) l.linked parts done
    (wide_read_as shape (found (done.value ∷ []) done.state) is.is_shape.is_tree (sym (wide_meaning_same s shape is.is_shape.is_tree is.is_shape.spelled) ∙ done.means))

-- ## How many nodes there are

pub abi_nodes : (g : Table) (s : List ℕ) (linked : Linked) (parts : List Part) (rows steps : ℕ) (shape : Tree) → IsLinked g (cpp_counted s) s linked parts rows steps shape
    → length linked.nodes.nodes ≡ nodes_of_shape shape
abi_nodes g s linked parts rows steps shape is =
    let count = done_nodes (cpp_view s) cpp_makes s is.rows shape linked parts counted_nodes (λ read. refl) is.done
    ∙ ap counted_nodes (counted_same s shape is.is_shape.is_tree is.is_shape.spelled cpp_makes) in
    omega (arith, count, is.done.paid.begun)

pub wide_nodes : (g : Table) (s : List ℕ) (l : Rescoping) (parts : List Part) (rows steps : ℕ) (shape : Tree) → IsLinked g (wide_counted s) s l parts rows steps shape
    → length l.linked.nodes.nodes ≡ wide_nodes_of_shape shape
wide_nodes g s l parts rows steps shape is =
    let count = done_nodes (wide_view s) wide_makes s is.rows shape l.linked parts counted_nodes (λ read. refl) (done_within s is.rows shape l parts is.done)
    ∙ ap counted_nodes (wide_counted_same s shape is.is_shape.is_tree is.is_shape.spelled wide_makes) in
    omega (arith, count, is.done.paid.begun)
