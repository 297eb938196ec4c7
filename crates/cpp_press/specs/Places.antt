-- The components so far, as the writer knows them.
use Rattle.std.specs.Prelude.{◌≡◌, ℕ, ◌<◌, List, [], ◌∷◌, ◌++◌, length, Bool, cond, ◌&&◌, nat_eq, nat_lt, Option, Some, None, get_or}
use Rattle.std.specs.BTreeMap.{get}
use Rattle.std.specs.Ordering.{nat_cmp, ordering_then}
use Rattle.std.specs.declared.cmp.Ordering.{Ordering}
use Rattle.sym_spell.specs.Numbers.{AreNumbered, AreTold}
use Rattle.sym_spell.specs.Pressing.{Pressed}
use Rattle.cpp_grammar.specs.Term.{Term}
use Rattle.cpp_grammar.specs.Scope.{is_open}
use Rattle.cpp_layout.specs.Layout.{ReadSymbol}
use Rattle.cpp_press_laws.specs.Components.{Component, first_equal}
use Rattle.cpp_press_laws.specs.Pressing.{ways_of}
use Rattle.cpp_press.specs.declared.components.Components.{Components}
use Rattle.cpp_press.specs.declared.components.Likeness.{Likeness}
use Rattle.cpp_spelling.specs.declared.task.Task.{Task}
use Rattle.cpp_spelling.specs.Tasks.{plain_at, press_tasks, AreTasks}

abbrev pub like : Likeness → Likeness → Bool
like a b = nat_eq a.number b.number && nat_eq a.encoding b.encoding

-- the order of likenesses in a map
abbrev pub likeness_cmp : Likeness → Likeness → Ordering
likeness_cmp a b = ordering_then (nat_cmp a.number b.number) (nat_cmp a.encoding b.encoding)

-- whether a likeness has a place in this list: it belongs to no encoding, and its number is below the list's length
abbrev pub has_place : (closed : List (Option ℕ)) → Likeness → Bool
has_place closed q = nat_eq q.encoding 0 && nat_lt q.number (length closed)

abbrev pub first_of : (closed : List (Option ℕ)) → (Likeness → Option ℕ) → Likeness → Option ℕ
first_of closed more q = cond (has_place closed q) (get_or closed q.number None) (more q)

abbrev pub known_in : Components → Likeness → Option ℕ
known_in components = first_of components.closed.items (get likeness_cmp components.first)

-- the first components, after one more component
abbrev pub noted : (Likeness → Option ℕ) → (one : Likeness) → (count : ℕ) → Likeness → Option ℕ
noted first one count q = elim (first one) [ Some number ↦ first q | None ↦ cond (like one q) (Some count) (first q) ]

-- the likeness of a node's tree as a component of an encoding
abbrev pub likeness_of : ReadSymbol → (numbers : List ℕ) → (node encoding : ℕ) → Likeness
likeness_of y numbers node encoding = record { number = get_or numbers node 0; encoding = cond (is_open (plain_at y node)) encoding 0 }

-- For the likeness of each node, `first` has the number that the definition says: that of the first equal component.
abbrev pub ArePlaces : ReadSymbol → (numbers : List ℕ) → (Likeness → Option ℕ) → List Component → Type 0
ArePlaces y numbers first cs =
    (node encoding : ℕ) → node < length y.table.nodes → first (likeness_of y numbers node encoding) ≡ first_equal encoding (plain_at y node) 0 cs

-- Nodes with equal trees have one number, and nodes with different trees have different numbers. A tree that no earlier
-- node has gets the next number.
abbrev pub AreNumbers : ReadSymbol → List ℕ → Type 0
AreNumbers y numbers = AreNumbered (plain_at y) (length y.table.nodes) numbers

-- Nodes with equal trees have one first node, and nodes with different trees have different first nodes.
abbrev pub AreFirst : ReadSymbol → List ℕ → Type 0
AreFirst y firsts = AreTold (plain_at y) (length y.table.nodes) firsts

-- Each component is the tree of a node.
abbrev pub AreOfNodes : ReadSymbol → List Component → Type 0
AreOfNodes y [] = Unit {0}
AreOfNodes y (c ∷ cs) = ((node : ℕ) × (node < length y.table.nodes) × (plain_at y node ≡ c.tree)) × AreOfNodes y cs

-- the bytes that are written, followed by a spelling
abbrev pub behind : List ℕ → Pressed Component → Pressed Component
behind out one = record { bytes = out ++ one.bytes; components = one.components }

-- The bytes that are written, and those that the tasks will write, are together the spelling of a symbol's tree. The components so far
-- are trees of nodes.
pub record Goes (y : ReadSymbol) (numbers : List ℕ) (whole : Term) (first : Likeness → Option ℕ) (count : ℕ) (tasks : List Task) (out : List ℕ) : Type 0 where
  pub components : List Component
  pub places : ArePlaces y numbers first components
  pub counted : count ≡ length components
  pub own : AreOfNodes y components
  pub tasks_are : AreTasks y tasks
  pub spelled : behind out (press_tasks y tasks (length out) components) ≡ (ways_of 0 whole).as_encoding 0 []
