-- How many nodes a row makes of parts with these values.
use Rattle.std.specs.Prelude.{ℕ, ◌+◌, List, ◌&&◌, cond}
use Rattle.cpp_grammar.specs.Row.{Made, only, applying, packing, Own, closure, inheriting, by_letters, enclosed, elements, substitution, Form, makes, a_pair, cell, item, a_name, in_place, own, Action, becomes, tests, holds}
use Rattle.cpp_term.specs.Values.{Value, part, tree_of}
use Rattle.cpp_term.specs.Between.{no_items}
use Rattle.cpp_term.specs.Meaning.{is_void, is_nil}
use Rattle.cpp_link.specs.NodeCount.{one_if_there, one_if_arguments, one_if_declared, inheriting_at_end, enclosed_at_end, elements_at_end, operation_at_end}

-- the nodes made for a tree: none for an existing one, nor for a tagged name, which takes the place of another
unfoldable pub nodes_made : Made → List Value → ℕ
nodes_made (only source) vs = 0
nodes_made (applying m k) vs = one_if_arguments (part vs k)
nodes_made (packing k) vs = one_if_there (part vs k)
nodes_made m vs = 1

-- the nodes that are made before a part
unfoldable pub nodes_before : Action → List Value → ℕ
nodes_before (becomes m is_in is_name is_candidate) vs = nodes_made m vs
nodes_before (tests after_t is_name) vs = 1
nodes_before holds vs = 1
nodes_before _ vs = 0

-- A lambda's parameters need no new list if they are a lone void, since the empty list is at the front of each table. A
-- substitution makes no node here.
unfoldable pub nodes_of : Own → (most : ℕ) → List Value → ℕ
nodes_of closure most vs = cond (is_void (tree_of (part vs 0)) && is_nil (no_items (part vs 1))) 0 1 + one_if_declared (part vs 0)
nodes_of substitution most vs = 0
nodes_of inheriting most vs = inheriting_at_end (part vs 1)
nodes_of by_letters most vs = operation_at_end (part vs 0)
nodes_of enclosed most vs = enclosed_at_end vs
nodes_of elements most vs = elements_at_end vs
nodes_of o most vs = most

-- the nodes that are made once the parts are read
unfoldable pub nodes_at_end : Form → List Value → ℕ
nodes_at_end (makes m listing) vs = nodes_made m vs
nodes_at_end (a_pair letter left right) vs = nodes_made left vs + nodes_made right vs
nodes_at_end (cell first rest) vs = 1
nodes_at_end (item first rest) vs = 1
nodes_at_end (a_name listing) vs = one_if_arguments (part vs 1)
nodes_at_end in_place vs = one_if_arguments (part vs 1)
nodes_at_end (own o most) vs = nodes_of o most vs
nodes_at_end _ vs = 0
