-- What the tasks of the writer denote.
use Rattle.std.specs.Prelude.{ℕ, ◌+◌, ◌<◌, ◌≤◌, List, [], ◌∷◌, length, Bool, codes, Vec, vec_len, vec_capacity}
use Rattle.std.specs.Global.{Global}
use Rattle.sym_spell.specs.Pressing.{◌and◌, text, nothing}
use Rattle.cpp_grammar.specs.Term.{Qualifiers, RefQualifier, Term}
use Rattle.cpp_term.specs.Erased.{erase}
use Rattle.cpp_tree.specs.Nodes.{tree_at, trees, tree_of, piece_of, qualifiers_of, mark_of, IsBelow, IsPieceBelow}
use Rattle.cpp_tree.specs.declared.node.Piece.{Piece}
use Rattle.cpp_tree.specs.declared.node.Node.{Node}
use Rattle.cpp_layout.specs.Layout.{ReadSymbol, table_of}
use Rattle.cpp_press_laws.specs.Texts.{name_letters}
use Rattle.cpp_press_laws.specs.Components.{Spelling, ended}
use Rattle.cpp_press_laws.specs.Pressing.{begun, ways_of}
use Rattle.cpp_spelling.specs.declared.task.Way.{Way}
use Rattle.cpp_spelling.specs.declared.task.Task.{Task}
use Rattle.cpp_spelling.specs.Bytes.{text_bytes, IsThere}
use Rattle.cpp_spelling.specs.Weight.{weight}

-- the tree of a node, in which parameters are only their numbers
abbrev pub plain_at : ReadSymbol → ℕ → Term
plain_at y node = erase (tree_at (trees (table_of y)) node)

-- the trees of a node and of a piece, by what they are made of
abbrev pub node_tree : ReadSymbol → Node → Term
node_tree y node = erase (tree_of y.bytes y.table.thunks (trees (table_of y)) node)

abbrev pub piece_tree : ReadSymbol → Piece → Term
piece_tree y piece = erase (piece_of y.bytes (trees (table_of y)) piece)

-- the parts that a node or a piece is made of exist
abbrev pub IsMade : ReadSymbol → Node → Type 0
IsMade y node = IsBelow y.bytes (length y.table.thunks) (length y.table.nodes) node

abbrev pub IsPieceMade : ReadSymbol → Piece → Type 0
IsPieceMade y piece = IsPieceBelow y.bytes (length y.table.nodes) piece

infixr 5 ◌onto◌
-- one spelling after the other
unfoldable pub ◌onto◌ : Spelling → Spelling → Spelling
(first onto rest) = first and rest

unfoldable pub written : List ℕ → Spelling
written bytes = text bytes

-- an encoding's own name, with the letters for its function
unfoldable pub in_name : (encoding : ℕ) → Qualifiers → RefQualifier → Term → Spelling
in_name n q ref t = (ways_of n t).as_name (name_letters q ref)

-- a tree in one of its ways
unfoldable pub in_way : (encoding : ℕ) → Way → Term → Spelling
in_way n Way.Type t = (ways_of n t).as_type
in_way n Way.UnderQualifiers t = (ways_of n t).under_qualifiers
in_way n Way.Prefix t = (ways_of n t).as_prefix
in_way n Way.Between t = (ways_of n t).between_N_and_E
in_way n Way.Encoding t = (ways_of n t).as_encoding
in_way n (Way.Name q m) t = in_name n (qualifiers_of q) (mark_of m) t
in_way n Way.Argument t = (ways_of n t).as_argument
in_way n Way.Signature t = begun (λ here. (ways_of here t).as_parameters)
in_way n Way.Parameters t = (ways_of n t).as_parameters
in_way n Way.MoreParameters t = (ways_of n t).as_more_parameters
in_way n Way.Elements t = (ways_of n t).as_elements

-- the arguments of a template
unfoldable pub bracketed : (encoding : ℕ) → Term → Spelling
bracketed n arguments = written (codes "I") onto in_way n Way.Elements arguments onto written (codes "E")

-- a template name and its arguments
unfoldable pub before : (encoding : ℕ) → (in_type : Bool) → (name arguments : Term) → Spelling
before n in_type name arguments = (ways_of n name).before in_type (bracketed n arguments)

-- the tree ends here, and is a component from here on
unfoldable pub ending : (encoding : ℕ) → Term → Spelling
ending n t = ended n t

abbrev pub press_task : ReadSymbol → Task → Spelling
press_task y (Task.Text t) = written (text_bytes y t)
press_task y (Task.Tree node way n) = in_way n way (plain_at y node)
press_task y (Task.Template name arguments in_type n) = before n in_type (plain_at y name) (plain_at y arguments)
press_task y (Task.Ended node n) = ending n (plain_at y node)

-- what tasks spell; the next task is the last one in the list
unfoldable pub press_tasks : ReadSymbol → List Task → Spelling
press_tasks y [] = nothing
press_tasks y (task ∷ tasks) = press_tasks y tasks onto press_task y task

-- the nodes of a task exist, and so do its bytes
abbrev pub IsTask : ReadSymbol → Task → Type 0
IsTask y (Task.Text t) = IsThere y t
IsTask y (Task.Tree node way n) = node < length y.table.nodes
IsTask y (Task.Template name arguments in_type n) = (name < length y.table.nodes) × (arguments < length y.table.nodes)
IsTask y (Task.Ended node n) = node < length y.table.nodes

unfoldable pub AreTasks : ReadSymbol → List Task → Type 0
AreTasks y [] = Unit {0}
AreTasks y (task ∷ tasks) = IsTask y task × AreTasks y tasks

-- how many steps a task takes at most: a tree takes more steps than its parts together
abbrev pub way_weight : Way → ℕ
way_weight (Way.Name q m) = 4
way_weight _ = 0

abbrev pub task_weight : ReadSymbol → Task → ℕ
task_weight y (Task.Text t) = 1
task_weight y (Task.Tree node way n) = way_weight way + weight (plain_at y node)
task_weight y (Task.Template name arguments in_type n) = 8 + weight (plain_at y name) + weight (plain_at y arguments)
task_weight y (Task.Ended node n) = 1

unfoldable pub tasks_weight : ReadSymbol → List Task → ℕ
tasks_weight y [] = 0
tasks_weight y (task ∷ tasks) = task_weight y task + tasks_weight y tasks

-- there is room for `many` more tasks
abbrev pub HasRoom : Vec Task Global → (many : ℕ) → Type 0
HasRoom tasks many = vec_len tasks + many ≤ vec_capacity tasks

-- at most this many places of the room are taken
abbrev pub TakesRoom : (old new : Vec Task Global) → (many : ℕ) → Type 0
TakesRoom old new many = vec_len new + vec_capacity old ≤ vec_len old + vec_capacity new + many
