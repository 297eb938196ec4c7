-- What is still to be done: bytes to advance by, stretches to begin, and items whose parts are to be listed.
use Rattle.std.specs.Prelude.{◌≡◌, ℕ, ◌+◌, ◌*◌, ◌<◌, ◌≤◌, List, [], ◌∷◌, ◌++◌, length}
use Rattle.std.specs.List.{All}
use Rattle.cpp_layout.specs.declared.context.Context.{Context}
use Rattle.cpp_layout.specs.Layout.{ReadSymbol, table_of, unshared_of, bytes_of_part, MayBeAsked}
use Rattle.cpp_tree.specs.Views.{plain_tree}
use Rattle.sym_print.specs.declared.layout.Item.{Item}
use Rattle.sym_print.specs.declared.layout.Part.{Part}
use Rattle.sym_print.specs.declared.layout.Part.TheVariants.{Sub}
use Rattle.sym_print.specs.Joined.{joined, IsText}
use Rattle.sym_print.specs.Unshared.{Unshared, done, bytes, item, cost_of, cost_of_parts, steps_of}
use Rattle.sym_parts.specs.Marked.{Marked, ◌before◌}
use Rattle.sym_parts.specs.Found.{Found}
use Rattle.sym_parts.specs.Marks.{Mark, skip, begin, marks_of, stretches_at, skipped}
use Rattle.cpp_parts.specs.Roles.{elements, name, encoding}
use Rattle.cpp_parts.specs.declared.numbering.Numbering.{Numbering}
use Rattle.cpp_parts.specs.declared.numbering.Numbering.TheVariants as numbering
use Rattle.cpp_parts.specs.declared.task.Task.{Task}
use Rattle.cpp_parts.specs.declared.task.Task.TheVariants as task
use Rattle.cpp_parts.specs.declared.split.Split.{Split}
use Rattle.cpp_parts.specs.declared.split.Split.TheVariants as split

-- what parts print
abbrev pub printed_by : ReadSymbol → List (Part Context) → Unshared
printed_by y parts = joined (unshared_of y) (bytes_of_part y) parts

-- the marks that a task leads to
unfoldable pub marks_of_task : ReadSymbol → Task → List Mark
marks_of_task y (task.Skip n) = skip n ∷ []
marks_of_task y (task.Begin role ordinal n) = begin role ordinal n ∷ []
marks_of_task y (task.Encoding specials node i) = marks_of (encoding specials (plain_tree (table_of y) node) (unshared_of y i))
marks_of_task y (task.Name tags node i) = marks_of (name tags (plain_tree (table_of y) node) (unshared_of y i))
marks_of_task y (task.Elements role numbers node i) = marks_of (elements role numbers (plain_tree (table_of y) node) (unshared_of y i))

-- the marks that tasks lead to in turn
unfoldable pub marks_of_tasks : ReadSymbol → List Task → List Mark
marks_of_tasks y [] = []
marks_of_tasks y (first ∷ rest) = marks_of_task y first ++ marks_of_tasks y rest

-- an item whose parts may be requested, and which costs at most this much
abbrev pub IsPayable : ReadSymbol → (most : ℕ) → Item Context → Type 0
IsPayable y most i = MayBeAsked y (Sub i) × (cost_of (unshared_of y i) ≤ most)

-- the number up to which elements were counted
unfoldable pub count_of : Numbering → ℕ
count_of (numbering.Items n) = n
count_of (numbering.Elements n e) = e
count_of (numbering.Alike ordinal) = 0

-- A task of the symbol. Its item costs at most this much, and its count has room for all that the item prints.
unfoldable pub IsTask : ReadSymbol → (most : ℕ) → Task → Type 0
IsTask y most (task.Encoding specials node i) = (node < length y.table.nodes) × IsPayable y most i × (specials + cost_of (unshared_of y i) ≤ most)
IsTask y most (task.Name tags node i) = (node < length y.table.nodes) × IsPayable y most i × (tags + cost_of (unshared_of y i) ≤ most)
IsTask y most (task.Elements role numbers node i) = (node < length y.table.nodes) × IsPayable y most i × (count_of numbers + cost_of (unshared_of y i) ≤ most)
IsTask y most _ = Unit {0}

-- how many steps a task takes at most
unfoldable pub weight_of_task : ReadSymbol → Task → ℕ
weight_of_task y (task.Encoding specials node i) = 4 * steps_of (unshared_of y i)
weight_of_task y (task.Name tags node i) = 4 * steps_of (unshared_of y i)
weight_of_task y (task.Elements role numbers node i) = 4 * steps_of (unshared_of y i)
weight_of_task y _ = 1

unfoldable pub weight_of_tasks : ReadSymbol → List Task → ℕ
weight_of_tasks y [] = 0
weight_of_tasks y (first ∷ rest) = weight_of_task y first + weight_of_tasks y rest

-- Tasks were added before others: they lead to these marks first, are the symbol's if the others are, and take at most `steps`.
pub record Adds (y : ReadSymbol) (most : ℕ) (others tasks : List Task) (m : Marked) (steps : ℕ) : Type 0 where
  pub marks : marks_of_tasks y tasks ≡ marks_of m ++ marks_of_tasks y others
  pub all : All (IsTask y most) others → All (IsTask y most) tasks
  pub weight : weight_of_tasks y tasks ≤ weight_of_tasks y others + steps

-- The tasks that were added before others have grown: they lead to these marks first, and take at most this many steps more.
pub record Grows (y : ReadSymbol) (most : ℕ) (old new : List Task) (m : Marked) (steps : ℕ) : Type 0 where
  pub adds : (others : List Task) (behind : Marked) (taken : ℕ) → Adds y most others old behind taken → Adds y most others new (m before behind) (taken + steps)

-- Together with the marks `these`, what was found before gives the same stretches and place as what is found now with `those`.
pub record Lists (old new : Found) (these those : List Mark) : Type 0 where
  pub stretches : old.stretches ++ stretches_at old.place these ≡ new.stretches ++ stretches_at new.place those
  pub place : old.place + skipped these ≡ new.place + skipped those

-- parts that may be requested, and cost at most this much
abbrev pub ArePayable : ReadSymbol → (most : ℕ) → List (Part Context) → Type 0
ArePayable y most parts = All (MayBeAsked y) parts × (cost_of_parts (printed_by y parts) ≤ most)

-- parts split into the first one and the others
abbrev pub IsSplit : ReadSymbol → (most : ℕ) → List (Part Context) → Split → Type 0
IsSplit y most parts split.Nothing = printed_by y parts ≡ done
IsSplit y most parts (split.Text part rest) =
    (printed_by y parts ≡ bytes (bytes_of_part y part) (printed_by y rest.now))
    × IsText part
    × MayBeAsked y part
    × (length (bytes_of_part y part) + cost_of_parts (printed_by y rest.now) ≤ most)
    × ArePayable y most rest.now
IsSplit y most parts (split.Item i rest) =
    (printed_by y parts ≡ item (unshared_of y i) (printed_by y rest.now))
    × IsPayable y most i
    × (cost_of (unshared_of y i) + cost_of_parts (printed_by y rest.now) ≤ most)
    × ArePayable y most rest.now
