-- What is written of a tree while its symbol is read: what the tree prints, and, between marks, template arguments that aren't
-- shown.
use Rattle.std.specs.Prelude.{ℕ, List, [], ◌∷◌, ◌++◌, Bool, true, false}
use Rattle.sym_print.specs.declared.detail.Detail.{Detail}
use Rattle.sym_print.specs.Details.{has_arguments}
use Rattle.sym_print.specs.Unshared.{Unshared}
use Rattle.sym_print.specs.Unfold.{PartOf, text, sub, printed}
use Rattle.sym_direct.specs.Marked.{opens, closes, is_mark}
pub use Rattle.sym_direct.specs.Marked.{is_unmarked, IsUnmarked}
use Rattle.cpp_grammar.specs.Term.{Term, instance}
use Rattle.cpp_grammar.specs.Items.{Form, left, low, first, Context, Item}
use Rattle.cpp_grammar.specs.Parts.{as_item, list_part, instance_parts, parts_in, not_empty}
use Rattle.cpp_grammar.specs.Ranks.{rank}

-- what is written before template arguments, and after them: brackets, or marks where the arguments aren't shown
abbrev pub opening_byte : (shown : Bool) → ℕ
opening_byte true = 60
opening_byte false = opens

abbrev pub closing_byte : (shown : Bool) → ℕ
closing_byte true = 62
closing_byte false = closes

abbrev pub opening_bracket : Detail → List ℕ
opening_bracket d = opening_byte (has_arguments d) ∷ []

abbrev pub closing_bracket : Detail → List ℕ
closing_bracket d = closing_byte (has_arguments d) ∷ []

-- a byte of a text, with 0 instead of a mark if arguments aren't shown
abbrev pub unmarked_byte : (shown : Bool) → ℕ → ℕ
unmarked_byte shown byte = elim (is_mark byte) [ true ↦ elim shown [ true ↦ byte | false ↦ 0 ] | false ↦ byte ]

abbrev pub unmarked : (shown : Bool) → List ℕ → List ℕ
unmarked shown [] = []
unmarked shown (byte ∷ bytes) = unmarked_byte shown byte ∷ unmarked shown bytes

-- parts, with 0 instead of each mark in their texts if arguments aren't shown
abbrev pub unmarked_parts : (shown : Bool) → List (PartOf Item) → List (PartOf Item)
unmarked_parts shown [] = []
unmarked_parts shown (text bytes ∷ ps) = text (unmarked shown bytes) ∷ unmarked_parts shown ps
unmarked_parts shown (sub item ∷ ps) = sub item ∷ unmarked_parts shown ps

-- what is written of an instance of a template
abbrev pub written_instance : (shown : Bool) → Context → Term → Term → List (PartOf Item)
written_instance true context template arguments = instance_parts true context template arguments
written_instance false context template arguments =
    (as_item left context template ∷ text (opens ∷ []) ∷ list_part first context arguments) ++ (text (closes ∷ []) ∷ [])

abbrev pub written_name : Detail → Context → Form → Term → List (PartOf Item)
written_name d context form (instance template arguments) = written_instance (has_arguments d) context template arguments
written_name d context form t = unmarked_parts (has_arguments d) (parts_in d context form t)

-- the parts of what is written of a tree in a form
abbrev pub written_in : Detail → Context → Form → Term → List (PartOf Item)
written_in d context left t = written_name d context left t
written_in d context low t = written_name d context low t
written_in d context form t = unmarked_parts (has_arguments d) (parts_in d context form t)

unfoldable pub written_parts : Detail → Item → List (PartOf Item)
written_parts d item = not_empty (written_in d item.context item.form item.tree)

-- what is written of an item
abbrev pub written : Detail → Item → Unshared
written d item = printed (written_parts d) rank item
