-- Which pressed spellings of trees of the wide grammar are answered.
use Rattle.std.specs.Prelude.{◌≡◌, ℕ, List, length, Bool, false, if◌then◌else◌, ◌&&◌, nat_le, Option, Some, None, Vec, Result, Ok, Err}
use Rattle.std.specs.Global.{Global}
use Rattle.sym_core.specs.declared.refusal.Refusal.{Refusal}
use Rattle.sym_shape.proofs.Deciding.{outcome}
use Rattle.cpp_grammar.specs.Table.{wide}
use Rattle.cpp_grammar.specs.TableLaws.{wide_lawful}
use Rattle.cpp_grammar.specs.Term.{Term}
use Rattle.cpp_grammar.specs.Rescoping.{unfold_wide}
use Rattle.cpp_press_laws.specs.Pressing.{pressed}
use Rattle.cpp_press_laws.specs.Same.{same_tree}

-- whether the result of a reading is this tree
abbrev pub is_tree : Term → Result Term Refusal → Bool
is_tree t (Ok read) = same_tree t read
is_tree t (Err refusal) = false

-- whether the wide grammar reads the bytes as this tree
unfoldable pub reads_as : List ℕ → Term → Bool
reads_as bytes t = outcome wide wide_lawful (λ shape. is_tree t (unfold_wide shape)) (λ at. false) false bytes

-- The pressed spelling of a tree, if it has at most that number of bytes and the wide grammar reads it as the tree; otherwise nothing.
unfoldable pub kept : (most : ℕ) → Term → Option (List ℕ)
kept most t = if nat_le (length (pressed t)) most && reads_as (pressed t) t then Some (pressed t) else None

-- the code's answer has these bytes, or is nothing
abbrev pub IsKept : Option (List ℕ) → Option (Vec ℕ Global) → Type 0
IsKept given None = given ≡ None
IsKept given (Some out) = given ≡ Some out.items
