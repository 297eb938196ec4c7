-- The details of a node are what it has apart from its production and its parts: the numbers and texts of its view
-- (`cpp_tree`). The view of a thunk leaves out the thunk's offsets, which a separate call gives, so the details of a thunk are
-- its offsets. Trees of one production with the same details and equal parts are equal.
use Rattle.std.specs.Prelude.{ℕ, List, [], ◌∷◌, ◌++◌, ◌==◌, if◌then◌else◌, map, Option, Some, None}
use Rattle.cpp_grammar.specs.Term.{non_virtual, by_table, Thunk, adjusting, covariant, Term}
use Rattle.cpp_tree.specs.Nodes.{bytes_at}
use Rattle.cpp_tree.specs.Fields.{Fields, bit, fields_of, offsets_of}
use Rattle.cpp_tree.specs.declared.tree_production.TheConstants.{WIDE_THUNK}
use Rattle.cpp_press.specs.declared.details.Details.{Details}

-- four numbers, and the bytes of four texts
pub record Told : Type 0 where
  pub numbers : List ℕ
  pub texts : List (List ℕ)

abbrev pub told : (a b c d : ℕ) → (e f g h : List ℕ) → Told
told a b c d e f g h = record { numbers = a ∷ b ∷ c ∷ d ∷ []; texts = e ∷ f ∷ g ∷ h ∷ [] }

-- Each of the two adjustments has two places. A place has its offset's digits, and the number 1 for a minus or 0 for none. A place without
-- an offset has the number 2.
unfoldable pub offsets_told : Option Thunk → Told
offsets_told None = told 2 2 2 2 [] [] [] []
offsets_told (Some (adjusting (non_virtual a))) = told (bit a.negative) 2 2 2 a.digits [] [] []
offsets_told (Some (adjusting (by_table a b))) = told (bit a.negative) (bit b.negative) 2 2 a.digits b.digits [] []
offsets_told (Some (covariant (non_virtual a) (non_virtual c))) = told (bit a.negative) 2 (bit c.negative) 2 a.digits [] c.digits []
offsets_told (Some (covariant (non_virtual a) (by_table c d))) =
    told (bit a.negative) 2 (bit c.negative) (bit d.negative) a.digits [] c.digits d.digits
offsets_told (Some (covariant (by_table a b) (non_virtual c))) =
    told (bit a.negative) (bit b.negative) (bit c.negative) 2 a.digits b.digits c.digits []
offsets_told (Some (covariant (by_table a b) (by_table c d))) =
    told (bit a.negative) (bit b.negative) (bit c.negative) (bit d.negative) a.digits b.digits c.digits d.digits

unfoldable pub fields_told : Fields → (offsets : Option Thunk) → Told
fields_told given offsets =
    if given.production == WIDE_THUNK
    then offsets_told offsets
    else record { numbers = given.numbers ++ 0 ∷ 0 ∷ []; texts = given.texts ++ [] ∷ [] ∷ [] }

-- the details of a tree
abbrev pub tree_told : Term → Told
tree_told t = fields_told (fields_of t) (offsets_of t)

-- the code's details, each span replaced by the symbol's bytes there
abbrev pub told_in : List ℕ → Details → Told
told_in s details = record { numbers = details.numbers; texts = map (bytes_at s) details.texts }
