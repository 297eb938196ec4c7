-- The bounds of a `dyn`, which have no bindings.
use Rattle.std.specs.Prelude.{◌≡◌, ℕ, ◌+◌, ◌*◌, ◌≤◌, List, [], ◌∷◌, ◌++◌, length, Bool}
use Rattle.sym_direct.specs.Holes.{StandsAt}
use Rattle.sym_direct.specs.Marked.{IsUnmarked}
use Rattle.rust_tree.specs.Symbol as tree
use Rattle.rust_tree.specs.Need.{need_of_bounds}
use Rattle.rust_tree.specs.Shown.{bounds_from}
use Rattle.rust_grammar.specs.declared.production.Production.{Production}
use Rattle.rust_grammar.specs.declared.kind.TheConstants.{BOUNDS}
use Rattle.rust_grammar.specs.Value.{State, a_type, some_bounds}
use Rattle.rust_direct.specs.Holes.{Opened, Comes, Expects, Ends, within}
use Rattle.rust_direct.specs.Prints.{detail_by, IsWrittenAs, text_of_some, cost_of_some}

-- The bounds so far have this text, whatever bounds follow. A separator comes before the next bound.
pub record BoundsBegin (brief : Bool) (made : tree.Bounds → tree.Bounds) (separator bytes : List ℕ) : Type 0 where
  pub plain : IsUnmarked separator
  pub text_is : (rest : tree.Bounds) (more : List ℕ) → IsWrittenAs brief (text_of_some (bounds_from (detail_by brief) 0 separator rest)) more
      → IsWrittenAs brief (text_of_some (bounds_from (detail_by brief) 0 [] (made rest))) (bytes ++ more)
  pub cost : (rest : tree.Bounds)
      → cost_of_some (bounds_from (detail_by brief) 0 [] (made rest)) ≤ 4 * length bytes + length separator + cost_of_some (bounds_from (detail_by brief) 0 separator rest)
  pub needs_none : (rest : tree.Bounds) → need_of_bounds rest ≡ 0 → need_of_bounds (made rest) ≡ 0

-- Bounds continue after others, up to an E and the erased lifetime after it.
pub record BoundsGoOn (s : List ℕ) (outer : List Opened) (place : ℕ) (made : tree.Bounds → tree.Bounds) (at : ℕ) (st : State) : Type 0 where
  pub inner : List Opened
  pub production : Production
  pub awaits : Expects s BOUNDS inner at (within production st)
  pub closes : (bs : tree.Bounds) (at : ℕ) (st : State) → Comes s inner (some_bounds bs) at st → StandsAt s at (76 ∷ 95 ∷ [])
      → Ends s outer place (a_type (tree.dyn 0 (made bs) 0)) (at + 1 + 1) st
