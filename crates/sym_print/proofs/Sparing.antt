-- How much more the texts of a stack cost than their steps.
use Rattle.sym_print.proofs.Basics.{◌≡◌, ℕ, ◌+◌, ◌-◌, List, [], ◌∷◌, ◌++◌, length, refl, arith, Part, Sub, IsText, spare_of_part, spare_of_stack}

module _ {C : Type 0} (bytes_of : Part C → List ℕ) where
  pub spare_of_stack-append : (below above : List (Part C)) → spare_of_stack bytes_of (below ++ above) ≡ spare_of_stack bytes_of above + spare_of_stack bytes_of below
  spare_of_stack-append [] above = omega arith
  spare_of_stack-append (part ∷ below) above = omega (arith, spare_of_stack-append below above)

  pub spare_of_text : (next : Part C) → IsText next → spare_of_part bytes_of next ≡ length (bytes_of next) - 1
  spare_of_text (Sub i) h = elim h [ ]
  spare_of_text _ h = refl
