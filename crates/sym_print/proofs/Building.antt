-- Parts that are built as data, and the code's list of them that grows part by part.
use Rattle.sym_print.proofs.Basics.{◌≡◌, ℕ, ◌<◌, List, [], ◌∷◌, length, refl, arith, Unshared, bytes, ◌then◌}

-- a text that isn't empty is a part
pub then-bytes : (b : List ℕ) (rest : Unshared) → 0 < length b → b then rest ≡ bytes b rest
then-bytes [] rest h = absurd (omega arith)
then-bytes (_ ∷ _) rest h = refl
