-- The rows of a symbol that is read.
use Rattle.sym_demangle.proofs.Basics.{◌≡◌, ℕ, List, length, Result, Ok, Err, IfOk, Refusal, Row, Table, AreRowsOf}

-- the rows of the symbol exist, and the count is their number
pub rows_there : {A : Type 0} (count : A → ℕ) (g : Table) (s : List ℕ) (rows : List Row) (result : Result A Refusal) → AreRowsOf g s rows → IfOk result (λ a. count a ≡ length rows)
    → IfOk result (λ a. (rows : List Row) × AreRowsOf g s rows × (count a ≡ length rows))
rows_there count g s rows (Ok a) are is = (rows, are, is)
rows_there count g s rows (Err e) are is = tt
