-- Runs of the reader: steps one after another.
use Rattle.sym_shape.proofs.Basics.{◌≡◌, ℕ, ◌+◌, ◌≤◌, Bool, true, List, length, refl, arith, Result, Ok, Err, OnOk, Refusal, Parse, Sym, Table, AreRowsOf, AreStepsOf, IsLawful, to_do, IsParsing, IsRun, AreFew}
use Rattle.sym_shape.proofs.Steps.{at_most_steps, at_most_rows, whole_read, whole_steps}

-- the counts of a parse, with one more step and one more row
pub few_more : (listed : ℕ → List Sym) (g : Table) (ended : Bool) (bytes : List ℕ) (old : Parse) (steps rows : ℕ) → IsParsing listed g ended bytes old → steps ≤ old.steps + 1 → rows ≤ length old.rows.items + 1 → rows ≤ steps → AreFew steps rows (length bytes)
few_more listed g ended bytes old steps rows h s r each =
    let most_steps = at_most_steps g old.steps old.at (to_do listed old) (length old.rows.items) h.counted in
    let most_rows = at_most_rows g old.steps old.at (to_do listed old) (length old.rows.items) h.counted in
    record { steps_few = omega (arith, most_steps, h.within); rows_few = omega (arith, most_rows, h.within); each = each }

-- the counts after a step that is counted
pub few_stepped : (listed : ℕ → List Sym) (g : Table) (ended : Bool) (bytes : List ℕ) (old new : Parse) → IsParsing listed g ended bytes old → new.steps ≡ old.steps + 1 → length new.rows.items ≤ length old.rows.items + 1 → AreFew new.steps (length new.rows.items) (length bytes)
few_stepped listed g ended bytes old new h s r = few_more listed g ended bytes old new.steps (length new.rows.items) h (omega arith) r (omega (arith, h.counted.each))

-- a run over all bytes of a symbol reads its rows
pub run_rows : (listed : ℕ → List Sym) (g : Table) (bytes : List ℕ) (old new : Parse) (r : Result (Unit {0}) Refusal) → IsRun listed g true bytes old new r → OnOk r (AreRowsOf g bytes new.rows.items)
run_rows listed g bytes old new (Ok done) run =
    let end = run.read refl in
    whole_read g true bytes new.steps new.at (to_do listed new) new.rows.items new.rows.items run.parsing end.0 end.1 refl
run_rows listed g bytes old new (Err refusal) run = tt

-- a run over all bytes of a symbol takes the steps of its tree
pub run_steps : (listed : ℕ → List Sym) (g : Table) (lawful : IsLawful g) (bytes : List ℕ) (old new : Parse) (r : Result (Unit {0}) Refusal) → IsRun listed g true bytes old new r → OnOk r (AreStepsOf g bytes new.steps)
run_steps listed g lawful bytes old new (Ok done) run =
    let end = run.read refl in
    whole_steps g lawful true bytes new.steps new.at (to_do listed new) new.rows.items run.parsing end.0 end.1
run_steps listed g lawful bytes old new (Err refusal) run = tt
