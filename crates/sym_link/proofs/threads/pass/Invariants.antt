-- Some parts are passed: the result of them all is still known, and the bounds persist.
use Rattle.sym_link.proofs.Basics.{◌-◌, ◌+◌, ◌≤◌, ℕ, List, drop, length, Result, Refusal, Passed, HasRoom, Adds, Pays, KeepsRoom, owed_behind, IsOpenAt, Passing}
use Rattle.sym_link.proofs.threads.pass.Given as goal

abbrev pub invariant-parts : goal.invariant-parts
invariant-parts g l =
    (l.frame.base ≤ length l.parts.items)
    × HasRoom (g.L.Threading.view l.symbol) l.symbol l.language (owed_behind (g.L.Threading.view l.symbol) l.frame l.parts.items)
    × Adds (g.L.Threading.view l.symbol) l.fn.language l.language (owed_behind (g.L.Threading.view l.symbol) l.frame l.fn.parts.items) (owed_behind (g.L.Threading.view l.symbol) l.frame l.parts.items)
    × ((at : ℕ) → Pays (g.L.Threading.view l.symbol) l.fn.language l.language at at)
    × ((lower : List g.row.L-Part.Denot) (whole : Result (Passed g.L.Threading.Value g.L.Threading.State) Refusal)
    → Passing (g.L.Threading.view l.symbol) l.symbol l.fn.language l.frame lower l.fn.parts.items l.to whole
    → Passing (g.L.Threading.view l.symbol) l.symbol l.language l.frame lower l.parts.items l.to whole)
    × IsOpenAt (g.L.Threading.view l.symbol) l.symbol l.language l.frame l.parts.items
    × ((g.L.Threading.view l.symbol).size l.language + (g.L.Threading.view l.symbol).closes l.frame.rule (drop l.frame.base l.parts.items)
    ≤ (g.L.Threading.view l.symbol).size l.fn.language + (g.L.Threading.view l.symbol).closes l.frame.rule (drop l.frame.base l.fn.parts.items))
    × KeepsRoom (g.L.Threading.view l.symbol) l.fn.language l.language l.fn.parts l.parts

abbrev pub decreases-parts : goal.decreases-parts
decreases-parts g l = l.to - (length l.parts.items - l.frame.base)
