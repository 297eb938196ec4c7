use Rattle.cpp_press.proofs.Basics.{◌≡◌, ℕ, List, length, ◌++◌, AreFirsts, Term, IsFound, found_in, ComeNext, IsKey}
use Rattle.cpp_press.proofs.numbering.firsts_after.Given as goal

abbrev pub invariant-loop-node : goal.invariant-loop-node
invariant-loop-node l =
    ((at : ℕ → Term) (firsts : List ℕ) → ComeNext l.symbol at firsts l.before (found_in l.fn.keys) → AreFirsts at (IsKey at) (firsts ++ l.own.items) (found_in l.keys))
    × (length l.own.items ≡ l.node) × IsFound l.keys
