use Rattle.rust_press.proofs.Basics.{◌≡◌, length, slice_get, trees_of, AreFirsts, IsFound, found_in}
use Rattle.rust_press.proofs.KeyLemmas.{IsKey}
use Rattle.rust_press.proofs.numbering.first_nodes.Given as goal

abbrev pub invariant-loop-node : goal.invariant-loop-node
invariant-loop-node l =
    AreFirsts (slice_get (trees_of l.symbol)) (IsKey l.symbol) l.firsts.items (found_in l.keys) × (length l.firsts.items ≡ l.node) × IsFound l.keys
