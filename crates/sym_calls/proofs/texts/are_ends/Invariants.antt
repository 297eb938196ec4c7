use Rattle.sym_calls.proofs.Basics.{◌≡◌, drop, are_ends}
use Rattle.sym_calls.proofs.texts.are_ends.Given as goal

abbrev pub invariant-loop-end : goal.invariant-loop-end
invariant-loop-end l = are_ends 0 l.len l.ends ≡ are_ends l.from l.len (drop l.end-index l.ends)
