use Rattle.sym_calls.proofs.Basics.{◌≡◌, ◌≤◌, ◌-◌, List, [], ℕ, length, take, Takes, Adds}
use Rattle.sym_calls.proofs.counted.take_words.Given as goal

abbrev pub invariant-loop-at : goal.invariant-loop-at
invariant-loop-at g l = record {
  bytes : List ℕ;
  within : l.at ≤ length l.piece;
  takes : Takes (g.D.Demangler.answer l.demangler) l.fn.words l.words (take l.at l.piece) bytes;
  adds : Adds l.fn.kept l.kept bytes;
  nothing_waits : l.out.items ≡ [];
}

abbrev pub decreases-loop-at : goal.decreases-loop-at
decreases-loop-at g l = length l.piece - l.at
