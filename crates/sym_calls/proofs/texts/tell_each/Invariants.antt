use Rattle.sym_calls.proofs.Basics.{◌≡◌, ◌≤◌, List, ℕ, length, take, drop, ◌++◌, true, Outcome, AreTold, are_ends}
use Rattle.sym_calls.proofs.texts.tell_each.Given as goal

abbrev pub invariant-each : goal.invariant-each
invariant-each g l = record {
  within : l.at ≤ length l.buffer;
  ends : are_ends l.from (length l.names) (drop l.i l.ends) ≡ true;
  told : (new : List ℕ) (answers : List Outcome) → AreTold (g.D.Demangler.answer l.demangler) l.asked l.names l.from (drop l.i l.ends) (drop l.at l.buffer) new answers
      → AreTold (g.D.Demangler.answer l.demangler) l.asked l.names 0 l.ends l.fn.buffer (take l.at l.buffer ++ new) (take l.i l.outcomes ++ answers);
}
