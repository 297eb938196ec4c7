use Rattle.sym_calls.proofs.Basics.{length, ◌-◌, ◌≡◌, ◌≤◌, ℕ, List, [], ◌++◌, take, Holds, rest_of_text, tally_of_text, filtered_at, tally_at}
use Rattle.sym_calls.proofs.counted.filter_counted.Given as goal

abbrev pub invariant-loop-at : goal.invariant-loop-at
invariant-loop-at g l = let answers = g.D.Demangler.answer l.demangler in record {
  bytes : List ℕ;
  within : l.at ≤ length l.text;
  holds : Holds l.kept l.most bytes;
  nothing_waits : l.out.items ≡ [];
  dots : l.words.dots ≤ l.at;
  rest : (more : List ℕ) → filtered_at l.fn.letters answers (take l.at l.text ++ more) ≡ bytes ++ rest_of_text answers l.words l.escape more;
  counts : (more : List ℕ) → tally_at l.fn.letters answers (take l.at l.text ++ more) ≡ tally_of_text answers l.words l.escape more;
}

abbrev pub decreases-loop-at : goal.decreases-loop-at
decreases-loop-at g l = length l.text - l.at
