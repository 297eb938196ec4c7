-- the digits so far, and what they denote
use Rattle.sym_core.proofs.Basics.{◌≡◌, ℕ, ◌<◌, ◌≤◌, ◌-◌, ◌^◌, take, drop, get_or, true, is_digit_of, value_of, Length}
use Rattle.sym_core.proofs.numbers.count_length.Given as goal

abbrev pub invariant-loop-to : goal.invariant-loop-to
invariant-loop-to l =
    record {
      low : l.at ≤ l.to;
      high : l.to ≤ l.stop;
      digits : (k : ℕ) → l.at ≤ k → k < l.to → is_digit_of Length (get_or l.s k 0) ≡ true;
      value : l.value ≡ value_of Length (take (l.to - l.at) (drop l.at l.s));
      below : l.value < 10 ^ (l.to - l.at);
    }

abbrev pub decreases-loop-to : goal.decreases-loop-to
decreases-loop-to l = l.stop - l.to
