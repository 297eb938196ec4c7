-- the digits so far, and what they denote
use Rattle.rust_legacy.proofs.Basics.{◌≡◌, ◌≤◌, ◌<◌, ◌+◌, ◌-◌, ◌^◌, false, take, drop, codes, prefix_len, is_decimal_digit, value_of, Length, begins_with}
use Rattle.rust_legacy.proofs.path.length_at.Given as goal

abbrev pub invariant-loop-to : goal.invariant-loop-to
invariant-loop-to l =
    record {
      low : l.at ≤ l.to;
      high : l.to - l.at ≤ l.most;
      digits : (l.to - l.at) + prefix_len is_decimal_digit (drop l.to l.s) ≡ prefix_len is_decimal_digit (drop l.at l.s);
      value : l.value ≡ value_of Length (take (l.to - l.at) (drop l.at l.s));
      below : l.value < 10 ^ (l.to - l.at);
      some : begins_with (codes "0") (drop l.at l.s) ≡ false → l.at < l.to → 0 < l.value;
    }

abbrev pub decreases-loop-to : goal.decreases-loop-to
decreases-loop-to l = l.most - (l.to - l.at)
