-- the bytes so far may be in a name
use Rattle.sym_core.proofs.Basics.{◌≡◌, ℕ, ◌<◌, ◌≤◌, ◌-◌, length, get_or, true, is_name_byte}
use Rattle.sym_core.proofs.tokens.own_len.Given as goal

abbrev pub invariant-loop-end : goal.invariant-loop-end
invariant-loop-end l =
    record {
      high : l.end ≤ length l.bytes;
      few : l.end ≤ l.most;
      each : (k : ℕ) → k < l.end → is_name_byte l.names (get_or l.bytes k 0) ≡ true;
    }

abbrev pub decreases-loop-end : goal.decreases-loop-end
decreases-loop-end l = length l.bytes - l.end
