-- The names up to the place are read, or the last one has fewer bytes than its length says.
use Rattle.rust_legacy.proofs.Basics.{◌≡◌, ◌≤◌, ◌<◌, ◌-◌, ◌+◌, ◌^◌, length, None, legacy_of}
use Rattle.rust_legacy.proofs.Reading.{Reads}
use Rattle.rust_legacy.proofs.path.names_of.Given as goal

abbrev pub invariant-names : goal.invariant-names
invariant-names l =
    record {
      low : 3 ≤ l.at;
      near : l.at ≤ length l.symbol + 10 ^ 9;
      reads : l.at ≤ length l.symbol → Reads l.symbol l.hash l.at;
      past : length l.symbol < l.at → legacy_of l.symbol ≡ None;
      paid : l.turns + 3 ≤ l.at;
      turns : l.turns ≤ length l.symbol;
    }

abbrev pub decreases-names : goal.decreases-names
decreases-names l = length l.symbol - l.at
