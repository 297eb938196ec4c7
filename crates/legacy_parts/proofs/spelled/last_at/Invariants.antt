-- For all names that end at the hash: the remaining ones begin at the place; the last of all names is the last remaining one or,
-- if none remains, the one found earlier.
use Rattle.legacy_parts.proofs.Basics.{◌≡◌, ◌≤◌, ◌-◌, ℕ, List, AreNames, last_at}
use Rattle.legacy_parts.proofs.Places.{last_after}
use Rattle.legacy_parts.proofs.spelled.last_at.Given as goal

abbrev pub invariant-names : goal.invariant-names
invariant-names l =
    record {
      high : l.at ≤ l.hash;
      last : l.last ≤ l.hash;
      goes : (names : List (List ℕ)) → AreNames l.symbol 3 l.hash names → (rest : List (List ℕ)) × AreNames l.symbol l.at l.hash rest
          × (last_after l.symbol l.last l.at rest ≡ last_at l.symbol 3 names);
    }

abbrev pub decreases-names : goal.decreases-names
decreases-names l = l.hash - l.at
