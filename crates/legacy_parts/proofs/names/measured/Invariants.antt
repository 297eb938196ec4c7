-- For all names that end at the hash: `rest` are those from the place on, and `current`, measured last, is the one before them.
use Rattle.legacy_parts.proofs.Basics.{◌≡◌, ◌≤◌, ◌-◌, ◌+◌, ℕ, List, ◌∷◌, length, AreNames, place_of, last_of, shown}
use Rattle.legacy_parts.proofs.names.measured.Given as goal

abbrev pub invariant-names : goal.invariant-names
invariant-names l =
    record {
      high : l.at ≤ l.hash;
      goes : (names : List (List ℕ)) → AreNames l.symbol 3 l.hash names → (current : List ℕ) × (rest : List (List ℕ)) × AreNames l.symbol l.at l.hash rest
          × (l.last ≡ length (shown current)) × (l.place + place_of (current ∷ rest) ≡ place_of names) × (last_of (current ∷ rest) ≡ last_of names);
    }

abbrev pub decreases-names : goal.decreases-names
decreases-names l = l.hash - l.at
