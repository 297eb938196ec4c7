-- Whatever the path's names are: the bytes written and the text of the remaining names are together the whole text; likewise for
-- what was spent and what is left to spend.
use Rattle.rust_legacy.proofs.Basics.{◌≡◌, ◌≤◌, ◌-◌, ◌+◌, ◌++◌, ℕ, List, [], text_of, AreNames, front_at, names_parts, Keeps}
use Rattle.rust_legacy.proofs.Paths.{names_cost}
use Rattle.rust_legacy.proofs.text.write_names.Given as goal

abbrev pub invariant-loop-at : goal.invariant-loop-at
invariant-loop-at l =
    record {
      low : 3 ≤ l.at;
      high : l.at ≤ l.hash;
      goes : (names : List (List ℕ)) → AreNames l.symbol 3 l.hash names → (rest : List (List ℕ)) × AreNames l.symbol l.at l.hash rest
          × (l.out.items ++ text_of (names_parts (front_at l.at) rest) ≡ l.fn.out.items ++ text_of (names_parts [] names))
          × (l.left + names_cost [] names ≡ l.limit + names_cost (front_at l.at) rest);
      keeps : Keeps l.fn.out l.out;
    }

abbrev pub decreases-loop-at : goal.decreases-loop-at
decreases-loop-at l = l.hash - l.at
