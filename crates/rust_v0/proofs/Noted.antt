-- What is noted of places stays, and each ending is noted.
use Rattle.rust_v0.proofs.Basics.{◌≡◌, ◌≢◌, sym, ◌∙◌, ℕ, ◌<◌, inl, inr, List, ◌∷◌, ◌++◌, length, replicate, false, Option, Some, slice_set, ◌==◌, get_or-set_same, get_or-set_other, eqb-true, eq-eqb, cases_Bool, false≢true, Tree, Grows, Table, trees, tree-stays, Target, Value, Ended, ground, HasLists, IsNoted, AreNoted}
use Rattle.rust_v0.proofs.Places.{same_there}

module _ (s : List ℕ) (old new : Table) (grows : Grows old new) where
  pub stays_noted : (ending : Target) (found : Option Value) → IsNoted (trees s old.nodes) ending found → IsNoted (trees s new.nodes) ending found
  stays_noted Target.Nothing found is = is
  stays_noted (Target.Path node) found (path, is, same) = (path, tree-stays s old new node _ grows is, same)
  stays_noted (Target.Type node) found (type, is, plain, same) = (type, tree-stays s old new node _ grows is, plain, same)
  stays_noted (Target.Constant node) found (constant, is, same) = (constant, tree-stays s old new node _ grows is, same)

  pub lists_stay : HasLists (ground s old) → HasLists (ground s new)
  lists_stay lists = record {
    arguments = tree-stays s old new 0 _ grows lists.arguments;
    bounds = tree-stays s old new 1 _ grows lists.bounds;
    bindings = tree-stays s old new 2 _ grows lists.bindings;
  }

-- more places at the end change nothing for the earlier places
pub noted_further : (all : List Tree) (endings more : List Target) (k : ℕ) (ended : List Ended) → more ≡ endings ++ replicate k Target.Nothing
    → AreNoted all endings ended → AreNoted all more ended
noted_further all endings more k ended same noted place = rw (same, same_there endings k place Target.Nothing) (noted place)

-- an ending is noted at its place
pub noted_added : (all : List Tree) (endings : List Target) (ended : List Ended) (place : ℕ) (ending : Target) (v : Value) → place < length endings
    → AreNoted all endings ended → IsNoted all ending (Some v) → AreNoted all (slice_set endings place ending) (record { place = place; value = v } ∷ ended)
noted_added all endings ended place ending v there noted is at = elim (cases_Bool (place == at)) [
  | inl here ↦ (
      let same : place ≡ at = eqb-true place at here in
      rw (here, ← same, get_or-set_same endings place ending Target.Nothing there) is)
  | inr other ↦ rw (other, get_or-set_other endings place at ending Target.Nothing (not_here other)) (noted at)
]
  where
    not_here : (place == at) ≡ false → at ≢ place
    not_here other same = false≢true (sym other ∙ eq-eqb place at (sym same))
