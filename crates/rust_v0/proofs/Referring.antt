-- A reference denotes what it names, and counts as ended at its own place.
use Rattle.rust_v0.proofs.Basics.{◌≡◌, ap, ℕ, ◌<◌, List, ◌∷◌, length, Some, arith, slice_set, length-set, trees, Target, IsNoted, RustNodes, Value, Ended, Keeps}
use Rattle.rust_v0.proofs.Noted.{noted_added}

pub referred_keeps : (s : List ℕ) (old new : RustNodes) (ended : List Ended) (place : ℕ) (ending : Target) (v : Value) → place < length old.targets.items → Keeps s old ended
    → IsNoted (trees s old.nodes.nodes) ending (Some v) → new.nodes ≡ old.nodes → new.targets.items ≡ slice_set old.targets.items place ending
    → Keeps s new (record { place = place; value = v } ∷ ended)
referred_keeps s old new ended place ending v there keeps is nodes same = record {
  places = omega (arith, keeps.places, ap (λ es. length es) same, length-set old.targets.items place ending);
  table = rw nodes keeps.table;
  lists = rw nodes keeps.lists;
  noted = λ at. rw (nodes, same) (noted_added (trees s old.nodes.nodes) old.targets.items ended place ending v there keeps.noted is at);
}
