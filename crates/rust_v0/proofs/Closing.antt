-- The meaning of a rule replaces its parts.
use Rattle.rust_v0.proofs.Basics.{◌≡◌, ap, arith, ℕ, List, [], ◌∷◌, ◌++◌, length, Ok, Err, Result, OnOk, IfErr, Refusal, Adds, Gives, Puts, RustNodes, Part, v0_view, Meaning}
use Rattle.sym_core.specs.declared.refusal.Refusal.TheVariants as refusals
use Rattle.rust_v0.proofs.Meanings.{goes_on_same}
use Rattle.rust_v0.proofs.Taking.{fails_memory}

-- a part that denotes the meaning was put on the list, if memory allowed it
pub put_gives : (s : List ℕ) (linked : RustNodes) (lower new_parts : List Part) (part : Part) (result : Result (Unit {0}) Refusal) (read : Meaning)
    → OnOk result (new_parts ≡ lower ++ part ∷ []) → IfErr result (λ e. e ≡ refusals.Memory) → Gives (v0_view s) linked (Ok part) read
    → Puts (v0_view s) linked lower new_parts result read
put_gives s linked lower new_parts part (Ok done) read items memory gives = (part, items, gives)
put_gives s linked lower new_parts part (Err e) read items memory gives = fails_memory e read memory

-- if no node was added, then at most one was
pub same_adds : (s : List ℕ) (old new : RustNodes) (result : Result (Unit {0}) Refusal) → new.nodes ≡ old.nodes → length new.targets.items ≡ length old.targets.items
    → OnOk result (Adds (v0_view s) old new 1 0)
same_adds s old new (Ok done) nodes places = (goes_on_same old new nodes places, omega (arith, ap (λ t. length t.nodes) nodes))
same_adds s old new (Err e) nodes places = tt
