use Rattle.std.proofs.Common.{◌≡◌, ℕ, ◌-◌, ◌+◌, ◌++◌, length, replicate}
use Rattle.rust_references.specs.declared.targets.Target.TheVariants as targets
use Rattle.rust_v0.proofs.nodes.reach.Given as goal

abbrev pub invariant-loop-targets : goal.invariant-loop-targets
invariant-loop-targets l = (k : ℕ) × (l.targets.items ≡ l.initial.targets.items ++ replicate k targets.Nothing)

abbrev pub decreases-loop-targets : goal.decreases-loop-targets
decreases-loop-targets l = l.place + 1 - length l.targets.items
