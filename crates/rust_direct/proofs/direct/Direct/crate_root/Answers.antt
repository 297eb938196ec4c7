use Rattle.rust_direct.proofs.Basics.{subst, HasDisambiguator}
use Rattle.rust_direct.proofs.direct.Direct.crate_root.Goals as goal

pub crate_named-requires-clause-counted : goal.crate_named-requires-clause-counted
crate_named-requires-clause-counted g c = subst (λ k. HasDisambiguator c.args.s.now k c.in_ok-behind.behind) c.in_ok-checked_add.ensures.1 c.in_ok-behind.ensures

pub crate_named_anyhow-requires-clause-counted : goal.crate_named_anyhow-requires-clause-counted
crate_named_anyhow-requires-clause-counted g c = subst (λ k. HasDisambiguator c.args.s.now k c.in_ok-behind.behind) c.in_ok-checked_add.ensures.1 c.in_ok-behind.ensures
