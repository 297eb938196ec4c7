use Rattle.rust_direct.proofs.FoundTokens.{tested}
use Rattle.rust_direct.proofs.direct.Direct.nest_ended.Goals as goal

pub nest_named-requires-clause-path : goal.nest_named-requires-clause-path
nest_named-requires-clause-path g c = tested c.is_path.result _ c.is_path.ensures c.if-not-is_path.false

pub nest_named_anyhow-requires-clause-path : goal.nest_named_anyhow-requires-clause-path
nest_named_anyhow-requires-clause-path g c = tested c.is_path.result _ c.is_path.ensures c.if-not-is_path.false
