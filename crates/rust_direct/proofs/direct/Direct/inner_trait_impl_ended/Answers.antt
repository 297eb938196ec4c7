use Rattle.rust_direct.proofs.FoundTokens.{tested}
use Rattle.rust_direct.proofs.InnerImpls.{inner-trait-path-read}
use Rattle.rust_direct.proofs.direct.Direct.inner_trait_impl_ended.Goals as goal

pub begin_trait_type-requires : goal.begin_trait_type-requires
begin_trait_type-requires g c =
    inner-trait-path-read g.S.Showing.IS_BRIEF c.args._s.now c.args.self.now c.args.place c.args._here c.args.forms c.requires
    (tested c.is_path.result _ c.is_path.ensures c.if-not-is_path.false)
