use Rattle.std.proofs.lemmas.Bool.{eqb-false, OnFalse_from}
use Rattle.rust_v0.proofs.Binding.{binds_nothing}
use Rattle.rust_v0.proofs.language.may_bind.Goals as goal

pub returns-else-rule-eq-FUNCTION : goal.returns-else-rule-eq-FUNCTION
returns-else-rule-eq-FUNCTION c =
    OnFalse_from _ _ (λ no. binds_nothing c.args.rule c.if-rule-eq-FUNCTION.false (eqb-false _ _ no))
