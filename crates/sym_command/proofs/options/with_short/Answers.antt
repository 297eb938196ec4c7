use Rattle.sym_command.proofs.Basics.{◌∙◌, ap, codes, IfOk-weaker, App, with_rule, flag}
use Rattle.sym_command.proofs.options.with_short.Goals as goal

pub returns : goal.returns
returns c =
    IfOk-weaker c.with_flag-2.result _ _ (λ command is. is ∙ ap (λ (a : App). with_rule a (flag (codes "keep-inline"))) c.in_ok-short.ensures) c.with_flag-2.ensures
