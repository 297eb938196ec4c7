use Rattle.sym_command.proofs.Basics.{◌∙◌, ap, codes, IfOk-weaker, App, with_rule, flag}
use Rattle.sym_command.proofs.options.with_details.Goals as goal

pub returns : goal.returns
returns c =
    let named = c.in_ok-named.ensures ∙ ap (λ (a : App). with_rule a (flag (codes "no-params"))) c.in_ok-brief.ensures in
    IfOk-weaker c.with_flag-3.result _ _ (λ command is. is ∙ ap (λ (a : App). with_rule a (flag (codes "ascii-words"))) named) c.with_flag-3.ensures
