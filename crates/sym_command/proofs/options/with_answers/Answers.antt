use Rattle.sym_command.proofs.Basics.{◌∙◌, ap, codes, refl, IfOk-weaker, App, app_of, with_rule, flag, limit}
use Rattle.sym_command.proofs.OptionLemmas.{with_argument}
use Rattle.sym_command.proofs.options.with_answers.Goals as goal

pub returns : goal.returns
returns c =
    let limited = with_argument c.args.command c.in_ok-limited.limited c.limit.result (app_of c.args.command) limit c.in_ok-limited.ensures c.limit.ensures.local refl c.limit.ensures.rule in
    let counted = c.in_ok-counted.ensures ∙ ap (λ (a : App). with_rule a (flag (codes "stats"))) limited in
    IfOk-weaker c.with_flag-2.result _ _ (λ command is. is ∙ ap (λ (a : App). with_rule a (flag (codes "press"))) counted) c.with_flag-2.ensures
