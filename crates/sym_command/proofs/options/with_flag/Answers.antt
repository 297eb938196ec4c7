use Rattle.sym_command.proofs.Basics.{◌∙◌, ap, refl, IfOk-weaker, Rule, app_of, rule_of, Arg, flag}
use Rattle.sym_command.proofs.OptionLemmas.{with_argument}
use Rattle.sym_command.proofs.options.with_flag.Goals as goal

pub returns : goal.returns
returns c =
    let rule : Arg → Rule = λ a. rule_of a in
    IfOk-weaker c.arg.result _ _ (λ command adds. with_argument c.args.command command c.help.result (app_of c.args.command) (flag c.args.name.now)
    adds (ap (λ (a : Arg). a.global) c.help.ensures ∙ c.flag.ensures.local) refl (ap rule c.help.ensures ∙ c.flag.ensures.rule)) c.arg.ensures
