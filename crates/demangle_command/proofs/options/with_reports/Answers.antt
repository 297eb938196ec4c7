use Rattle.demangle_command.proofs.Basics.{◌≡◌, ◌∙◌, ap, codes, refl, IfOk-weaker, App, app_of, with_rule, flag, with_argument, color_option}
use Rattle.demangle_command.proofs.options.with_reports.Goals as goal

pub returns : goal.returns
returns c =
    let app = app_of c.args.command in
    let color : app_of c.in_ok-color.color ≡ with_rule app color_option = with_argument c.args.command c.in_ok-color.color c.color_option.result app color_option c.in_ok-color.ensures c.color_option.ensures.local refl c.color_option.ensures.rule in
    let escape = c.in_ok-escape.ensures ∙ ap (λ (a : App). with_rule a (flag (codes "escape"))) color in
    let json = c.in_ok-json.ensures ∙ ap (λ (a : App). with_rule a (flag (codes "json"))) escape in
    let why = c.in_ok-why.ensures ∙ ap (λ (a : App). with_rule a (flag (codes "why"))) json in
    IfOk-weaker c.with_flag-4.result _ _ (λ command is. is ∙ ap (λ (a : App). with_rule a (flag (codes "strict"))) why) c.with_flag-4.ensures
