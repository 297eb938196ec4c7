use Rattle.demangle_command.proofs.Basics.{◌≡◌, ◌∙◌, ap, codes, refl, IfOk-weaker, App, app_of, rule_of, with_rule, Arg, flag, limit, with_short, with_argument, no_params, spelling_option, style_option, types}
use Rattle.demangle_command.proofs.options.with_texts.Goals as goal

-- the options before those for types
abbrev with_brief : App → App
with_brief app = with_rule (with_rule app no_params) (flag (codes "brief"))

abbrev with_less : App → App
with_less app = with_short (with_brief app)

pub returns : goal.returns
returns c =
    let app = app_of c.args.command in
    let with-1 = with_argument c.args.command c.in_ok-command.command c.no_params.result app no_params c.in_ok-command.ensures c.no_params.ensures.local refl c.no_params.ensures.rule in
    let with-2 : app_of c.in_ok-command-2.command ≡ with_brief app = c.in_ok-command-2.ensures ∙ ap (λ (a : App). with_rule a (flag (codes "brief"))) with-1 in
    let with-3 : app_of c.in_ok-command-3.command ≡ with_less app = c.in_ok-command-3.ensures ∙ ap with_short with-2 in
    let with-4 = with_argument c.in_ok-command-3.command c.in_ok-arg.field-0 c.types.result (with_less app) types c.in_ok-arg.ensures c.types.ensures.local with-3 c.types.ensures.rule in
    let with-5 = with_argument c.in_ok-arg.field-0 c.in_ok-arg-2.field-0 c.help.result (with_rule (with_less app) types) limit c.in_ok-arg-2.ensures (ap (λ (a : Arg). a.global) c.help.ensures ∙ c.limit.ensures.local) with-4 (ap rule_of c.help.ensures ∙ c.limit.ensures.rule) in
    let with-6 = with_argument c.in_ok-arg-2.field-0 c.in_ok-arg-3.field-0 c.spelling_option.result (with_rule (with_rule (with_less app) types) limit) spelling_option c.in_ok-arg-3.ensures c.spelling_option.ensures.local with-5 c.spelling_option.ensures.rule in
    IfOk-weaker c.arg-5.result _ _ (λ command adds. with_argument c.in_ok-arg-3.field-0 command c.style_option.result (with_rule (with_rule (with_rule (with_less app) types) limit) spelling_option) style_option adds c.style_option.ensures.local with-6 c.style_option.ensures.rule) c.arg-5.ensures
