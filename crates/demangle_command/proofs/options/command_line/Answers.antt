use Rattle.demangle_command.proofs.Basics.{◌≡◌, ◌∙◌, ap, codes, true, IfOk-weaker, App, app_of, new_app, with_rule, with_argument, command_line, with_reports, with_texts, version_option, taken_options, name_arguments}
use Rattle.clap.specs.Simple.{app_of_fields, on_top}
use Rattle.clap.specs.declared.builder.command.Command.TheOpen.{Command-F}
use Rattle.clap.specs.declared.builder.command.Command.{Command}
use Rattle.demangle_command.proofs.options.command_line.Goals as goal

-- a command without arguments
abbrev bare : App
bare = on_top (λ s. record s { has_version = true; disable_version_flag = true; args_override_self = true }) (new_app (codes "demangle"))

abbrev app-1 : App
app-1 = with_texts bare

abbrev app-2 : App
app-2 = with_reports app-1

abbrev app-3 : App
app-3 = with_rule app-2 version_option

abbrev app-4 : App
app-4 = with_rule app-3 taken_options

pub returns : goal.returns
unfolding command_line
returns c =
    let fields : Command-F Command → App = λ f. app_of_fields f in
    let described : app_of c.after_help-command.result ≡ app_of c.args_override_self.result = ap fields c.after_help-command.ensures ∙ ap fields c.about.ensures in
    let begun : app_of c.after_help-command.result ≡ bare = described ∙ ap fields c.args_override_self.ensures
    ∙ ap (λ (a : App). on_top (λ s. record s { args_override_self = true }) a) (ap fields c.disable_version_flag.ensures)
    ∙ ap (λ (a : App). on_top (λ s. record s { disable_version_flag = true; args_override_self = true }) a) (ap fields c.version.ensures)
    ∙ ap (λ (a : App). on_top (λ s. record s { has_version = true; disable_version_flag = true; args_override_self = true }) a) c.new.ensures.app in
    let with-1 : app_of c.in_ok-command.command ≡ app-1 = c.in_ok-command.ensures ∙ ap with_texts begun in
    let with-2 : app_of c.in_ok-command-2.command ≡ app-2 = c.in_ok-command-2.ensures ∙ ap with_reports with-1 in
    let with-3 : app_of c.in_ok-command-3.command ≡ app-3 = c.in_ok-command-3.ensures ∙ ap (λ (a : App). with_rule a version_option) with-2 in
    let with-4 : app_of c.in_ok-command-4.command ≡ app-4 = c.in_ok-command-4.ensures ∙ ap (λ (a : App). with_rule a taken_options) with-3 in
    IfOk-weaker c.arg.result _ _ (λ command adds. with_argument c.in_ok-command-4.command command c.name_arguments.result app-4 name_arguments adds c.name_arguments.ensures.local with-4 c.name_arguments.ensures.rule) c.arg.ensures
