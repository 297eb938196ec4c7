use Rattle.sym_command.proofs.Basics.{◌≡◌, ◌∙◌, ap, codes, true, IfOk-weaker, App, app_of, new_app, with_rule, Command, command_line, flag, limit, symbols, with_short}
use Rattle.clap.specs.Simple.{app_of_fields, on_top}
use Rattle.clap.specs.declared.builder.command.Command.TheOpen.{Command-F}
use Rattle.sym_command.proofs.OptionLemmas.{with_argument}
use Rattle.sym_command.proofs.options.command_line.Goals as goal

-- a command without arguments
abbrev bare : App
bare = on_top (λ s. record s { has_version = true }) (new_app (codes "symfilt"))

abbrev with_answers : App → App
with_answers app = with_rule (with_rule (with_rule app limit) (flag (codes "stats"))) (flag (codes "press"))

abbrev with_grammars : App → App
with_grammars app = with_rule (with_rule app (flag (codes "wide"))) (flag (codes "legacy"))

abbrev with_details : App → App
with_details app = with_rule (with_rule (with_rule app (flag (codes "brief"))) (flag (codes "no-params"))) (flag (codes "ascii-words"))

abbrev app-1 : App
app-1 = with_answers bare

abbrev app-2 : App
app-2 = with_grammars app-1

abbrev app-3 : App
app-3 = with_short app-2

abbrev app-4 : App
app-4 = with_details app-3

pub returns : goal.returns
unfolding command_line
returns c =
    let fields : Command-F Command → App = λ f. app_of_fields f in
    let described : app_of c.after_help-command.result ≡ app_of c.version.result = ap fields c.after_help-command.ensures ∙ ap fields c.about.ensures in
    let begun : app_of c.after_help-command.result ≡ bare = described ∙ ap fields c.version.ensures ∙ ap (λ (a : App). on_top (λ s. record s { has_version = true }) a) c.new.ensures.app in
    let with-1 : app_of c.in_ok-command.command ≡ app-1 = c.in_ok-command.ensures ∙ ap with_answers begun in
    let with-2 : app_of c.in_ok-command-2.command ≡ app-2 = c.in_ok-command-2.ensures ∙ ap with_grammars with-1 in
    let with-3 : app_of c.in_ok-command-3.command ≡ app-3 = c.in_ok-command-3.ensures ∙ ap with_short with-2 in
    let with-4 : app_of c.in_ok-command-4.command ≡ app-4 = c.in_ok-command-4.ensures ∙ ap with_details with-3 in
    IfOk-weaker c.arg.result _ _ (λ command adds. with_argument c.in_ok-command-4.command command c.symbols.result app-4 symbols adds c.symbols.ensures.local with-4 c.symbols.ensures.rule) c.arg.ensures
