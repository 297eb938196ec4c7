use Rattle.demangle_command.proofs.Basics.{refl, IfOk-weaker, app_of, with_argument, version_option}
use Rattle.demangle_command.proofs.options.with_version.Goals as goal

pub returns : goal.returns
returns c =
    IfOk-weaker c.arg.result _ _ (λ command adds. with_argument c.args.command command c.in_ok-version.version (app_of c.args.command) version_option adds c.in_ok-version.ensures.local refl c.in_ok-version.ensures.rule) c.arg.ensures
