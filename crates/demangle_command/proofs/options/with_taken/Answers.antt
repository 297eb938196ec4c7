use Rattle.demangle_command.proofs.Basics.{refl, IfOk-weaker, app_of, with_argument, taken_options}
use Rattle.demangle_command.proofs.options.with_taken.Goals as goal

pub returns : goal.returns
returns c =
    IfOk-weaker c.arg.result _ _ (λ command adds. with_argument c.args.command command c.in_ok-taken.taken (app_of c.args.command) taken_options adds c.in_ok-taken.ensures.local refl c.in_ok-taken.ensures.rule) c.arg.ensures
