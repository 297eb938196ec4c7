use Rattle.demangle_command.proofs.CommandLemmas.{no-request}
use Rattle.demangle_command.proofs.command.is_request.Goals as goal

pub returns-in_default : goal.returns-in_default
returns-in_default c = no-request c.args.kind c.in_default.not-DisplayHelp c.in_default.not-DisplayVersion
