use Rattle.demangle_command.proofs.Basics.{rules, map-append}
use Rattle.demangle_command.proofs.arguments.push_words.Goals as goal

pub returns : goal.returns
returns c = search (rules, map-append)
