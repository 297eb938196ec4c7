use Rattle.sym_command.proofs.Basics.{Bor, List, ℕ, map, app_of, command_line}
use Rattle.sym_command.proofs.OptionLemmas.{found_rows, found_faults, simple, simple_and_free}
use Rattle.sym_command.proofs.options.found_in.Goals as goal

pub returns-clause-found : goal.returns-clause-found
returns-clause-found c =
    found_rows (app_of c.in_ok-command.command) command_line (map (λ (word : Bor (List ℕ)). word.now) c.args.words.now) c.try_get_matches_from.result c.in_ok-command.ensures simple c.try_get_matches_from.ensures.matches

pub returns-clause-fails : goal.returns-clause-fails
returns-clause-fails c =
    found_faults (app_of c.in_ok-command.command) command_line (map (λ (word : Bor (List ℕ)). word.now) c.args.words.now) c.try_get_matches_from.result c.in_ok-command.ensures simple_and_free c.try_get_matches_from.ensures.kinds
