use Rattle.sym_command.proofs.Basics.{◌∙◌, found_of, one_text-rows}
use Rattle.sym_command.proofs.options.has_flag.Goals as goal

pub returns : goal.returns
returns c =
    let same = one_text-rows (found_of c.args.matches.now) c.args.name.now in
    (λ none. c.get_flag.ensures.none (same ∙ none), λ yes. c.get_flag.ensures.value (same ∙ yes), λ other. c.get_flag.ensures.other (same ∙ other))
