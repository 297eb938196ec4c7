use Rattle.demangle_command.proofs.Basics.{◌∙◌, codes, ap, sym, option_map, found_of, first_of, rows_of, first_value-rows}
use Rattle.demangle_command.proofs.OptionLemmas.{spelled-none, spelled-some}
use Rattle.demangle_command.proofs.options.asked_spelling.Goals as goal

pub returns-in-None : goal.returns-in-None
returns-in-None c =
    let found = found_of c.args.matches.now in
    spelled-none (first_of (codes "spelling") (rows_of found)) (sym (ap (option_map (λ s. s.now)) c.in-None.is) ∙ c.get_str.ensures ∙ first_value-rows found (codes "spelling"))

pub returns-in-Some : goal.returns-in-Some
returns-in-Some c =
    let found = found_of c.args.matches.now in
    spelled-some (first_of (codes "spelling") (rows_of found)) c.in-Some.name.now c.spelling_of.result
    (sym (ap (option_map (λ s. s.now)) c.in-Some.is) ∙ c.get_str.ensures ∙ first_value-rows found (codes "spelling")) c.spelling_of.ensures
