use Rattle.demangle_command.proofs.Basics.{◌∙◌, codes, ap, sym, option_map, found_of, first_of, rows_of, first_value-rows}
use Rattle.demangle_command.proofs.OptionLemmas.{colored-none, colored-some}
use Rattle.demangle_command.proofs.options.asked_coloring.Goals as goal

pub returns-in-None : goal.returns-in-None
returns-in-None c =
    let found = found_of c.args.matches.now in
    colored-none (first_of (codes "color") (rows_of found)) (sym (ap (option_map (λ s. s.now)) c.in-None.is) ∙ c.get_str.ensures ∙ first_value-rows found (codes "color"))

pub returns-in-Some : goal.returns-in-Some
returns-in-Some c =
    let found = found_of c.args.matches.now in
    colored-some (first_of (codes "color") (rows_of found)) c.in-Some.name.now c.coloring_of.result
    (sym (ap (option_map (λ s. s.now)) c.in-Some.is) ∙ c.get_str.ensures ∙ first_value-rows found (codes "color")) c.coloring_of.ensures
