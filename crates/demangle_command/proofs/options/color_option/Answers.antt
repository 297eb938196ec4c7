use Rattle.demangle_command.proofs.Basics.{◌≡◌, ◌∙◌, ◌∷◌, [], ap, codes, List, Option, Some, Rule, Text, rule_of, Arg, ValueRange, given}
use Rattle.demangle_command.proofs.options.color_option.Goals as goal

pub returns-clause-rule : goal.returns-clause-rule
returns-clause-rule c =
    let few : ValueRange = record { start_inclusive = 0; end_inclusive = 1 } in
    let without : Rule → Rule = λ r. record r { missing = codes "auto" ∷ [] } in
    let ranged : Option ValueRange → Rule → Rule = λ range r. record r { range = range; missing = codes "auto" ∷ [] } in
    let named : Rule → Rule = λ r. record r { range = Some few; value_names = 1; missing = codes "auto" ∷ [] } in
    ap rule_of c.help.ensures ∙ ap rule_of c.default_missing_value.ensures
    ∙ ap (λ (a : Arg). without (rule_of a)) c.num_args.ensures.0
    ∙ ap (λ (range : Option ValueRange). ranged range (rule_of c.value_name.result)) (given c.num_args.result.num_vals few c.num_args.ensures.1)
    ∙ ap (λ (a : Arg). ranged (Some few) (rule_of a)) c.value_name.ensures ∙ ap (λ (a : Arg). named (rule_of a)) c.long.ensures
    ∙ ap (λ (r : Rule). record r { long = Some (codes "color"); range = Some few; value_names = 1; missing = codes "auto" ∷ [] }) c.new.ensures.rule
