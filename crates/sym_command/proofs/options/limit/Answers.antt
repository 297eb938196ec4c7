use Rattle.sym_command.proofs.Basics.{◌∙◌, ap, Option, Some, codes, Rule, rule_of, Arg, limit}
use Rattle.clap.specs.declared.builder.value_parser.ValueParser.{ValueParser}
use Rattle.sym_command.proofs.options.limit.Goals as goal

pub returns-clause-rule : goal.returns-clause-rule
returns-clause-rule c =
    let parser = c.value_parser-2.ensures.given in
    let read : Option ValueParser → Rule → Rule = λ p r. record r { parser = p } in
    let named : Rule → Rule = λ r. record r { value_names = 1; parser = limit.parser } in
    ap rule_of c.help.ensures ∙ ap rule_of c.value_parser-2.ensures.others
    ∙ ap (λ (p : Option ValueParser). read p (rule_of c.value_name.result)) (parser.1 ∙ ap (λ (p : ValueParser). Some p) (parser.2 ∙ c.value_parser.ensures))
    ∙ ap (λ (a : Arg). read limit.parser (rule_of a)) c.value_name.ensures ∙ ap (λ (a : Arg). named (rule_of a)) c.long.ensures
    ∙ ap (λ (r : Rule). record r { long = Some (codes "limit"); value_names = 1; parser = limit.parser }) c.new.ensures.rule
