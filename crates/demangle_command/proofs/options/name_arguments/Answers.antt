use Rattle.demangle_command.proofs.Basics.{◌∙◌, ap, Option, Some, Rule, rule_of, Arg, ValueRange, given}
use Rattle.clap.specs.Lexer.{usize_max}
use Rattle.clap.specs.declared.builder.action.ArgAction.TheVariants.{Append}
use Rattle.demangle_command.proofs.options.name_arguments.Goals as goal

pub returns-clause-rule : goal.returns-clause-rule
returns-clause-rule c =
    let any : ValueRange = record { start_inclusive = 0; end_inclusive = usize_max } in
    let appended : Rule → Rule = λ r. record r { action = Some Append } in
    ap rule_of c.help.ensures ∙ ap rule_of c.action.ensures
    ∙ ap (λ (a : Arg). appended (rule_of a)) c.num_args.ensures.0
    ∙ ap (λ (range : Option ValueRange). record (rule_of c.new.result) { action = Some Append; range = range }) (given c.num_args.result.num_vals any c.num_args.ensures.1)
    ∙ ap (λ (r : Rule). record r { action = Some Append; range = Some any }) c.new.ensures.rule
