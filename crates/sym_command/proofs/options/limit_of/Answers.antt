use Rattle.sym_command.proofs.Basics.{◌∙◌, codes, ParsesUnsigned, ExplainsUnsignedError, HasUnsignedDigitsIfOk, found_of, one_of, rows_of, one_text-rows}
use Rattle.sym_command.proofs.OptionLemmas.{limit_given}
use Rattle.sym_command.proofs.options.limit_of.Goals as goal

pub returns : goal.returns
returns c =
    let found = found_of c.args.matches.now in
    let same = one_text-rows found (codes "limit") in
    limit_given (λ t r. ParsesUnsigned 32 10 t r × ExplainsUnsignedError 10 t r × HasUnsignedDigitsIfOk t r) (one_of (codes "limit") (rows_of found)) c.get_one.result c.unwrap_or.result
    (λ t r given. given.0) (λ none. c.get_one.ensures.none (same ∙ none)) (λ t some. c.get_one.ensures.value t (same ∙ some)) c.unwrap_or.ensures
