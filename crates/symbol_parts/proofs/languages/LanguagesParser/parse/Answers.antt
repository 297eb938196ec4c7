use Rattle.std.proofs.lemmas.Result.{err_from_is_err_and}
use Rattle.symbol_parts.specs.Parsed.{language_parsed_by}
use Rattle.symbol_parts.proofs.Parsing.{behind-refused}
use Rattle.symbol_parts.proofs.languages.LanguagesParser.parse.Goals as goal

pub returns-in_err-parsed-clause-err : goal.returns-in_err-parsed-clause-err
returns-in_err-parsed-clause-err g c =
    let p = err_from_is_err_and c.from_residual.result c.from_residual.ensures.1 in
    let languages = c.args.self.now in
    rw (p.1, p.2) (behind-refused c.args.kind.skip (language_parsed_by g.C.Marked.over g.C.Marked.marking languages.limit languages.detail c.args.kind.lang c.args.symbol.now) c.in_err-parsed.field-0.0
    c.in_err-parsed.ensures.err)
