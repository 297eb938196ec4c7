use Rattle.std.proofs.lemmas.Result.{err_from_is_err_and}
use Rattle.symbol_parts.proofs.Parsing.{path-found, path-refused}
use Rattle.symbol_parts.proofs.legacy.parse_path.Goals as goal

pub returns-in_err-name-clause-err : goal.returns-in_err-name-clause-err
returns-in_err-name-clause-err c = λ path is.
    let p = err_from_is_err_and c.from_residual.result c.from_residual.ensures.1 in
    rw (p.1, p.2) (path-refused c.args.limit c.args.symbol.now path c.in_err-name.field-0.0 (c.in_err-name.ensures.err path is))

pub returns-clause-ok : goal.returns-clause-ok
returns-clause-ok c = λ path is. path-found c.args.limit c.args.symbol.now path c.in_ok-name.name (c.in_ok-name.ensures.ok path is)
