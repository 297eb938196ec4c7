use Rattle.std.proofs.lemmas.Result.{err_from_is_err_and}
use Rattle.cpp_link.proofs.language.LinkedLinking.token.Goals as goal

pub returns-clause-pays : goal.returns-clause-pays
returns-clause-pays c at le first = c.in_ok-token_by.ensures.pays at le

pub returns-in_err-token_by-clause-takes : goal.returns-in_err-token_by-clause-takes
returns-in_err-token_by-clause-takes c around known from left state t rest is left_is row_is after =
    let p = err_from_is_err_and c.from_residual.result c.from_residual.ensures.1 in
    rw (p.1, p.2) (c.in_err-token_by.ensures.takes around known from left state t rest is left_is row_is after)

pub returns-in_err-token_by-clause-full : goal.returns-in_err-token_by-clause-full
returns-in_err-token_by-clause-full c =
    let p = err_from_is_err_and c.from_residual.result c.from_residual.ensures.1 in
    rw (p.1, p.2) c.in_err-token_by.ensures.full
