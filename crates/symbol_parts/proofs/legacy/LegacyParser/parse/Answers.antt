use Rattle.std.proofs.Common.{◌≡◌, ◌⊎◌, Err, subst, sym}
use Rattle.std.proofs.lemmas.Result.{err_from_is_err_and}
use Rattle.sym_core.specs.declared.refusal.Refusal.TheVariants.{Memory}
use Rattle.rust_legacy.specs.Path.{legacy_of}
use Rattle.symbol_parts.specs.Parsed.{language_parsed_by, legacy_parsed}
use Rattle.symbol_parts.proofs.Parsing.{behind-refused, legacy-found}
use Rattle.symbol_parts.proofs.legacy.LegacyParser.parse.Goals as goal

pub returns-in_err-parsed-clause-err : goal.returns-in_err-parsed-clause-err
returns-in_err-parsed-clause-err g c =
    let p = err_from_is_err_and c.from_residual.result c.from_residual.ensures.1 in
    let languages = c.args.self.now.languages in
    let symbol = c.args.symbol.now in
    let path = c.in-Some.ensures in
    let e = c.in_err-parsed.field-0.0 in
    let other = language_parsed_by g.C.Marked.over g.C.Marked.marking languages.limit languages.detail c.args.kind.lang symbol in
    rw (p.1, p.2) (behind-refused c.args.kind.skip (legacy_parsed languages.limit symbol other) e
    (subst (λ r. (e ≡ Memory) ⊎ (r ≡ Err e)) (sym (legacy-found languages.limit symbol other (legacy_of symbol) path.0 path.1)) (c.in_err-parsed.ensures.err path.0 path.1)))
