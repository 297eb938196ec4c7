use Rattle.std.proofs.Common.{ℕ, refl, subst, sym}
use Rattle.sym_filter.specs.Entries.{newlines_in}
use Rattle.demangle_names.specs.SayingLaws.{told-bytes}
use Rattle.demangle_names.specs.Saying.{Told}
use Rattle.demangle_names.proofs.sayings.WordReportReport.passes.Goals as goal

pub returns-clause-tells : goal.returns-clause-tells
returns-clause-tells g c =
    let self = c.args.self.now in
    let saying = g.S.Says.saying self.says.now in
    let said = g.E.Sink.taken self.out.now in
    let bytes = c.args.bytes.now in
    (refl, subst (λ (n : ℕ). Told saying saying self.line n self.one_stays self.one_stays said said (newlines_in bytes)) (sym c.line_after-self.ensures) (told-bytes saying self.line self.one_stays said bytes))
