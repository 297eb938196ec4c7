use Rattle.std.proofs.Common.{◌≡◌, ◌∙◌, [], ◌∷◌, refl}
use Rattle.std.proofs.lemmas.Result.{on_ok_weaker}
use Rattle.sym_filter.specs.Entries.{left_word}
use Rattle.sym_filter.proofs.StreamLemmas.{IfErr-from_and}
use Rattle.demangle_names.specs.SayingLaws.{err-both, told-word, untold-none, untold-word}
use Rattle.demangle_names.proofs.sayings.WordReportReport.leaves.Goals as goal

pub returns-in_err-said-clause-stops : goal.returns-in_err-said-clause-stops
returns-in_err-said-clause-stops g c =
    let self = c.args.self.now in
    let saying = g.S.Says.saying self.says.now in
    IfErr-from_and c.from_residual.result _ _ c.from_residual.ensures.1 (λ fault is_memory. (λ is_read. cc, (refl, untold-none saying self.line (g.E.Sink.taken self.out.now) (left_word c.args.word.now ∷ []))))

pub returns-clause-tells : goal.returns-clause-tells
returns-clause-tells g c =
    let self = c.args.self.now in
    let saying = g.S.Says.saying self.says.now in
    let said = c.in_ok-said.ensures in
    on_ok_weaker c.write_said.result (λ says. (refl, told-word saying self.line self.one_stays _ _ (g.E.Sink.taken self.out.now) (g.E.Sink.taken c.write_said.new.out) c.args.word.now c.deref.result.now (c.deref.ensures.value ∙ said.bytes) said.stays refl says)) c.write_said.ensures.ok

pub returns-clause-stops : goal.returns-clause-stops
returns-clause-stops g c =
    let self = c.args.self.now in
    let saying = g.S.Says.saying self.says.now in
    let said = c.in_ok-said.ensures in
    err-both c.write_said.result _ _ _ (λ says. (refl, untold-word saying self.line (g.E.Sink.taken self.out.now) (g.E.Sink.taken c.write_said.new.out) c.args.word.now c.deref.result.now (c.deref.ensures.value ∙ said.bytes) says)) c.write_said.ensures.fault c.write_said.ensures.err
