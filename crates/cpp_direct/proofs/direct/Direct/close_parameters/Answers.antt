use Rattle.cpp_direct.proofs.ForAnswers.{sym, ◌∙◌, function-ended, no-void}
use Rattle.cpp_direct.proofs.direct.Direct.close_parameters.Goals as goal

pub close-requires-clause-ended : goal.close-requires-clause-ended
close-requires-clause-ended g c =
    let p = c.requires.ended.2 in
    function-ended _ c.args.self.now c.args.mark c.args.start c.args._argument c.requires.ended
    (no-void c.as_slice.result.now p.front p.texts (c.as_slice.ensures ∙ p.written) (sym c.ends_with.ensures.value ∙ c.if-ends_with.false))
