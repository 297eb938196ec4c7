use Rattle.cpp_direct.proofs.ForAnswers.{ap, arith, ◌∙◌, counted_value, IsNumberToken, place-found, number-found, NumberKind}
use Rattle.cpp_direct.proofs.tokens.long_seq_at.Goals as goal

pub returns : goal.returns
returns c =
    let n = number-found NumberKind.Seq36 c.args.s.now c.args.at c.in_ok-place.place (place-found (IsNumberToken NumberKind.Seq36) c.args.s.now c.args.at c.find_number.result
    c.ok.result c.in_ok-place.place c.find_number.ensures c.ok.ensures.value c.in_ok-place.was) (omega (arith, c.if-at-s.false)) in
    (n.0, n.1, c.in_ok-index.ensures ∙ ap (λ l. counted_value NumberKind.Seq36 l) n.4)

pub find_number-requires-clause-fits : goal.find_number-requires-clause-fits
find_number-requires-clause-fits c = c.requires.fits.fits
