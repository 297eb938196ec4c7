use Rattle.cpp_direct.proofs.ForAnswers.{◌+◌, ap, arith, ◌∙◌, refl, subst, IsNumberToken, IsSizeAt, symbol_by, array-begins, place-found, number-found, NumberKind}
use Rattle.cpp_direct.proofs.direct.Direct.begin_array.Goals as goal

pub returns : goal.returns
returns g c =
    let s = c.args.s.now in
    let place = c.in_ok-place.place in
    let h = place-found (IsNumberToken NumberKind.Decimal) s c.in_ok-at.at c.find_number.result c.ok.result place c.find_number.ensures c.ok.ensures.value
    c.in_ok-place.was in
    let n = number-found NumberKind.Decimal s c.in_ok-at.at place h (omega (arith, c.if-at-s.false)) in
    array-begins (symbol_by g.G.Grammar.IS_WIDE g.G.Grammar.IS_BARE g.G.Grammar.IS_BRIEF s) c.args.self.now _ c.args.access n.0 place.from place.to c.requires.writing c.requires.letters
    (c.takes_element.ensures c.if-not-takes_element.false)
    (subst (λ k. IsSizeAt s k n.0 place.end) (c.in_ok-at.ensures.1 ∙ ap (λ l. c.args.self.now.at + l) c.letters.ensures) n.1) n.2 n.3 n.4
    c.in_ok-push.ensures.items refl refl refl
