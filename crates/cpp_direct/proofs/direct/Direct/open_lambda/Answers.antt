use Rattle.cpp_direct.proofs.ForAnswers.{◌∷◌, [], arith, some-by, then-there}
use Rattle.cpp_direct.proofs.direct.Direct.open_lambda.Goals as goal

pub returns : goal.returns
returns c =
    let w = c.args.self.now in
    let one = c.in_ok-push.ensures in
    some-by c.push-2.result c.push-2.ensures.items
    (λ items. record {
      short = c.are_numbers_short.ensures c.if-not-are_numbers_short.false;
      stands = then-there c.args.s.now (85 ∷ []) w.at c.in_ok-self.field-0 c.byte_at.result 108 c.requires c.in_ok-self.ensures.1 c.if-byte_at-ne108.false (omega arith)
          c.byte_at.ensures;
      text = one.text;
      candidates = one.candidates;
      scope = one.scope;
      at = omega (arith, one.at, c.in_ok-self-2.ensures.1, c.in_ok-self.ensures.1);
      waiting = rw one.waiting at items;
    })
