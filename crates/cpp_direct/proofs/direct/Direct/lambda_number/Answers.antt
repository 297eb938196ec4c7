use Rattle.cpp_direct.proofs.ForAnswers.{◌≤◌, ◌∷◌, [], None, Some, arith, refl, reads-written, some-by, then-there, there}
use Rattle.cpp_direct.proofs.direct.Direct.lambda_number.Goals as goal

pub returns-then-digit-eq95 : goal.returns-then-digit-eq95
returns-then-digit-eq95 c =
    let old = c.args.self.now in
    some-by c.push.result c.push.ensures
    (λ w. (
      None,
      tt,
      there c.args.s.now old.at c.byte_at-digit.result 95 c.if-digit-eq95.true (omega arith) c.byte_at-digit.ensures,
      omega (arith, w.at, c.in_ok-self.ensures.1),
      reads-written old _ c.push.new.self _ _ w refl refl refl refl refl refl,
    ))

pub returns : goal.returns
returns c =
    let s = c.args.s.now in
    let old = c.args.self.now in
    let digit = c.byte_at-digit.result in
    let low : 48 ≤ digit = omega (arith, c.if-digit-lt48.false) in
    let high : digit ≤ 55 = omega (arith, c.if-digit-gt55.false) in
    some-by c.push_pair.result c.push_pair.ensures
    (λ w. (
      Some digit,
      (low, high),
      then-there s (digit ∷ []) old.at c.in_ok-self.field-0 c.byte_at.result 95 (c.byte_at-digit.ensures (λ e. omega (arith, e, low))) c.in_ok-self.ensures.1
          c.if-byte_at-ne95.false (omega arith) c.byte_at.ensures,
      omega (arith, w.at, c.in_ok-self-2.ensures.1, c.in_ok-self.ensures.1),
      reads-written old _ c.push_pair.new.self _ _ w refl refl refl refl refl refl,
    ))
