use Rattle.cpp_direct.proofs.ForAnswers.{◌+◌, ◌∷◌, ◌++◌, [], append_assoc, arith, codes, refl, sym, subst, ◌∙◌, lambda_digits, lambda_number, Reads, lambda-told, stands-join, stands-moved, reads-then, reads-written, some-by, then-there}
use Rattle.cpp_direct.proofs.direct.Direct.lambda.Goals as goal

pub returns : goal.returns
returns g c =
    let s = c.args.s.now in
    let old = c.args.self.now in
    let second = then-there s (85 ∷ []) old.at c.in_ok-checked_add.field-0 c.byte_at-second.result 108 c.requires.letter c.in_ok-checked_add.ensures.1
    c.if-second-ne108.false (omega arith) c.byte_at-second.ensures in
    let third = then-there s (85 ∷ 108 ∷ []) old.at c.in_ok-checked_add-2.field-0 c.byte_at-third.result 118 second c.in_ok-checked_add-2.ensures.1
    c.if-third-ne118.false (omega arith) c.byte_at-third.ensures in
    let fourth = then-there s (85 ∷ 108 ∷ 118 ∷ []) old.at c.in_ok-checked_add-3.field-0 c.byte_at-fourth.result 69 third c.in_ok-checked_add-3.ensures.1
    c.if-fourth-ne69.false (omega arith) c.byte_at-fourth.ensures in
    some-by c.lambda_number.result c.lambda_number.ensures
    (λ r. lambda-told _ old c.lambda_number.new.self r.0 r.1
    (stands-join s old.at (85 ∷ 108 ∷ 118 ∷ 69 ∷ []) (lambda_digits r.0 ++ 95 ∷ []) fourth
    (stands-moved s c.push.new.self.at (old.at + 4) (lambda_digits r.0 ++ 95 ∷ []) (c.in_ok-push.ensures.at ∙ c.in_ok-self.ensures.1) r.2))
    (omega (arith, r.3, c.in_ok-push.ensures.at, c.in_ok-self.ensures.1))
    (subst (λ l. Reads old c.lambda_number.new.self l) (sym (append_assoc (codes "{lambda()#") (lambda_number r.0) (codes "}")))
    (reads-then old c.push.new.self c.lambda_number.new.self (codes "{lambda()#") (lambda_number r.0 ++ codes "}")
    (reads-written old _ c.push.new.self _ _ c.in_ok-push.ensures refl refl refl refl refl refl) r.4)))
