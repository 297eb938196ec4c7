use Rattle.cpp_direct.proofs.ForAnswers.{inl, inr, refl, arith, some-by, reads-written, boolean-read}
use Rattle.cpp_direct.proofs.direct.Direct.boolean.Goals as goal

pub returns-in-48 : goal.returns-in-48
returns-in-48 c = some-by c.push.result c.push.ensures
    (λ w. boolean-read c.args.s.now c.args.self.now c.push.new.self c.byte_at-digit.result c.in_ok-self.field-0 48 c.requires c.byte_at-digit.ensures
    c.in_ok-self.ensures.1 c.in-48.is (inl refl) (omega (arith, w.at, c.in_ok-self-2.ensures.1))
    (reads-written c.args.self.now _ c.push.new.self _ _ w refl refl refl refl refl refl))

pub returns-in-49 : goal.returns-in-49
returns-in-49 c = some-by c.push-in-49.result c.push-in-49.ensures
    (λ w. boolean-read c.args.s.now c.args.self.now c.push-in-49.new.self c.byte_at-digit.result c.in_ok-self.field-0 49 c.requires c.byte_at-digit.ensures
    c.in_ok-self.ensures.1 c.in-49.is (inr refl) (omega (arith, w.at, c.in_ok-self-2.ensures.1))
    (reads-written c.args.self.now _ c.push-in-49.new.self _ _ w refl refl refl refl refl refl))
