use Rattle.cpp_direct.proofs.ForAnswers.{arith, refl, ◌∙◌, IsNumberToken, place-found, own-found, some-by, reads-written, reads-then, reads-of, digits-read, plain-digits, zero-digits, minus-digits, NumberKind}
use Rattle.cpp_direct.proofs.direct.Direct.digits.Goals as goal

pub slice_bounds-normal-end : goal.slice_bounds-normal-end
slice_bounds-normal-end c =
    let h = place-found (IsNumberToken NumberKind.Digits) c.args.s.now c.args.self.now.at c.find_number.result c.ok.result c.in_ok-place.place
    c.find_number.ensures c.ok.ensures.value c.in_ok-place.was in
    (own-found (IsNumberToken NumberKind.Digits) c.args.s.now c.args.self.now.at c.in_ok-place.place h (omega (arith, c.if-self-s.false))).1

pub returns-then-not-is_negative : goal.returns-then-not-is_negative
returns-then-not-is_negative c =
    let h = place-found (IsNumberToken NumberKind.Digits) c.args.s.now c.args.self.now.at c.find_number.result c.ok.result c.in_ok-place.place
    c.find_number.ensures c.ok.ensures.value c.in_ok-place.was in
    some-by c.push.result c.push.ensures
    (λ w. digits-read c.args.s.now c.args.self.now c.push.new.self c.in_ok-place.place c.args.is_negative _ h (omega (arith, c.if-self-s.false))
    w.at (reads-written c.args.self.now _ c.push.new.self c.normal-digits.result.now _ w refl refl refl refl refl refl)
    (plain-digits c.normal-digits.result.now _ c.args.is_negative c.normal-digits.ensures c.if-not-is_negative.true))

pub returns-then-is_zero : goal.returns-then-is_zero
returns-then-is_zero c =
    let h = place-found (IsNumberToken NumberKind.Digits) c.args.s.now c.args.self.now.at c.find_number.result c.ok.result c.in_ok-place.place
    c.find_number.ensures c.ok.ensures.value c.in_ok-place.was in
    some-by c.push-then-is_zero.result c.push-then-is_zero.ensures
    (λ w. digits-read c.args.s.now c.args.self.now c.push-then-is_zero.new.self c.in_ok-place.place c.args.is_negative _ h (omega (arith, c.if-self-s.false))
    w.at (reads-written c.args.self.now _ c.push-then-is_zero.new.self c.normal-digits.result.now _ w refl refl refl refl refl refl)
    (zero-digits c.normal-digits.result.now _ c.args.is_negative c.normal-digits.ensures c.if-not-is_negative.false c.if-is_zero.ensures))

pub returns : goal.returns
returns c =
    let h = place-found (IsNumberToken NumberKind.Digits) c.args.s.now c.args.self.now.at c.find_number.result c.ok.result c.in_ok-place.place
    c.find_number.ensures c.ok.ensures.value c.in_ok-place.was in
    some-by c.push-3.result c.push-3.ensures
    (λ w. digits-read c.args.s.now c.args.self.now c.push-3.new.self c.in_ok-place.place c.args.is_negative _ h (omega (arith, c.if-self-s.false))
    (w.at ∙ c.in_ok-push.ensures.at)
    (reads-then c.args.self.now c.push-2.new.self c.push-3.new.self _ c.normal-digits.result.now
    (reads-written c.args.self.now _ c.push-2.new.self _ _ c.in_ok-push.ensures refl refl refl refl refl refl) (reads-of _ _ _ w))
    (minus-digits c.normal-digits.result.now _ c.args.is_negative c.normal-digits.ensures c.if-not-is_negative.false c.if-is_zero.ensures))
