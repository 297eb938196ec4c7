use Rattle.cpp_direct.proofs.ForAnswers.{arith, refl, IsNumberToken, there, place-found, number-found, reads-begun, NumberKind}
use Rattle.cpp_direct.proofs.direct.Direct.distance.Goals as goal

pub returns : goal.returns
returns c =
    let s = c.args.s.now in
    let place = c.in_ok-place.place in
    let h = place-found (IsNumberToken NumberKind.Digits) s c.args.self.now.at c.find_number.result c.ok.result place
    c.find_number.ensures c.ok.ensures.value c.in_ok-place.was in
    let found = number-found NumberKind.Digits s c.args.self.now.at place h (omega (arith, c.if-self-s.false)) in (
      found.0,
      place.end,
      found.1,
      there s place.end c.byte_at.result 95 c.if-byte_at-ne95.false (omega arith) c.byte_at.ensures,
      c.in_ok-self.ensures.1,
      reads-begun c.args.self.now _ refl refl refl refl refl,
    )
