use Rattle.cpp_direct.proofs.ForAnswers.{◌∷◌, [], arith, refl, call-component, source-component, reads-written, some-by, then-there, there}
use Rattle.cpp_direct.proofs.direct.Direct.member_piece.Goals as goal

pub returns-then-byte_at-ne99 : goal.returns-then-byte_at-ne99
returns-then-byte_at-ne99 g c = some-by c.name.result c.name.ensures (λ r. source-component _ c.args.self.now c.name.new.self r.0 r.1 r.2 r.3)

pub returns : goal.returns
returns g c =
    let s = c.args.s.now in
    let old = c.args.self.now in
    some-by c.push.result c.push.ensures
    (λ w. call-component _ old c.push.new.self
    (then-there s (99 ∷ []) old.at c.in_ok-behind.behind c.byte_at-2.result 108
    (there s old.at c.byte_at.result 99 c.if-byte_at-ne99.false (omega arith) c.byte_at.ensures)
    c.in_ok-behind.ensures.1 c.if-byte_at-ne108.false (omega arith) c.byte_at-2.ensures) (omega (arith, w.at, c.in_ok-self.ensures.1, c.in_ok-behind.ensures.1))
    (reads-written old _ c.push.new.self _ _ w refl refl refl refl refl refl))
