use Rattle.cpp_direct.proofs.ForAnswers.{◌+◌, ◌≤◌, ◌∷◌, [], refl, arith, subst, IsDigitsAt, by_digit, by_digits, unnumbered, reads-begun, some-by, stands-join, stands-moved, then-there, there}
use Rattle.cpp_direct.proofs.direct.Direct.discriminator.Goals as goal

pub returns-then-byte_at-ne95 : goal.returns-then-byte_at-ne95
returns-then-byte_at-ne95 c = (unnumbered, refl, reads-begun c.args.self.now c.args.self.now refl refl refl refl refl)

pub returns-then-digit-eq95 : goal.returns-then-digit-eq95
returns-then-digit-eq95 c =
    let s = c.args.s.now in
    let old = c.args.self.now in
    some-by c.distance.result c.distance.ensures
    (λ r. (
      by_digits r.0,
      (
        r.1,
        then-there s (95 ∷ []) old.at _ c.byte_at-digit.result 95 (there s old.at c.byte_at.result 95 c.if-byte_at-ne95.false (omega arith) c.byte_at.ensures)
            (omega (arith, c.in_ok-self.ensures)) c.if-digit-eq95.true (omega arith) c.byte_at-digit.ensures,
        subst (λ n. IsDigitsAt s n r.0 r.1) (omega (arith, c.in_ok-self.ensures, c.in_ok-self-2.ensures)) r.2,
        r.3,
        r.4,
      ),
      record { text = r.5.text; candidates = r.5.candidates; waiting = r.5.waiting; nest = r.5.nest; scope = r.5.scope },
    ))

pub returns : goal.returns
returns c =
    let s = c.args.s.now in
    let old = c.args.self.now in
    let digit = c.byte_at-digit.result in
    let low : 48 ≤ digit = omega (arith, c.if-digit-lt48.false) in (
      by_digit digit,
      (
        low,
        omega (arith, c.if-digit-gt57.false),
        stands-join s old.at (95 ∷ []) (digit ∷ []) (there s old.at c.byte_at.result 95 c.if-byte_at-ne95.false (omega arith) c.byte_at.ensures)
            (stands-moved s _ (old.at + 1) (digit ∷ []) (omega (arith, c.in_ok-self.ensures)) (c.byte_at-digit.ensures (λ e. omega (arith, e, low)))),
        omega (arith, c.in_ok-self.ensures, c.in_ok-self-3.ensures),
      ),
      reads-begun old _ refl refl refl refl refl,
    )
