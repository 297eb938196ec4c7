use Rattle.cpp_direct.proofs.ForAnswers.{arith, sym, ◌∙◌, one-digit, two-digits, digit-byte}
use Rattle.cpp_direct.proofs.names.name_at.Goals as goal

pub own_at-requires-clause-read : goal.own_at-requires-clause-read
own_at-requires-clause-read c =
    one-digit c.args.s.now c.args.at c.in_ok-second_at.second_at c.byte_at-first.result (omega (arith, c.if-first-lt49.false)) (omega (arith, c.if-first-gt57.false))
    (c.byte_at-first.ensures (omega (arith, c.if-first-lt49.false))) c.in_ok-second_at.ensures.1

pub own_at-requires-2-clause-read : goal.own_at-requires-2-clause-read
own_at-requires-2-clause-read c =
    let second = sym c.is_digit.ensures ∙ c.if-not-is_digit.false in
    two-digits c.args.s.now c.args.at c.in_ok-second_at.second_at c.in_ok-from.from c.byte_at-first.result c.byte_at-second.result
    (omega (arith, c.if-first-lt49.false)) (omega (arith, c.if-first-gt57.false)) second (c.byte_at-first.ensures (omega (arith, c.if-first-lt49.false)))
    c.in_ok-second_at.ensures.1 (c.byte_at-second.ensures (digit-byte c.byte_at-second.result second)) c.in_ok-from.ensures.1
