use Rattle.std.proofs.Common.{arith, sym, ◌∙◌}
use Rattle.rust_direct.proofs.FoundTokens.{read-there}
use Rattle.rust_direct.proofs.NamePlaces.{one-digit, two-digits, goes-apart}
use Rattle.rust_direct.proofs.names.short_name_at.Goals as goal

pub own_at-requires-clause-read : goal.own_at-requires-clause-read
own_at-requires-clause-read c =
    one-digit c.args.s.now c.args.at c.in_ok-behind.behind c.byte_at-first.result (omega (arith, c.if-first-lt49.false)) (omega (arith, c.if-first-gt57.false))
    (c.byte_at-first.ensures (λ e. omega (arith, e, c.if-first-lt49.false))) c.in_ok-behind.ensures.1

pub own_at-requires-clause-apart : goal.own_at-requires-clause-apart
own_at-requires-clause-apart c = goes-apart _ (sym c.is_digit.ensures ∙ c.if-not-is_digit.true) (λ e. c.if-second-eq95.false e)

pub own_at-requires-2-clause-read : goal.own_at-requires-2-clause-read
own_at-requires-2-clause-read c =
    let s = c.args.s.now in
    let second = sym c.is_digit.ensures ∙ c.if-not-is_digit.false in
    two-digits s c.args.at c.in_ok-behind.behind _ c.byte_at-first.result _ (omega (arith, c.if-first-lt49.false)) (omega (arith, c.if-first-gt57.false)) second
    (c.byte_at-first.ensures (λ e. omega (arith, e, c.if-first-lt49.false))) c.in_ok-behind.ensures.1 (read-there s c.in_ok-behind.behind (omega (arith, c.if-behind-s.false)))
    (omega arith)
