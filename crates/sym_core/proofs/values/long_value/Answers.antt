use Rattle.std.proofs.Common.{◌*◌, ◌^◌, ap, arith}
use Rattle.sym_core.proofs.Horner.{too_large}
use Rattle.sym_core.proofs.values.long_value.Goals as goal

pub returns-in_err-shifted-clause-value : goal.returns-in_err-shifted-clause-value
returns-in_err-shifted-clause-value c = λ are.
    let times = ap (λ r. c.loop-byte.value * r) c.radix.ensures in
    rw c.from_residual.ensures
    (too_large c.args.kind c.loop-byte.value c.loop-byte.byte-index (2 ^ 64) c.args.digits.now c.loop-byte-test.true c.loop-byte.invariant.0
    (omega (arith, times, c.in_err-shifted.ensures)))

pub returns-in_err-value-clause-value : goal.returns-in_err-value-clause-value
returns-in_err-value-clause-value c = λ are.
    let times = ap (λ r. c.loop-byte.value * r) c.radix.ensures in
    rw c.from_residual-in_err-value.ensures
    (too_large c.args.kind c.loop-byte.value c.loop-byte.byte-index (2 ^ 64) c.args.digits.now c.loop-byte-test.true c.loop-byte.invariant.0
    (omega (arith, times, c.in_ok-shifted.ensures, c.in_err-value.ensures, c.digit.ensures.value, c.from.ensures)))
