use Rattle.sym_core.proofs.Basics.{◌^◌, arith, Decimal}
use Rattle.sym_core.proofs.Horner.{too_large}
use Rattle.sym_core.proofs.values.decimal_value.Goals as goal

pub returns-in_err-shifted : goal.returns-in_err-shifted
returns-in_err-shifted c =
    rw c.from_residual.ensures
    (too_large Decimal c.loop-byte.value c.loop-byte.byte-index (2 ^ 64) c.args.digits.now c.loop-byte-test.true c.loop-byte.invariant
    (omega (arith, c.in_err-shifted.ensures)))

pub returns-in_err-value : goal.returns-in_err-value
returns-in_err-value c =
    rw c.from_residual-in_err-value.ensures
    (too_large Decimal c.loop-byte.value c.loop-byte.byte-index (2 ^ 64) c.args.digits.now c.loop-byte-test.true c.loop-byte.invariant
    (omega (arith, c.in_ok-shifted.ensures, c.in_err-value.ensures, c.saturating_sub.ensures, c.from.ensures)))
