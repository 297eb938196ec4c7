use Rattle.sym_core.proofs.Basics.{◌^◌, arith, Hex}
use Rattle.sym_core.proofs.Horner.{digit_at, too_large}
use Rattle.sym_core.proofs.values.value16.Goals as goal

pub digit-requires : goal.digit-requires
digit-requires c = digit_at Hex c.args.digits.now c.loop-byte.byte-index c.requires.0 c.loop-byte-test.true

pub returns-in_err-shifted : goal.returns-in_err-shifted
returns-in_err-shifted c =
    rw c.from_residual.ensures
    (too_large Hex c.loop-byte.value c.loop-byte.byte-index (2 ^ 128) c.args.digits.now c.loop-byte-test.true c.loop-byte.invariant
    (omega (arith, c.in_err-shifted.ensures)))

pub returns-in_err-value : goal.returns-in_err-value
returns-in_err-value c =
    rw c.from_residual-in_err-value.ensures
    (too_large Hex c.loop-byte.value c.loop-byte.byte-index (2 ^ 128) c.args.digits.now c.loop-byte-test.true c.loop-byte.invariant
    (omega (arith, c.in_ok-shifted.ensures, c.in_err-value.ensures, c.digit.ensures.value, c.from.ensures)))
