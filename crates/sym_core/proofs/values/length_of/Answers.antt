use Rattle.sym_core.proofs.Basics.{◌≤◌, arith, pow-le-pow_right, Length}
use Rattle.sym_core.proofs.Horner.{digit_at}
use Rattle.sym_core.proofs.values.length_of.Goals as goal

pub digit-requires : goal.digit-requires
digit-requires c = digit_at Length c.args.digits.now c.loop-byte.byte-index c.requires.digits c.loop-byte-test.true

pub overflow_mul-value : goal.overflow_mul-value
overflow_mul-value c =
    let few : c.loop-byte.byte-index ≤ 8 = omega arith in
    omega (arith, pow-le-pow_right {n = 10} (omega arith) {i = c.loop-byte.byte-index} {j = 8} few)

pub overflow_add-value : goal.overflow_add-value
overflow_add-value c =
    let few : c.loop-byte.byte-index ≤ 8 = omega arith in
    omega (arith, pow-le-pow_right {n = 10} (omega arith) {i = c.loop-byte.byte-index} {j = 8} few, c.from.ensures, c.digit.ensures.below)
