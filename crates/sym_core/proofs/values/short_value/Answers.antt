use Rattle.sym_core.proofs.Basics.{ℕ, ◌+◌, ◌*◌, ◌^◌, ◌<◌, ◌≤◌, ap, arith, pow-le-pow_right, radix_of, NumberKind, Length, Decimal, Seq36, Base62, Hex, Digits}
use Rattle.sym_core.proofs.values.short_value.Goals as goal

-- the value with one more digit, after at most nine
one_more : (kind : NumberKind) (v : ℕ) → v < 62 ^ 9 → v * radix_of kind + radix_of kind ≤ 62 ^ 10
one_more Length v small = omega (arith, small)
one_more Decimal v small = omega (arith, small)
one_more Seq36 v small = omega (arith, small)
one_more Base62 v small = omega (arith, small)
one_more Hex v small = omega (arith, small)
one_more Digits v small = omega (arith, small)

below : (v i : ℕ) → v < 62 ^ i → i ≤ 9 → v < 62 ^ 9
below v i small few = omega (arith, small, pow-le-pow_right {n = 62} (omega arith) {i = i} {j = 9} few)

pub overflow_mul-value : goal.overflow_mul-value
overflow_mul-value c =
    let few : c.loop-byte.byte-index ≤ 9 = omega (arith, c.loop-byte-test.true, c.requires) in
    let times = ap (λ r. c.loop-byte.value * r) c.radix.ensures in
    omega (arith, times, one_more c.args.kind c.loop-byte.value (below c.loop-byte.value c.loop-byte.byte-index c.loop-byte.invariant.2 few))

pub overflow_add-value : goal.overflow_add-value
overflow_add-value c =
    let few : c.loop-byte.byte-index ≤ 9 = omega (arith, c.loop-byte-test.true, c.requires) in
    let times = ap (λ r. c.loop-byte.value * r) c.radix.ensures in
    omega (
      arith,
      times,
      one_more c.args.kind c.loop-byte.value (below c.loop-byte.value c.loop-byte.byte-index c.loop-byte.invariant.2 few),
      c.digit.ensures.below,
      c.from.ensures,
    )
