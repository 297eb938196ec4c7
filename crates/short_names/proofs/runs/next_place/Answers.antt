use Rattle.short_names.proofs.Basics.{◌≡◌, ◌+◌, ◌-◌, false, drop, subst, arith, begins_std}
use Rattle.short_names.proofs.runs.next_place.Goals as goal

pub returns-then-text-clause-none : goal.returns-then-text-clause-none
returns-then-text-clause-none c =
    λ k low high.
    let from = c.min-from.result in
    let on : from + (k - from) ≡ k = omega (arith, low) in
    subst (λ j. begins_std (drop j c.args.text.now) ≡ false) on
    (c.block_bits.ensures (k - from) (omega (arith, low, high, c.first_place.ensures.within)) (c.first_place.ensures.none k low high))

pub returns-then-text-2-clause-none : goal.returns-then-text-2-clause-none
returns-then-text-2-clause-none c =
    λ k low high.
    let from = c.min-from-then-text-2.result in
    let on : from + (k - from) ≡ k = omega (arith, low) in
    subst (λ j. begins_std (drop j c.args.text.now) ≡ false) on
    (c.lane_bits.ensures.bits (k - from) (omega (arith, low, high, c.first_place-then-text-2.ensures.within)) (c.first_place-then-text-2.ensures.none k low high))
