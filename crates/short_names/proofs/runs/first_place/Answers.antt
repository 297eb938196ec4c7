use Rattle.std.proofs.Common.{◌<◌, ◌-◌, ◌/◌, ◌^◌, arith}
use Rattle.short_names.proofs.BitLemmas.{none-left, none-before, lowest-within}
use Rattle.short_names.proofs.runs.first_place.Goals as goal

pub returns-then-left-eq0-clause-none : goal.returns-then-left-eq0-clause-none
returns-then-left-eq0-clause-none c =
    λ k from to. none-left c.args.bits (c.args.at - c.args.from) (k - c.args.from) (omega (arith, from)) c.if-left-eq0.true

pub returns-else-left-eq0-clause-within : goal.returns-else-left-eq0-clause-within
returns-else-left-eq0-clause-within c =
    let some : 0 < c.args.bits / 2 ^ (c.args.at - c.args.from) = omega (arith, c.if-left-eq0.false) in
    let within = lowest-within c.args.bits (c.args.at - c.args.from) some c.ranges.bits.fits c.args.count c.requires.4 in
    (omega arith, omega (arith, within))

pub returns-else-left-eq0-clause-none : goal.returns-else-left-eq0-clause-none
returns-else-left-eq0-clause-none c =
    λ k from to.
    let some : 0 < c.args.bits / 2 ^ (c.args.at - c.args.from) = omega (arith, c.if-left-eq0.false) in
    none-before c.args.bits (c.args.at - c.args.from) some c.ranges.bits.fits (k - c.args.from) (omega (arith, from)) (omega (arith, from, to))
