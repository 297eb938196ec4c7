use Rattle.rust_tree.proofs.Basics.{◌-◌, ◌/◌, ◌<◌, ap, arith, rules, false, digits, digits_onto}
use Rattle.rust_tree.proofs.Hexadecimals.{drop-all, reach-less, some-left, digit-kept, digit-written}
use Rattle.rust_tree.proofs.constants.write_hexadecimal.Goals as goal

pub digits-init : goal.digits-init
unfolding digits
digits-init c =
    (c.told-list, omega arith, omega (arith, c.ranges.number.fits), omega arith, ap (digits_onto 64 16 false c.args.number) (drop-all 8 c.args.list.now (omega (arith, c.told-list))))

pub digits-preserved : goal.digits-preserved
digits-preserved c =
    let i = c.digits.invariant in
    let less = reach-less c.digits.from c.digits.rest c.digits-test.true i.2 in
    let some : 0 < c.digits.rest / 16 = omega (arith, c.digits-test.true) in (
      search rules,
      omega (arith, i.1),
      less,
      some-left (c.digits.from - 1) (c.digits.rest / 16) some less,
      digit-kept c.digits.list c.digits.from c.digits.rest c.hexadecimal_digit.result _ (omega (arith, i.0, i.1)) i.3 c.digits-test.true c.hexadecimal_digit.ensures i.4,
    )

pub returns-clause-digits : goal.returns-clause-digits
returns-clause-digits c =
    let i = c.digits.invariant in
    digit-written c.digits.list c.digits.from c.digits.rest c.hexadecimal_digit-2.result _ (omega (arith, i.0, i.1)) i.3 c.digits-test.false c.hexadecimal_digit-2.ensures i.4
