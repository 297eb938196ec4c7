use Rattle.rust_legacy.proofs.Basics.{◌≡◌, ◌<◌, ◌+◌, ◌-◌, arith, get_or, length, true, sym, ◌∙◌, prefix_len-drop_yes, is_decimal_digit, Length}
use Rattle.sym_core.proofs.Horner.{value_of-next, ten_more, decimal_small}
use Rattle.rust_legacy.proofs.Lengths.{first_above}
use Rattle.rust_legacy.proofs.path.length_at.Goals as goal

pub loop-to-preserved : goal.loop-to-preserved
loop-to-preserved c =
    let i = c.loop-to.invariant in
    let s = c.args.s.now in
    let last : is_decimal_digit (get_or s c.loop-to.to 0) ≡ true = sym c.is_digit.ensures ∙ c.if-is_digit.true in
    let digit = decimal_small (get_or s c.loop-to.to 0) last in
    let within : c.loop-to.to < length s = omega (arith, c.loop-to-test.true, c.requires.within, i.low) in
    record {
      low = omega (arith, i.low);
      high = omega (arith, c.loop-to-test.true, i.low);
      digits = omega (arith, i.low, i.digits, prefix_len-drop_yes is_decimal_digit s c.loop-to.to 0 within last);
      value = omega (arith, i.value, value_of-next Length s c.args.at c.loop-to.to i.low within);
      below = ten_more c.loop-to.value (get_or s c.loop-to.to 0 - 48) (c.loop-to.to - c.args.at) (c.loop-to.to + 1 - c.args.at) i.below (omega (arith, digit)) (omega (arith, i.low));
      some = λ first _. first_above s c.args.at c.loop-to.to c.loop-to.value i.low within last first (i.some first);
    }
