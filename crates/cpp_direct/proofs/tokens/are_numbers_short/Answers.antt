use Rattle.cpp_direct.proofs.ForAnswers.{arith, all-passed, digit-passed, other-passed}
use Rattle.cpp_direct.proofs.tokens.are_numbers_short.Goals as goal

pub bytes-preserved : goal.bytes-preserved
bytes-preserved c =
    let i = c.bytes.invariant in
    let s = c.args.s.now in
    elim c.if-is_digit.branch [
      | goal.then-is_digit+else-run-ge19 w ↦ record {
        high = omega (arith, c.bytes-test.true);
        few = omega (arith, w.run-is, w.if-run-ge19.false);
        left = digit-passed s c.bytes.at c.bytes.run c.if-is_digit.run c.is_digit.result c.bytes-test.true c.is_digit.ensures w.if-is_digit.true
            (omega (arith, w.if-run-ge19.false)) w.run-is i.left;
      }
      | goal.else-is_digit w ↦ record {
        high = omega (arith, c.bytes-test.true);
        few = omega (arith, w.run-is);
        left = other-passed s c.bytes.at c.bytes.run c.if-is_digit.run c.is_digit.result c.bytes-test.true c.is_digit.ensures w.if-is_digit.false
            w.run-is i.left;
      }
    ]

pub returns : goal.returns
returns c = λ e. c.bytes.invariant.left (all-passed c.args.s.now c.bytes.at c.bytes.run c.bytes-test.false)
