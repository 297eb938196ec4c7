use Rattle.rust_legacy.proofs.Basics.{◌≡◌, ◌<◌, drop, arith, sym, ◌∙◌, prefix_len, nat_tests, is_decimal_digit}
use Rattle.rust_legacy.proofs.Lengths.{first_digit, length_is}
use Rattle.rust_legacy.proofs.path.name_length.Goals as goal
use Rattle.rust_legacy.proofs.path.name_length.Goals.{else-length-at-eq-MOST_DIGITS-via-then-length-at-eq-MOST_DIGITS+else-has_digit, else-length-at-eq-MOST_DIGITS-via-else-length-at-eq-MOST_DIGITS}

pub returns-clause-name : goal.returns-clause-name
returns-clause-name c =
    let s = c.args.s.now in
    let at = c.args.at in
    let length_is_read = c.length_at-length.result in
    let h = c.length_at-length.ensures in
    let all : prefix_len is_decimal_digit (drop length_is_read.to s) ≡ 0 = elim c.else-length-at-eq-MOST_DIGITS.branch [
      | else-length-at-eq-MOST_DIGITS-via-then-length-at-eq-MOST_DIGITS+else-has_digit w ↦ grind (arith, nat_tests, sym w.has_digit.ensures ∙ w.if-has_digit.false)
      | else-length-at-eq-MOST_DIGITS-via-else-length-at-eq-MOST_DIGITS w ↦ h.all (omega (arith, h.few, w.if-length-at-eq-MOST_DIGITS.false))
    ] in
    let first = first_digit s at (omega (arith, c.requires.within, c.if-most-eq0.false)) (sym c.begins_length.ensures ∙ c.if-not-begins_length.false) in
    let more : at < length_is_read.to = omega (arith, first.0, h.digits, all, h.low) in
    length_is s at length_is_read.to length_is_read.value more h.high h.few h.digits all h.value first.1 (h.some first.1 more)
