use Rattle.rust_v0.proofs.Basics.{◌≡◌, ◌∙◌, ◌-◌, ◌&&◌, sym, subst, ap, arith, length, take, drop, nat_lt, err_from_is_err_and, AreDigits, Hex, signed_text, span_length, HasNoZero, value16}
use Rattle.rust_v0.proofs.Printing.{prints-none}
use Rattle.rust_v0.proofs.Integers.{digits_behind, digits_left, digits_pay, text_few}
use Rattle.rust_v0.proofs.nodes.RustNodes.integer.Goals as goal

pub returns-then-not-are_digits-clause-prints : goal.returns-then-not-are_digits-clause-prints
returns-then-not-are_digits-clause-prints c = prints-none c.args.self.now

pub returns-in-None-clause-prints : goal.returns-in-None-clause-prints
returns-in-None-clause-prints c = prints-none c.args.self.now

pub returns-in_ok-printed-in-Some-clause-part : goal.returns-in_ok-printed-in-Some-clause-part
returns-in_ok-printed-in-Some-clause-part c =
    let bytes = take (c.args.own.to - c.args.own.from) (drop c.args.own.from c.args.symbol.now) in
    let zeros = c.without_zeros-zeros.result in
    let is : c.in-Some.magnitude ≡ value16 bytes = c.in-Some.ensures in
    let count : length bytes ≡ c.args.own.to - c.args.own.from = span_length c.args.own.from c.args.own.to c.args.symbol.now c.requires.within.0 c.requires.within.1 in
    let behind = digits_behind c.args.own.from c.args.own.to zeros c.args.symbol.now (omega (arith, count, c.without_zeros-zeros.ensures.within)) in
    record {
      minus = c.is_negative.ensures ∙ ap (λ v. c.args.minus && nat_lt 0 v) is;
      few = omega (arith, is);
      digits = (omega (arith, count, c.without_zeros-zeros.ensures.within, c.requires.within.0), c.requires.within.1);
      no_zero = subst (λ l. HasNoZero l) (sym behind) c.without_zeros-zeros.ensures.no_zero;
      hex = subst (λ l. AreDigits Hex l) (sym behind) (digits_left zeros bytes (c.are_digits.ensures.only c.if-not-are_digits.false));
      magnitude = ap (λ l. value16 l) behind ∙ c.without_zeros-zeros.ensures.value;
      printed = c.in_ok-printed-in-Some.ensures.within;
      decimal = c.in_ok-printed-in-Some.ensures.printed ∙ ap (λ v. signed_text (c.args.minus && nat_lt 0 v) v) is;
    }

pub returns-in_ok-printed-in-Some-clause-few : goal.returns-in_ok-printed-in-Some-clause-few
returns-in_ok-printed-in-Some-clause-few c =
    let bytes = take (c.args.own.to - c.args.own.from) (drop c.args.own.from c.args.symbol.now) in
    let count : length bytes ≡ c.args.own.to - c.args.own.from = span_length c.args.own.from c.args.own.to c.args.symbol.now c.requires.within.0 c.requires.within.1 in
    digits_pay (length c.args.self.now.nodes.text) (length c.print_integer.new.self.nodes.text) c.in-Some.magnitude (c.args.own.to - c.args.own.from) c.args.minus bytes
    (c.are_digits.ensures.only c.if-not-are_digits.false) c.in-Some.ensures (omega (arith, c.in-Some.ensures)) count
    (λ none. ap (λ l. length l) (c.in_ok-printed-in-Some.ensures.none none)) c.in_ok-printed-in-Some.ensures.few

pub returns-in_err-printed-in-Some-clause-full : goal.returns-in_err-printed-in-Some-clause-full
returns-in_err-printed-in-Some-clause-full c =
    let bytes = take (c.args.own.to - c.args.own.from) (drop c.args.own.from c.args.symbol.now) in
    let count : length bytes ≡ c.args.own.to - c.args.own.from = span_length c.args.own.from c.args.own.to c.args.symbol.now c.requires.within.0 c.requires.within.1 in
    let full = c.in_err-printed-in-Some.ensures.full in
    let same : length (signed_text c.args.minus c.in-Some.magnitude) ≡ length (signed_text c.args.minus (value16 bytes)) = ap (λ v. length (signed_text c.args.minus v)) c.in-Some.ensures in
    let few = text_few c.args.minus bytes (c.are_digits.ensures.only c.if-not-are_digits.false) (omega (arith, c.in-Some.ensures)) (omega (arith, c.in-Some.ensures, full.0)) in
    let p = err_from_is_err_and c.from_residual.result c.from_residual.ensures.1 in
    rw p.1 (λ memory. omega (arith, full.1, same, few, count))
