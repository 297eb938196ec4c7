use Rattle.cpp_direct.proofs.ForAnswers.{◌+◌, ◌∷◌, [], ◌≡◌, true, arith, refl, sym, subst, ◌∙◌, false≢true, NumberKind, seq-there, stands-join, there}
use Rattle.sym_core.specs.Number.{is_digit_of}
use Rattle.cpp_direct.proofs.tokens.seq_at.Goals as goal

pub returns-then-digit-eq95 : goal.returns-then-digit-eq95
returns-then-digit-eq95 c =
    seq-there c.args.s.now c.args.at [] c.in_ok-behind.behind 0 tt (there c.args.s.now c.args.at c.byte_at-digit.result 95 c.if-digit-eq95.true (omega arith) c.byte_at-digit.ensures) c.in_ok-behind.ensures.1 refl

pub returns : goal.returns
returns c =
    let digit = c.byte_at-digit.result in
    let is : is_digit_of NumberKind.Seq36 digit ≡ true = sym c.is_seq_digit.ensures ∙ c.if-not-is_seq_digit.false in
    let line = rw c.in_ok-behind.ensures.1 at (there c.args.s.now c.in_ok-behind.behind c.byte_at.result 95 c.if-byte_at-ne95.false (omega arith) c.byte_at.ensures) in
    seq-there c.args.s.now c.args.at (digit ∷ []) c.in_ok-end.end c.value_by_digit.result (is, tt)
    (stands-join c.args.s.now c.args.at (digit ∷ []) (95 ∷ []) (c.byte_at-digit.ensures (λ e. false≢true (subst (λ b. is_digit_of NumberKind.Seq36 b ≡ true) e is))) line)
    (omega (arith, c.in_ok-behind.ensures.1, c.in_ok-end.ensures.1)) c.value_by_digit.ensures
