use Rattle.cpp_direct.proofs.ForAnswers.{◌∷◌, [], arith, inl, inr, subst, sym, StandsAt, stands-join, no-builtin-with-d, some-text, there}
use Rattle.cpp_direct.proofs.enclosing.builtin_end.Goals as goal

pub returns-then-letter-eq68 : goal.returns-then-letter-eq68
returns-then-letter-eq68 c =
    let s = c.args.s.now in
    let second = c.byte_at-second.result in
    let is = sym c.if-not-is_builtin_with_d.ensures in (
      second,
      inr (
        is,
        stands-join s c.args.at (68 ∷ []) (second ∷ [])
            (there s c.args.at c.byte_at-letter.result 68 c.if-letter-eq68.true (omega arith) c.byte_at-letter.ensures)
            (subst (λ k. StandsAt s k (second ∷ [])) c.in_ok-behind.ensures.1 (c.byte_at-second.ensures (no-builtin-with-d second is))),
        omega (arith, c.in_ok-behind.ensures.1, c.in_ok-end.ensures.1),
      ),
    )

pub returns : goal.returns
returns c = (
  c.byte_at-letter.result,
  inl (some-text c.builtin_text.result.now _ c.builtin_text.ensures c.if-is_empty.ensures, c.byte_at-letter.ensures, c.in_ok-behind.ensures.1),
)
