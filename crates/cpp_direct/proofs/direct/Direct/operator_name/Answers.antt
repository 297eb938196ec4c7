use Rattle.cpp_direct.proofs.ForAnswers.{◌≢◌, ◌+◌, ◌∷◌, ◌++◌, [], length, codes, refl, ap, ◌∙◌, arith, look_up, operator_texts, reads-written, stands-join, stands-moved, operator-listed, not-so}
use Rattle.cpp_direct.proofs.direct.Direct.operator_name.Goals as goal

pub returns : goal.returns
returns c =
    let s = c.args.s.now in
    let old = c.args.self.now in
    let first = c.byte_at-first.result in
    let second = c.byte_at-second.result in
    let text = c.operator_text-text.ensures in
    let wrote = c.in_ok-push.ensures in
    let known : look_up (first ∷ second ∷ []) operator_texts ≢ [] = λ e. absurd (c.if-size-eq8.false (ap length (text ∙ ap (λ k. codes "operator" ++ k) e))) in
    let is = operator-listed first second known in (
      first,
      second,
      record {
        known = known;
        stands = stands-join s old.at (first ∷ []) (second ∷ []) (c.byte_at-first.ensures is.first_filled)
            (stands-moved s c.in_ok-self.field-0 (old.at + 1) (second ∷ []) c.in_ok-self.ensures.1 (c.byte_at-second.ensures is.second_filled));
        ends = omega (arith, wrote.at, c.in_ok-self-2.ensures.1, c.in_ok-self.ensures.1);
      },
      not-so c.is_angle_code.result _ c.is_angle_code.ensures,
      reads-written old _ c.push.new.self _ _ wrote refl refl refl refl refl text,
    )
