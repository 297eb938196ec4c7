use Rattle.cpp_direct.proofs.ForAnswers.{◌≢◌, ◌+◌, ◌++◌, ◌∷◌, [], ap, sym, subst, ◌∙◌, StandsAt, builtin-with-d-done}
use Rattle.cpp_direct.proofs.direct.Direct.builtin_with_d.Goals as goal

pub returns : goal.returns
returns g c =
    builtin-with-d-done _ c.args.self.now c.push.new.self c.byte_at-letter.result c.requires.awaits c.requires.letter
    (subst (λ k. c.byte_at-letter.result ≢ 0 → StandsAt c.args.s.now k (c.byte_at-letter.result ∷ [])) c.in_ok-self.ensures.1 c.byte_at-letter.ensures)
    (sym c.if-not-is_builtin_with_d.ensures) (c.in_ok-push.ensures.text ∙ ap (λ l. c.args.self.now.text.list.items ++ l) c.builtin_with_d_text.ensures)
    c.in_ok-push.ensures.candidates c.in_ok-push.ensures.waiting c.in_ok-push.ensures.scope
    (c.in_ok-push.ensures.at ∙ c.in_ok-self-2.ensures.1 ∙ ap (λ k. k + 1) c.in_ok-self.ensures.1)
