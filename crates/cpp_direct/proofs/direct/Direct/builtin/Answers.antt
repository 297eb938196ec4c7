use Rattle.cpp_direct.proofs.ForAnswers.{◌∙◌, ap, ◌++◌, builtin-done, some-text}
use Rattle.cpp_direct.proofs.direct.Direct.builtin.Goals as goal

pub returns : goal.returns
returns g c =
    builtin-done _ c.args.self.now c.push.new.self c.args.letter c.requires.awaits c.requires.letter
    (some-text c.builtin_text-text.result.now _ c.builtin_text-text.ensures c.if-is_empty.ensures)
    (c.in_ok-push.ensures.text ∙ ap (λ l. c.args.self.now.text.list.items ++ l) c.builtin_text-text.ensures)
    c.in_ok-push.ensures.candidates c.in_ok-push.ensures.waiting c.in_ok-push.ensures.scope (c.in_ok-push.ensures.at ∙ c.in_ok-self.ensures.1)
