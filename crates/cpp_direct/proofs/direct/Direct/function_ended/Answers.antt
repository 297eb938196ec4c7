use Rattle.cpp_direct.proofs.ForAnswers.{refl, ap, ◌∙◌, hidden_behind, function-handed, still-popped}
use Rattle.cpp_direct.proofs.direct.Direct.function_ended.Goals as goal

pub pass_element-requires-clause-passed : goal.pass_element-requires-clause-passed
pass_element-requires-clause-passed g c =
    let w = c.args.self.now in
    let p = c.requires.ended in
    function-handed _ w _ c.args.is_pointer p (ap (λ t. t.list.items) c.add_hidden.ensures.text ∙ c.in_ok-push_byte.ensures.text)
    (c.in_ok-add_hidden.ensures.candidates ∙ ap (λ v. hidden_behind c.args.is_pointer v.list.items) c.in_ok-push_byte.ensures.candidates)
    (c.add_hidden.ensures.scope ∙ c.in_ok-push_byte.ensures.scope)
    (still-popped _ w c.add_hidden.new.self c.args.is_pointer p c.pop-open.new.self.list.items _ (c.add_hidden.ensures.open ∙ c.in_ok-push_byte.ensures.waiting) refl c.pop-open.ensures.rest)
    (c.add_hidden.ensures.at ∙ c.in_ok-push_byte.ensures.at)
