use Rattle.cpp_direct.proofs.ForAnswers.{◌≡◌, ◌∷◌, ◌++◌, ap, sym, ◌∙◌, refl, reverse, reverse-last, signature-begins, popped, Open}
use Rattle.cpp_direct.specs.WriterInvariant.{opening_text}
use Rattle.cpp_direct.proofs.direct.Direct.returned.Goals as goal

pub first_parameter-requires-clause-awaits : goal.first_parameter-requires-clause-awaits
first_parameter-requires-clause-awaits g c =
    let w = c.args.self.now in
    let p = c.requires.returned in
    let entry = Open.Signature c.args.is_pointer in
    let opening : c.if-is_pointer.push.now ≡ opening_text c.args.is_pointer = elim c.if-is_pointer.branch [
      | goal.then-is_pointer b ↦ ap (λ t. t.now) b.push-is ∙ ap (λ k. opening_text k) (sym b.if-is_pointer.true)
      | goal.else-is_pointer b ↦ ap (λ t. t.now) b.push-is ∙ ap (λ k. opening_text k) (sym b.if-is_pointer.false)
    ] in
    signature-begins _ w _ c.args.is_pointer p (c.in_ok-push.ensures.text ∙ ap (λ l. w.text.list.items ++ l) opening)
    c.in_ok-push.ensures.candidates c.in_ok-push.ensures.scope
    (ap reverse c.in_ok-push-2.ensures.items ∙ reverse-last c.push.new.self.waiting.list.items entry
    ∙ ap (λ r. entry ∷ r) (ap (λ v. reverse v.list.items) c.in_ok-push.ensures.waiting
    ∙ popped w.waiting.list.items c.pop-open.new.self.list.items p.taker.rest (Open.Returned c.args.is_pointer) _ refl p.open_is c.pop-open.ensures.rest))
    c.in_ok-push.ensures.at
