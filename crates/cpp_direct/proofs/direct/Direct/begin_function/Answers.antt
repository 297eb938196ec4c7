use Rattle.cpp_direct.proofs.ForAnswers.{◌≡◌, ◌+◌, if◌then◌else◌, refl, ap, sym, ◌∙◌, function-begins}
use Rattle.cpp_direct.proofs.direct.Direct.begin_function.Goals as goal

pub returns : goal.returns
returns g c =
    let old = c.args.self.now in
    let size : c.if-is_pointer.checked_add ≡ (if c.args.is_pointer then 2 else 1) = elim c.if-is_pointer.branch [
      | goal.then-is_pointer w ↦ w.checked_add-is ∙ ap (λ b. if b then 2 else 1) (sym w.if-is_pointer.true)
      | goal.else-is_pointer w ↦ w.checked_add-is ∙ ap (λ b. if b then 2 else 1) (sym w.if-is_pointer.false)
    ] in
    function-begins _ old _ c.args.is_pointer c.requires.writing c.requires.letters
    (c.takes_element.ensures c.if-not-takes_element.false) c.in_ok-push.ensures.items (c.in_ok-self.ensures.1 ∙ ap (λ n. old.at + n) size) refl refl refl
