use Rattle.rust_press.proofs.Basics.{◌≡◌, length, [], ◌∷◌, ◌++◌, Some, None, slice_get, get_or, inl, inr, rules, refl, sym, ap, subst, ◌∙◌, number_at, Task, fields_at, is_component, IsSpelled}
use Rattle.rust_press.proofs.WriterSteps.{spelled-is, none-there}
use Rattle.rust_press.proofs.pressing.press_node.Goals.{then-is_component+in_default+in_ok-push, else-is_component}
use Rattle.rust_press.proofs.pressing.press_node.Goals as goal

pub returns-clause-step : goal.returns-clause-step
returns-clause-step c =
    let y = c.args.symbol.now in
    let view = c.node-view.result in
    let long : length view.texts ≡ 2 = search rules in
    let spelled : IsSpelled y c.args.node c.if-is_component.tasks.items c.args.out.now.items c.push_parts.new.tasks.items c.push_front.new.out.items =
    spelled-is y c.args.node view c.bytes_of-text.result.now c.if-is_component.tasks.items c.args.out.now.items c.push_parts.new.tasks.items c.push_front.new.out.items
    long c.node-view.ensures.fields c.bytes_of-text.ensures c.in_ok-push_front.ensures.small c.in_ok-push_parts.ensures.pushed c.in_ok-push_front.ensures.front in
    let is : is_component (fields_at y c.args.node).production ≡ c.is_component.result = sym (ap is_component c.node-view.ensures.fields.production) ∙ sym c.is_component.ensures in
    elim c.if-is_component.branch [
      | then-is_component+in_default+in_ok-push w ↦
          (let n = number_at c.args.firsts.now c.args.node in
          let none : slice_get c.args.places.now n ≡ Some None =
          none-there c.args.places.now n w.first_of-number.result w.first_of-number.ensures.number c.requires.places (get_or c.args.places.now w.first_of-number.result None) refl w.in_default.not-Some in
          let moved = subst (λ v. IsSpelled y c.args.node v.items c.args.out.now.items c.push_parts.new.tasks.items c.push_front.new.out.items) w.tasks-is spelled in
          let pushed = subst (λ l. IsSpelled y c.args.node l c.args.out.now.items c.push_parts.new.tasks.items c.push_front.new.out.items) w.in_ok-push.ensures.items moved in
          inl (
            is ∙ w.if-is_component.true,
            inr (
              none,
              subst (λ m. IsSpelled y c.args.node (c.args.tasks.now.items ++ Task.Ended c.args.node m ∷ []) c.args.out.now.items c.push_parts.new.tasks.items c.push_front.new.out.items)
                  (w.len-place.ensures ∙ c.args.out.now.ok.0) pushed,
            ),
          ))
      | else-is_component w ↦ inr (is ∙ w.if-is_component.false, subst (λ v. IsSpelled y c.args.node v.items c.args.out.now.items c.push_parts.new.tasks.items c.push_front.new.out.items) w.tasks-is spelled)
    ]
