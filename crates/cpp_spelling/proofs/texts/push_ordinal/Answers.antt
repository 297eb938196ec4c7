use Rattle.std.proofs.Common.{arith, ap, ◌∙◌, ◌++◌, ◌∷◌, []}
use Rattle.cpp_spelling.proofs.Digits.{ordinal-more, ordinal-first}
use Rattle.cpp_spelling.proofs.texts.push_ordinal.Goals.{then-number-gt0+in_ok-push_digits, else-number-gt0}
use Rattle.cpp_spelling.proofs.texts.push_ordinal.Goals as goal

pub returns-clause-number : goal.returns-clause-number
returns-clause-number c =
    elim c.if-number-gt0.branch [
      | then-number-gt0+in_ok-push_digits w ↦
          ordinal-more c.args.out.now.items c.extend_from_slice.new.self.items w.push_digits.new.out.items c.push.new.self.items c.args.before.now c.args.number w.if-number-gt0.true c.in_ok-extend_from_slice.ensures.items w.in_ok-push_digits.ensures.digits
          (c.in_ok-push.ensures.items ∙ ap (λ v. v.items ++ 95 ∷ []) w.out-is)
      | else-number-gt0 w ↦
          ordinal-first c.args.out.now.items c.extend_from_slice.new.self.items c.push.new.self.items c.args.before.now c.args.number (omega (arith, w.if-number-gt0.false)) c.in_ok-extend_from_slice.ensures.items
          (c.in_ok-push.ensures.items ∙ ap (λ v. v.items ++ 95 ∷ []) w.out-is)
    ]
