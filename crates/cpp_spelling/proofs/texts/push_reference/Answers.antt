use Rattle.std.proofs.Common.{arith, ap, ◌∙◌, ◌++◌, ◌∷◌, []}
use Rattle.cpp_spelling.proofs.Digits.{reference-more, reference-first}
use Rattle.cpp_spelling.proofs.texts.push_reference.Goals.{then-number-gt0+in_ok-push_digits, else-number-gt0}
use Rattle.cpp_spelling.proofs.texts.push_reference.Goals as goal

pub returns-clause-reference : goal.returns-clause-reference
returns-clause-reference c =
    elim c.if-number-gt0.branch [
      | then-number-gt0+in_ok-push_digits w ↦
          reference-more c.args.out.now.items c.push.new.self.items w.push_digits.new.out.items c.push-2.new.self.items c.args.number w.if-number-gt0.true c.in_ok-push.ensures.items w.in_ok-push_digits.ensures.digits
          (c.in_ok-push-2.ensures.items ∙ ap (λ v. v.items ++ 95 ∷ []) w.out-is)
      | else-number-gt0 w ↦
          reference-first c.args.out.now.items c.push.new.self.items c.push-2.new.self.items c.args.number (omega (arith, w.if-number-gt0.false)) c.in_ok-push.ensures.items
          (c.in_ok-push-2.ensures.items ∙ ap (λ v. v.items ++ 95 ∷ []) w.out-is)
    ]
