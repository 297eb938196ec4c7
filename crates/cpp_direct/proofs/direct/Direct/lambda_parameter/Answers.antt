use Rattle.cpp_direct.proofs.ForAnswers.{◌++◌, reverse, ap, arith, codes, refl, sym, ◌∙◌, lambda-bracket, lambda-ended, lambda-next, no-void, popped, there}
use Rattle.cpp_direct.proofs.direct.Direct.lambda_parameter.Goals as goal

pub returns-then-byte_at-ne69 : goal.returns-then-byte_at-ne69
returns-then-byte_at-ne69 g c = lambda-next _ c.args.self.now c.push_pair.new.self c.args.from c.args.holder c.requires.read c.in_ok-push_pair.ensures

pub lambda_ended-requires-clause-read : goal.lambda_ended-requires-clause-read
lambda_ended-requires-clause-read g c =
    let w = c.args.self.now in
    let p = c.requires.read in
    let number = c.in_ok-lambda_number.ensures in
    let one = c.in_ok-push_pair-2.ensures in
    lambda-ended _ w c.in_ok-self.field-0 c.push_pair-2.new.self c.lambda_number.new.self (record c.lambda_number.new.self { waiting = c.pop-open.new.self })
    c.args.from c.args.holder p
    (no-void c.as_slice.result.now (p.front ++ (p.bytes ++ codes "::{lambda")) p.texts (c.as_slice.ensures ∙ p.written ∙ lambda-bracket p.front p.bytes p.texts)
    (sym c.ends_with.ensures.value ∙ c.if-ends_with.false))
    (there c.args.s.now w.at c.byte_at.result 69 c.if-byte_at-ne69.false (omega arith) c.byte_at.ensures)
    c.in_ok-self.ensures.1 one number.0 number.1 number.2 number.3 number.4 refl refl refl refl
    (popped c.lambda_number.new.self.waiting.list.items c.pop-open.new.self.list.items p.rest _ _ refl
    (ap (λ v. reverse v.list.items) (number.4.waiting ∙ one.waiting) ∙ p.open_is) c.pop-open.ensures.rest)
