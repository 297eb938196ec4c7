use Rattle.cpp_direct.proofs.ForAnswers.{refl, sym, codes, ◌∷◌, [], ◌∙◌, look_up, builtin_texts, some-by, reads-written, reads-then, reads-of, reads-begun, plain-integer-read, cast-integer-read}
use Rattle.cpp_direct.proofs.direct.Direct.integer.Goals as goal

pub returns-then-is_plain_letter : goal.returns-then-is_plain_letter
returns-then-is_plain_letter c = some-by c.push.result c.push.ensures
    (λ w. plain-integer-read c.args.s.now c.args.self.now (record c.args.self.now { at = c.in_ok-self.field-0 }) c.number.new.self c.push.new.self
    c.byte_at-letter.result c.ending_text.result.now c.byte_at-letter.ensures c.if-not-is_integer_letter.ensures c.if-is_plain_letter.ensures
    c.in_ok-self.ensures.1 (reads-begun c.args.self.now _ refl refl refl refl refl) c.in_ok-number.ensures c.ending_text.ensures (reads-of _ _ _ w) (sym w.at))

pub returns : goal.returns
returns c =
    let bracket = reads-written c.args.self.now _ c.push-2.new.self _ (codes "(") c.in_ok-push.ensures refl refl refl refl refl refl in
    let named = reads-written c.push-2.new.self _ c.push-3.new.self _ (look_up (c.byte_at-letter.result ∷ []) builtin_texts) c.in_ok-push-2.ensures
    refl refl refl refl refl c.builtin_text.ensures in
    let front = reads-then _ _ _ _ (codes ")") (reads-then _ _ _ _ _ bracket named) (reads-of _ _ _ c.in_ok-push-3.ensures) in
    some-by c.number-2.result c.number-2.ensures
    (λ read. cast-integer-read c.args.s.now c.args.self.now c.push-4.new.self c.number-2.new.self c.byte_at-letter.result c.byte_at-letter.ensures
    c.if-not-is_integer_letter.ensures c.if-is_plain_letter.ensures
    (c.in_ok-push-3.ensures.at ∙ c.in_ok-push-2.ensures.at ∙ c.in_ok-push.ensures.at ∙ c.in_ok-self.ensures.1) front read)
