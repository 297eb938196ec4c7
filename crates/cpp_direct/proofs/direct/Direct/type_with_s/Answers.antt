use Rattle.cpp_direct.proofs.ForAnswers.{◌≢◌, ◌+◌, ◌++◌, [], ◌∷◌, length, ap, subst, ◌∙◌, arith, append-nil, StandsAt, IsSeqAt, candidate-inside, there, named-again, some-text, std-named, abbreviation-named, substitution-named}
use Rattle.cpp_direct.proofs.direct.Direct.type_with_s.Goals as goal

pub type_named-requires : goal.type_named-requires
type_named-requires g c =
    let got = c.in_ok-name.ensures in
    std-named _ c.args.self.now c.push.new.self c.name.new.self c.end-from.result got.0 c.requires.awaits c.requires.letter
    (there c.args.s.now (c.args.self.now.at + 1) c.byte_at-letter.result 116 c.if-letter-eq116.true (omega arith)
    (subst (λ k. c.byte_at-letter.result ≢ 0 → StandsAt c.args.s.now k (c.byte_at-letter.result ∷ [])) c.in_ok-self.ensures.1 c.byte_at-letter.ensures))
    c.in_ok-push.ensures.text c.in_ok-push.ensures.candidates c.in_ok-push.ensures.waiting c.in_ok-push.ensures.scope
    (c.in_ok-push.ensures.at ∙ c.in_ok-self-2.ensures.1 ∙ ap (λ k. k + 1) c.in_ok-self.ensures.1) got.1 got.2 got.3 c.end-from.ensures

pub type_named-requires-then-not-is_empty : goal.type_named-requires-then-not-is_empty
type_named-requires-then-not-is_empty g c =
    abbreviation-named _ c.args.self.now c.push-then-not-is_empty.new.self c.end-from.result c.byte_at-letter.result c.requires.awaits c.requires.letter
    (subst (λ k. c.byte_at-letter.result ≢ 0 → StandsAt c.args.s.now k (c.byte_at-letter.result ∷ [])) c.in_ok-self.ensures.1 c.byte_at-letter.ensures)
    (some-text c.abbreviation_text-text.result.now _ c.abbreviation_text-text.ensures c.if-not-is_empty.ensures)
    (c.in_ok-push-2.ensures.text ∙ ap (λ l. c.args.self.now.text.list.items ++ l) c.abbreviation_text-text.ensures)
    c.in_ok-push-2.ensures.candidates c.in_ok-push-2.ensures.waiting c.in_ok-push-2.ensures.scope
    (c.in_ok-push-2.ensures.at ∙ c.in_ok-self-3.ensures.1 ∙ ap (λ k. k + 1) c.in_ok-self.ensures.1) c.end-from.ensures

pub dependent_again-requires-clause-again : goal.dependent_again-requires-clause-again
dependent_again-requires-clause-again g c =
    let got = c.in_ok-candidate.ensures.is in
    named-again _ c.args.self.now c.substitution.new.self c.in_ok-self.field-0 got.0 c.in_ok-candidate.candidate c.requires.awaits c.requires.letter
    (subst (λ n. IsSeqAt c.args.s.now n got.0 c.substitution.new.self.at) c.in_ok-self.ensures.1 got.1) c.in_ok-candidate.ensures.ordered got.2
    c.in_ok-candidate.ensures.same c.if-candidate.true

pub repeat-requires : goal.repeat-requires
repeat-requires g c =
    let got = c.in_ok-candidate.ensures.is in
    let is = candidate-inside _ c.args.self.now _ c.in_ok-candidate.candidate c.requires.awaits.kept c.in_ok-candidate.ensures.ordered got.2 in
    record { from = is.0; to = omega (arith, is.1, ap length (c.in_ok-candidate.ensures.same.text ∙ append-nil c.args.self.now.text.list.items)) }

pub type_named-requires-2 : goal.type_named-requires-2
type_named-requires-2 g c =
    let got = c.in_ok-candidate.ensures.is in
    let k = c.in_ok-candidate.candidate in
    substitution-named _ c.args.self.now c.substitution.new.self c.repeat.new.self c.in_ok-self.field-0 c.end-from.result got.0 k c.requires.awaits
    c.requires.letter
    (subst (λ n. IsSeqAt c.args.s.now n got.0 c.substitution.new.self.at) c.in_ok-self.ensures.1 got.1) c.in_ok-candidate.ensures.ordered got.2
    c.in_ok-candidate.ensures.same c.in_ok-repeat.ensures c.end-from.ensures c.if-candidate.false
