use Rattle.cpp_direct.proofs.ForAnswers.{arith, ◌≡◌, ◌+◌, ◌-◌, ◌++◌, ◌∷◌, [], length, take, drop, subst, sym, ap, ◌∙◌, append-nil, reverse, true, Some, ◌≢◌, false≢true, ◌==◌, counted_value, argument_of, is_type, IsNestKnown, symbol_by, StandsAt, IsSeqAt, Arguments, Nest, stands-join, candidate-inside, reference-begins, abbreviation-begins, there, NumberKind}
use Rattle.cpp_direct.proofs.direct.Direct.nest_with_s.Goals as goal

pub nest_in_std-requires-clause-awaits : goal.nest_in_std-requires-clause-awaits
nest_in_std-requires-clause-awaits g c =
    let s = c.args.s.now in
    let at = c.args.self.now.at in (
      at,
      sym c.in_ok-self.ensures.1,
      stands-join s at (83 ∷ []) (116 ∷ []) c.requires.letter
          (subst (λ n. StandsAt s n (116 ∷ [])) c.in_ok-self.ensures.1
          (there s c.in_ok-self.field-0 c.byte_at-letter.result 116 c.if-letter-eq116.true (omega arith) c.byte_at-letter.ensures)),
      c.requires.awaits,
    )

pub repeat-requires : goal.repeat-requires
repeat-requires g c =
    let got = c.in_ok-candidate.ensures.is in
    let is = candidate-inside _ c.args.self.now (counted_value NumberKind.Seq36 got.0) c.in_ok-candidate.candidate c.requires.awaits.kept
    c.in_ok-candidate.ensures.ordered got.2 in
    record { from = is.0; to = omega (arith, is.1, ap length (c.in_ok-candidate.ensures.same.text ∙ append-nil c.args.self.now.text.list.items)) }

pub nest_known-requires-clause-known : goal.nest_known-requires-clause-known
nest_known-requires-clause-known g c =
    let s = symbol_by g.G.Grammar.IS_WIDE g.G.Grammar.IS_BARE g.G.Grammar.IS_BRIEF c.args.s.now in
    let old = c.args.self.now in
    let k = c.in_ok-candidate.candidate in
    let is = c.in_ok-candidate.ensures.is in
    let same = c.in_ok-candidate.ensures.same in
    let wrote = c.in_ok-repeat.ensures in
    let plain : c.substitution.new.self.text.list.items ≡ old.text.list.items = same.text ∙ append-nil old.text.list.items in
    let typed : k.is_dependent ≡ true → is_type c.args.purpose ≡ true = λ e. elim c.else-candidate-2.branch [
      | goal.else-candidate-2-via-then-candidate-2+else-not-may_depend w ↦ w.may_depend.ensures.is_type w.if-not-may_depend.false
      | goal.else-candidate-2-via-else-candidate-2 w ↦ absurd (false≢true (sym w.if-candidate-2.false ∙ e))
    ] in
    let named : k.is_dependent ≡ true → (a : Arguments) × (argument_of (reverse old.waiting.list.items) ≡ Some a) × (a.encoding ≢ 0) = λ e. elim c.else-candidate-2.branch [
      | goal.else-candidate-2-via-then-candidate-2+else-not-may_depend w ↦
          let n = w.may_depend.ensures.named w.if-not-may_depend.false in
          (n.0, ap (λ v. argument_of (reverse v.list.items)) (sym same.waiting) ∙ n.1, n.2)
      | goal.else-candidate-2-via-else-candidate-2 w ↦ absurd (false≢true (sym w.if-candidate-2.false ∙ e))
    ] in
    subst (λ n. IsNestKnown s (record c.repeat.new.self { nest = n })) (sym c.listed_nest-self.ensures)
    (reference-begins s old c.repeat.new.self c.args.purpose is.0 k c.requires.awaits c.requires.letter
    (subst (λ n. IsSeqAt s.bytes (old.at + 1) is.0 n) (sym wrote.at) (subst (λ n. IsSeqAt s.bytes n is.0 c.substitution.new.self.at) c.in_ok-self.ensures.1 is.1))
    c.in_ok-candidate.ensures.ordered is.2 c.if-candidate.false typed named (wrote.text ∙ ap (λ l. l ++ take (k.to - k.from) (drop k.from l)) plain)
    (wrote.candidates ∙ same.candidates) (wrote.waiting ∙ same.waiting) (wrote.scope ∙ same.scope) c.end-from.result c.end-from.ensures)

pub nest_known-requires-2-clause-known : goal.nest_known-requires-2-clause-known
nest_known-requires-2-clause-known g c =
    let old = c.args.self.now in
    let letter = c.byte_at-letter.result in
    let wrote = c.in_ok-push.ensures in
    let text_is = c.abbreviation_text-text.ensures in
    let class_from = c.in_ok-checked_add.field-0 in
    let known : Nest → Type 0 = λ n. IsNestKnown (symbol_by g.G.Grammar.IS_WIDE g.G.Grammar.IS_BARE g.G.Grammar.IS_BRIEF c.args.s.now)
    (record c.push.new.self { nest = record n { class_from = class_from; class_to = c.end.result; has_class = true } }) in
    subst known (sym c.listed_nest.ensures)
    (abbreviation-begins _ old c.push.new.self c.args.purpose letter c.requires.awaits c.requires.letter
    (λ some. subst (λ n. StandsAt c.args.s.now n (letter ∷ [])) c.in_ok-self.ensures.1 (c.byte_at-letter.ensures some))
    (λ e. absurd (false≢true (c.if-is_empty.ensures ∙ ap (λ l. length l == 0) (text_is ∙ e))))
    (wrote.text ∙ ap (λ l. old.text.list.items ++ l) text_is) wrote.candidates wrote.waiting wrote.scope
    (wrote.at ∙ c.in_ok-self-2.ensures.1 ∙ ap (λ n. n + 1) c.in_ok-self.ensures.1) c.end-from.result class_from c.end.result c.end-from.ensures
    c.in_ok-checked_add.ensures.1 c.end.ensures)
