use Rattle.cpp_direct.proofs.ForAnswers.{append-nil, arith, false, refl, sym, true, subst, ap, ◌∙◌, codes, nat_eq, ends_with, AwaitsParameter, AwaitsSignature, symbol_by, parameter-next, signature-closed, there}
use Rattle.cpp_direct.proofs.direct.Direct.parameter_at.Goals as goal

pub function_ended-requires-clause-ended : goal.function_ended-requires-clause-ended
function_ended-requires-clause-ended g c =
    let s = symbol_by g.G.Grammar.IS_WIDE g.G.Grammar.IS_BARE g.G.Grammar.IS_BRIEF c.args.s.now in
    let w = c.args.self.now in
    signature-closed s w _ c.args.is_pointer c.args.is_first c.requires.awaits
    (there s.bytes w.at c.byte_at.result 69 c.if-byte_at-eq69.true (omega arith) c.byte_at.ensures)
    (ap (λ l. ends_with nat_eq l (codes "(void")) (sym c.as_slice.ensures) ∙ sym c.ends_with.ensures.value ∙ c.if-ends_with.false)
    refl refl refl refl c.in_ok-self.ensures.1

pub parameter-requires : goal.parameter-requires
parameter-requires g c = elim c.if-not-is_first.branch [
  | goal.then-not-is_first+in_ok-push_pair w ↦
      subst (λ d. AwaitsParameter (symbol_by g.G.Grammar.IS_WIDE g.G.Grammar.IS_BARE g.G.Grammar.IS_BRIEF c.args.s.now) d c.args.is_pointer) (sym w.self-is)
      (parameter-next _ c.args.self.now w.push_pair.new.self c.args.is_pointer false
      (subst (λ b. AwaitsSignature (symbol_by g.G.Grammar.IS_WIDE g.G.Grammar.IS_BARE g.G.Grammar.IS_BRIEF c.args.s.now) c.args.self.now c.args.is_pointer b) w.if-not-is_first.true c.requires.awaits)
      w.in_ok-push_pair.ensures.text w.in_ok-push_pair.ensures.candidates w.in_ok-push_pair.ensures.waiting w.in_ok-push_pair.ensures.scope w.in_ok-push_pair.ensures.at)
  | goal.else-not-is_first w ↦
      subst (λ d. AwaitsParameter (symbol_by g.G.Grammar.IS_WIDE g.G.Grammar.IS_BARE g.G.Grammar.IS_BRIEF c.args.s.now) d c.args.is_pointer) (sym w.self-is)
      (parameter-next _ c.args.self.now c.args.self.now c.args.is_pointer true
      (subst (λ b. AwaitsSignature (symbol_by g.G.Grammar.IS_WIDE g.G.Grammar.IS_BARE g.G.Grammar.IS_BRIEF c.args.s.now) c.args.self.now c.args.is_pointer b) w.if-not-is_first.false c.requires.awaits)
      (sym (append-nil c.args.self.now.text.list.items)) refl refl refl refl)
]
