use Rattle.cpp_direct.proofs.ForAnswers.{◌∷◌, [], arith, refl, subst, symbol_by, StandsAt, stands-join, void-closed, there}
use Rattle.cpp_direct.proofs.direct.Direct.first_parameter.Goals as goal

pub function_ended-requires-clause-ended : goal.function_ended-requires-clause-ended
function_ended-requires-clause-ended g c =
    let s = symbol_by g.G.Grammar.IS_WIDE g.G.Grammar.IS_BARE g.G.Grammar.IS_BRIEF c.args.s.now in
    let w = c.args.self.now in
    void-closed s w _ c.args.is_pointer c.requires.awaits
    (stands-join s.bytes w.at (118 ∷ []) (69 ∷ []) (there s.bytes w.at c.byte_at.result 118 c.if-byte_at-eq118.true (omega arith) c.byte_at.ensures)
    (subst (λ k. StandsAt s.bytes k (69 ∷ [])) c.in_ok-checked_add.ensures.1
    (there s.bytes c.in_ok-checked_add.field-0 c.byte_at-behind.result 69 c.if-behind-eq69.true (omega arith) c.byte_at-behind.ensures)))
    refl refl refl refl c.in_ok-self.ensures.1
