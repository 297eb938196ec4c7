use Rattle.cpp_direct.proofs.ForAnswers.{arith, false, subst, sym, IsNameEnded, nowhere, symbol_by, operator-ends, there}
use Rattle.cpp_direct.proofs.direct.Direct.operator_ended.Goals as goal

pub name_ended-requires-clause-ended : goal.name_ended-requires-clause-ended
name_ended-requires-clause-ended g c =
    let s = symbol_by g.G.Grammar.IS_WIDE g.G.Grammar.IS_BARE g.G.Grammar.IS_BRIEF c.args.s.now in
    let old = c.args.self.now in
    subst (λ n. IsNameEnded s (record old { at = n }) c.in-Name.mark false nowhere old.nest.from) (sym c.in_ok-self.ensures.1)
    (operator-ends s old c.in-Name.mark c.requires.read
    (there s.bytes old.at c.byte_at.result 69 c.if-byte_at-ne69.false (omega arith) c.byte_at.ensures) c.in-Name.is)
