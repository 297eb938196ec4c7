use Rattle.cpp_direct.proofs.ForAnswers.{refl, subst, IsWriting, symbol_by, waits-last, value-front, value-parameter, passed-closed, Step}
use Rattle.cpp_direct.proofs.direct.Direct.pass.Goals as goal

pub parameter_ended-requires-clause-ended : goal.parameter_ended-requires-clause-ended
parameter_ended-requires-clause-ended g c =
    value-parameter _ c.args.self.now c.args.is_reference c.args.is_dependent c.in-Parameters.mark c.in-Parameters.start
    c.in-Parameters.argument c.requires.writing (waits-last _ _ _ _ c.as_slice.ensures c.in_ok-entry.ensures.value c.in-Parameters.is)

pub front_ended-requires-clause-ended : goal.front_ended-requires-clause-ended
front_ended-requires-clause-ended g c =
    value-front _ c.args.self.now c.args.is_reference c.args.is_dependent c.in-Front.mark c.in-Front.start
    c.in-Front.argument c.requires.writing (waits-last _ _ _ _ c.as_slice.ensures c.in_ok-entry.ensures.value c.in-Front.is)

pub pass_dependent-requires-clause-writing : goal.pass_dependent-requires-clause-writing
pass_dependent-requires-clause-writing g c =
    let s = symbol_by g.G.Grammar.IS_WIDE g.G.Grammar.IS_BARE g.G.Grammar.IS_BRIEF c.args.s.now in
    (c.args.is_reference, subst (λ d. IsWriting s c.args.self.now (Step.Value c.args.is_reference d)) c.if-is_dependent.true c.requires.writing)

pub pass_closed-requires : goal.pass_closed-requires
pass_closed-requires g c =
    let s = symbol_by g.G.Grammar.IS_WIDE g.G.Grammar.IS_BARE g.G.Grammar.IS_BRIEF c.args.s.now in
    record {
      fits = c.requires.fits;
      writing = subst (λ d. IsWriting s c.args.self.now (Step.Value c.args.is_reference d)) c.if-is_dependent.false c.requires.writing;
      waits = waits-last _ _ _ _ c.as_slice.ensures c.in_ok-entry.ensures.value refl;
      others = passed-closed c.in_ok-entry.field-0.now c.in_default.not-Pointer c.in_default.not-Lvalue c.in_default.not-Rvalue c.in_default.not-Const
          c.in_default.not-Parameters c.in_default.not-Front;
    }
