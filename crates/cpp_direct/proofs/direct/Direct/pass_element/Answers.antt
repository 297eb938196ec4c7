use Rattle.cpp_direct.proofs.ForAnswers.{refl, subst, IsElementPassed, symbol_by, TakesFunction, element-passed, passed-on, takes-as-element, parameter-read-within, element-instance, argument-read, parameter-read, special-read, waits-last, Open}
use Rattle.cpp_direct.proofs.direct.Direct.pass_element.Goals as goal

pub parameter_ended-requires-clause-ended : goal.parameter_ended-requires-clause-ended
parameter_ended-requires-clause-ended g c =
    parameter-read _ c.args.self.now c.in-Parameters.mark c.in-Parameters.start c.in-Parameters.argument
    (passed-on _ c.args.self.now (Open.Parameters c.in-Parameters.mark c.in-Parameters.start c.in-Parameters.argument) c.requires.passed
    (waits-last _ _ _ _ c.as_slice.ensures c.in_ok-mark.ensures.value c.in-Parameters.is))

pub enclosing_parameter-requires-clause-read : goal.enclosing_parameter-requires-clause-read
enclosing_parameter-requires-clause-read g c =
    parameter-read-within _ c.args.self.now c.in-Enclosing.mark c.in-Enclosing.from c.in-Enclosing.to
    (passed-on _ c.args.self.now (Open.Enclosing c.in-Enclosing.mark c.in-Enclosing.from c.in-Enclosing.to) c.requires.passed
    (waits-last _ _ _ _ c.as_slice.ensures c.in_ok-mark.ensures.value c.in-Enclosing.is))

pub instance_parameter-requires-clause-read : goal.instance_parameter-requires-clause-read
instance_parameter-requires-clause-read g c =
    let o = Open.EnclosingInstance c.in-EnclosingInstance.mark c.in-EnclosingInstance.from c.in-EnclosingInstance.to c.in-EnclosingInstance.argument in
    element-instance _ c.args.self.now c.in-EnclosingInstance.mark c.in-EnclosingInstance.from c.in-EnclosingInstance.to c.in-EnclosingInstance.argument
    (passed-on _ c.args.self.now o c.requires.passed (waits-last _ _ _ _ c.as_slice.ensures c.in_ok-mark.ensures.value c.in-EnclosingInstance.is))

pub finish-requires : goal.finish-requires
finish-requires g c =
    special-read _ c.args.self.now (passed-on _ c.args.self.now Open.Special c.requires.passed
    (waits-last _ _ _ _ c.as_slice.ensures c.in_ok-mark.ensures.value c.in-Special.is))

pub element_ended-requires-clause-read : goal.element_ended-requires-clause-read
element_ended-requires-clause-read g c =
    let s = symbol_by g.G.Grammar.IS_WIDE g.G.Grammar.IS_BARE g.G.Grammar.IS_BRIEF c.args.s.now in
    element-passed s c.args.self.now c.in-Element.from c.in-Element.number c.in-Element.known
    (subst (λ b. IsElementPassed s c.args.self.now b) c.if-not-is_reference.false c.requires.passed)
    (waits-last _ _ _ _ c.as_slice.ensures c.in_ok-mark.ensures.value c.in-Element.is)

pub returns-in_default : goal.returns-in_default
returns-in_default g c =
    let o = c.in_ok-mark.field-0.now in
    let p = c.requires.passed in
    let read = passed-on _ c.args.self.now o p (waits-last _ _ _ _ c.as_slice.ensures c.in_ok-mark.ensures.value refl) in
    argument-read _ c.args.self.now o read
    (takes-as-element o read.rest (subst TakesFunction read.open_is p.takes) c.in_default.not-Parameters c.in_default.not-Special c.in_default.not-Enclosing
    c.in_default.not-EnclosingInstance c.in_default.not-Element)
