use Rattle.cpp_direct.proofs.ForAnswers.{Some, true, false, ap, ◌∙◌, value-argument, value-argument-enumerator}
use Rattle.cpp_direct.proofs.direct.Direct.pass_to_argument.Goals as goal

pub argument_enumerator-requires-clause-awaits : goal.argument_enumerator-requires-clause-awaits
argument_enumerator-requires-clause-awaits g c =
    value-argument-enumerator _ c.args.self.now c.args.is_reference c.in-ArgumentEnumerator.from c.in-ArgumentEnumerator.number c.in-ArgumentEnumerator.known
    c.requires.writing (c.requires.waits ∙ ap (λ o. Some o) c.in-ArgumentEnumerator.is)

pub argument_ended-requires-clause-read : goal.argument_ended-requires-clause-read
argument_ended-requires-clause-read g c =
    value-argument _ c.args.self.now false c.args.is_reference c.in-Argument.from c.in-Argument.number c.in-Argument.known
    c.requires.writing (c.requires.waits ∙ ap (λ o. Some o) c.in-Argument.is)

pub element_ended-requires-clause-read : goal.element_ended-requires-clause-read
element_ended-requires-clause-read g c =
    value-argument _ c.args.self.now true c.args.is_reference c.in-Element.from c.in-Element.number c.in-Element.known
    c.requires.writing (c.requires.waits ∙ ap (λ o. Some o) c.in-Element.is)
