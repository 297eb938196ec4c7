use Rattle.cpp_direct.proofs.ForAnswers.{Some, true, false, ap, arith, ◌∙◌, value-element, value-returned, value-signature, value-enumerator, argument-read, special-read, takes-elements, front-read, parameter-read-within, type-led, lambda-parameter-read, member-parameter-read, value-array, Open}
use Rattle.cpp_direct.proofs.direct.Direct.pass_closed.Goals as goal

pub returned-requires-clause-returned : goal.returned-requires-clause-returned
returned-requires-clause-returned g c =
    value-returned _ c.args.self.now c.args.is_reference c.in-Returned.is_pointer c.requires.writing (c.requires.waits ∙ ap (λ o. Some o) c.in-Returned.is)

pub parameter_at-requires-clause-awaits : goal.parameter_at-requires-clause-awaits
parameter_at-requires-clause-awaits g c =
    value-signature _ c.args.self.now c.args.is_reference c.in-Signature.is_pointer c.requires.writing (c.requires.waits ∙ ap (λ o. Some o) c.in-Signature.is)

pub array_ended-requires-clause-read : goal.array_ended-requires-clause-read
array_ended-requires-clause-read g c =
    value-array _ c.args.self.now c.args.is_reference c.in-Array.access c.in-Array.from c.in-Array.to
    c.requires.writing (c.requires.waits ∙ ap (λ o. Some o) c.in-Array.is)

pub enclosing_parameter-requires-clause-read : goal.enclosing_parameter-requires-clause-read
enclosing_parameter-requires-clause-read g c =
    parameter-read-within _ c.args.self.now c.in-Enclosing.mark c.in-Enclosing.from c.in-Enclosing.to
    (value-element _ c.args.self.now c.args.is_reference (Open.Enclosing c.in-Enclosing.mark c.in-Enclosing.from c.in-Enclosing.to)
    c.requires.writing (c.requires.waits ∙ ap (λ o. Some o) c.in-Enclosing.is))

pub instance_parameter-requires-clause-read : goal.instance_parameter-requires-clause-read
instance_parameter-requires-clause-read g c = (
  c.in-EnclosingInstance.argument,
  type-led c.args.self.now c.args.is_reference false (omega arith) c.requires.writing
      (c.requires.waits ∙ ap (λ o. Some o) c.in-EnclosingInstance.is) (λ scope rest os text h. h) (λ scope own front name h. h.1.given),
)

pub addressed_front-requires-clause-read : goal.addressed_front-requires-clause-read
addressed_front-requires-clause-read g c =
    front-read c.args.self.now c.args.is_reference false c.requires.writing (c.requires.waits ∙ ap (λ o. Some o) c.in-AddressedFront.is) (λ scope rest os text h. h)

pub enclosing_front-requires-clause-read : goal.enclosing_front-requires-clause-read
enclosing_front-requires-clause-read g c =
    front-read c.args.self.now c.args.is_reference false c.requires.writing (c.requires.waits ∙ ap (λ o. Some o) c.in-EnclosingFront.is) (λ scope rest os text h. h)

pub addressed_parameter-requires-clause-read : goal.addressed_parameter-requires-clause-read
addressed_parameter-requires-clause-read g c = (
  c.in-Addressed.argument,
  type-led c.args.self.now c.args.is_reference false (omega arith) c.requires.writing
      (c.requires.waits ∙ ap (λ o. Some o) c.in-Addressed.is) (λ scope rest os text h. h) (λ scope own front name h. h.given),
)

pub lambda_parameter-requires-clause-read : goal.lambda_parameter-requires-clause-read
lambda_parameter-requires-clause-read g c =
    lambda-parameter-read _ c.args.self.now c.in-Lambda.from c.in-Lambda.holder
    (value-element _ c.args.self.now c.args.is_reference (Open.Lambda c.in-Lambda.from c.in-Lambda.holder) c.requires.writing
    (c.requires.waits ∙ ap (λ o. Some o) c.in-Lambda.is))

pub member_parameter-requires-clause-read : goal.member_parameter-requires-clause-read
member_parameter-requires-clause-read g c =
    member-parameter-read _ c.args.self.now c.in-Member.mark c.in-Member.to
    (value-element _ c.args.self.now c.args.is_reference (Open.Member c.in-Member.mark c.in-Member.to)
    c.requires.writing (c.requires.waits ∙ ap (λ o. Some o) c.in-Member.is))

pub finish-requires : goal.finish-requires
finish-requires g c =
    special-read _ c.args.self.now
    (value-element _ c.args.self.now c.args.is_reference Open.Special c.requires.writing (c.requires.waits ∙ ap (λ o. Some o) c.in-Special.is))

pub derived_ended-requires-clause-read : goal.derived_ended-requires-clause-read
derived_ended-requires-clause-read g c = value-element _ c.args.self.now c.args.is_reference Open.Derived c.requires.writing (c.requires.waits ∙ ap (λ o. Some o) c.in-Derived.is)

pub base_ended-requires-clause-read : goal.base_ended-requires-clause-read
base_ended-requires-clause-read g c =
    value-element _ c.args.self.now c.args.is_reference (Open.Base c.in-Base.to) c.requires.writing (c.requires.waits ∙ ap (λ o. Some o) c.in-Base.is)

pub enumerator-requires-clause-awaits : goal.enumerator-requires-clause-awaits
enumerator-requires-clause-awaits g c = value-enumerator _ c.args.self.now c.args.is_reference c.requires.writing (c.requires.waits ∙ ap (λ o. Some o) c.in-Enumerator.is)

pub returns-in_default : goal.returns-in_default
returns-in_default g c =
    argument-read _ c.args.self.now c.args.entry (value-element _ c.args.self.now c.args.is_reference c.args.entry c.requires.writing c.requires.waits)
    (takes-elements c.args.entry c.requires.others c.in_default.not-Returned c.in_default.not-Signature c.in_default.not-Special c.in_default.not-Derived c.in_default.not-Base c.in_default.not-Enumerator
    c.in_default.not-Enclosing c.in_default.not-EnclosingInstance c.in_default.not-EnclosingFront c.in_default.not-Argument c.in_default.not-Lambda c.in_default.not-Member c.in_default.not-Element c.in_default.not-Array
    c.in_default.not-Address c.in_default.not-AddressedFront c.in_default.not-Addressed c.in_default.not-ArgumentEnumerator)
