use Rattle.cpp_direct.proofs.ForAnswers.{arith, true, front-read, type-led, waits-last}
use Rattle.cpp_direct.proofs.direct.Direct.pass_dependent.Goals as goal

pub instance_parameter-requires-clause-read : goal.instance_parameter-requires-clause-read
instance_parameter-requires-clause-read g c = (
  c.in-EnclosingInstance.argument,
  type-led c.args.self.now c.requires.writing.0 true (omega arith) c.requires.writing.1
      (waits-last _ _ _ _ c.as_slice.ensures c.in_ok-entry.ensures.value c.in-EnclosingInstance.is) (λ scope rest os text h. h) (λ scope own front name h. h.1.given),
)

pub addressed_front-requires-clause-read : goal.addressed_front-requires-clause-read
addressed_front-requires-clause-read g c =
    front-read c.args.self.now c.requires.writing.0 true c.requires.writing.1
    (waits-last _ _ _ _ c.as_slice.ensures c.in_ok-entry.ensures.value c.in-AddressedFront.is) (λ scope rest os text h. h)

pub enclosing_front-requires-clause-read : goal.enclosing_front-requires-clause-read
enclosing_front-requires-clause-read g c =
    front-read c.args.self.now c.requires.writing.0 true c.requires.writing.1
    (waits-last _ _ _ _ c.as_slice.ensures c.in_ok-entry.ensures.value c.in-EnclosingFront.is) (λ scope rest os text h. h)

pub addressed_parameter-requires-clause-read : goal.addressed_parameter-requires-clause-read
addressed_parameter-requires-clause-read g c = (
  c.in-Addressed.argument,
  type-led c.args.self.now c.requires.writing.0 true (omega arith) c.requires.writing.1
      (waits-last _ _ _ _ c.as_slice.ensures c.in_ok-entry.ensures.value c.in-Addressed.is) (λ scope rest os text h. h) (λ scope own front name h. h.given),
)
