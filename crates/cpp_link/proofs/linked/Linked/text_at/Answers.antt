use Rattle.cpp_link.proofs.Basics.{refl, ap, cpp, value_of}
use Rattle.cpp_term.specs.Values as values
use Rattle.cpp_link.proofs.linked.Linked.text_at.Goals as goal

pub returns : goal.returns
unfolding cpp value_of
returns c state t place row holds =
    (values.text t.own, state, refl, record { there = (c.requires.from, c.requires.to); is = ap (λ bytes. values.text bytes) row.own }, holds)
