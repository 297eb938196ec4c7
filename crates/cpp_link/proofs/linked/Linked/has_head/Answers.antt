use Rattle.cpp_link.proofs.Basics.{refl, ◌∙◌, may_be, has_head, both, maybe_candidate}
use Rattle.cpp_link.proofs.linked.Linked.has_head.Goals as goal

pub returns-in_default : goal.returns-in_default
unfolding has_head maybe_candidate
returns-in_default c = rw c.in_default.is refl

pub returns : goal.returns
unfolding has_head maybe_candidate
returns c = rw c.in-Some.is (c.may_be.ensures ∙ both (λ a b. may_be a b) c.head_at-expected.ensures c.head_at-own.ensures)
