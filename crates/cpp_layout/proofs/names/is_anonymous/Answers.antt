use Rattle.cpp_layout.proofs.Basics.{arith, length, sym, ◌∙◌, eqb-true}
use Rattle.cpp_layout.proofs.Naming.{begins, begins-otherwise}
use Rattle.cpp_layout.proofs.names.is_anonymous.Goals as goal
use Rattle.cpp_layout.proofs.names.is_anonymous.Goals.{then-is_empty-via-then-is_empty, then-is_empty-via-else-is_empty+then-name-ne95}

pub returns-then-is_empty : goal.returns-then-is_empty
returns-then-is_empty c = sym (begins-otherwise _ _ _ (λ some. elim c.then-is_empty.branch [
  | then-is_empty-via-then-is_empty w ↦ absurd (omega (arith, some, eqb-true (length c.args.name.now) 0 (sym c.is_empty.ensures ∙ w.if-is_empty.true)))
  | then-is_empty-via-else-is_empty+then-name-ne95 w ↦ w.if-name-ne95.true
]))

pub returns : goal.returns
returns c = c.starts_with.ensures.value ∙ sym (begins _ _)
