use Rattle.std.proofs.Common.{arith}
use Rattle.cpp_link.proofs.linked.Linked.enclosed_argument.Goals as goal

pub returns-then-ends_arguments-clause-there : goal.returns-then-ends_arguments-clause-there
returns-then-ends_arguments-clause-there c = rw c.made.ensures (c.in_parentheses.ensures.there _ _ _ (omega (arith, c.requires.table.fixed)) (c.tree-expression.ensures.there c.requires.there))
