use Rattle.cpp_parts.proofs.Basics.{◌∙◌, sym, ap, plain_tree, table_of, is_absent}
use Rattle.cpp_parts.proofs.Sorting.{is-absent, absent-other}
use Rattle.cpp_parts.proofs.sorts.returns_nothing.Goals as goal

pub returns-then-node-eq-ABSENT : goal.returns-then-node-eq-ABSENT
unfolding is_absent
returns-then-node-eq-ABSENT c =
    sym (ap is_absent (is-absent (plain_tree (table_of c.args.y.now) c.args.returned) c.node.ensures.tree (sym c.node.ensures.fields.production ∙ c.if-node-eq-ABSENT.true)))

pub returns : goal.returns
returns c = sym (absent-other (plain_tree (table_of c.args.y.now) c.args.returned) (λ p. c.if-node-eq-ABSENT.false (c.node.ensures.fields.production ∙ p)))
