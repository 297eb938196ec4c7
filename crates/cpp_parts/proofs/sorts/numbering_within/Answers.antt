use Rattle.cpp_parts.proofs.Basics.{ap, sym, ◌∙◌, plain_tree, table_of}
use Rattle.cpp_parts.proofs.Sorting.{inside-counted, inside-other, inside-pack, is-pack}
use Rattle.cpp_parts.specs.declared.numbering.Numbering.TheVariants as numbering
use Rattle.cpp_parts.proofs.sorts.numbering_within.Goals as goal

pub returns-then-node-eq-PACK-clause-is : goal.returns-then-node-eq-PACK-clause-is
returns-then-node-eq-PACK-clause-is c =
    inside-pack c.args.numbering (plain_tree (table_of c.args.y.now) c.args.node) _ _ c.in-Items.is
    (is-pack (plain_tree (table_of c.args.y.now) c.args.node) c.node.ensures.tree (sym c.node.ensures.fields.production ∙ c.if-node-eq-PACK.true))

pub returns-else-node-eq-PACK-clause-is : goal.returns-else-node-eq-PACK-clause-is
returns-else-node-eq-PACK-clause-is c =
    ap numbering.Alike c.ordinal_of-ordinal.ensures
    ∙ inside-other c.args.numbering (plain_tree (table_of c.args.y.now) c.args.node) (λ p. c.if-node-eq-PACK.false (c.node.ensures.fields.production ∙ p))

pub returns-in_default-clause-is : goal.returns-in_default-clause-is
returns-in_default-clause-is c =
    ap numbering.Alike c.ordinal_of-ordinal.ensures ∙ inside-counted c.args.numbering (plain_tree (table_of c.args.y.now) c.args.node) c.in_default.not-Items
