use Rattle.cpp_parts.proofs.Basics.{◌∙◌, sym, subst, ap, plain_tree, table_of, inner_part_by}
use Rattle.cpp_parts.proofs.Kinding.{IsInside, inner-name}
use Rattle.cpp_parts.proofs.kinds.inner_node.Goals as goal

pub part-requires-clause-part : goal.part-requires-clause-part
part-requires-clause-part c =
    let t = plain_tree (table_of c.args.y.now) c.args.node in
    (subst (IsInside t) (ap inner_part_by (sym c.node.ensures.fields.production) ∙ sym c.inner_part.ensures ∙ c.in-Some.is) (inner-name t)).0

pub returns-in-Some : goal.returns-in-Some
returns-in-Some c =
    let t = plain_tree (table_of c.args.y.now) c.args.node in (
      (subst (IsInside t) (ap inner_part_by (sym c.node.ensures.fields.production) ∙ sym c.inner_part.ensures ∙ c.in-Some.is) (inner-name t)).1 (plain_tree (table_of c.args.y.now) c.part.result) c.part.ensures.part,
      c.part.ensures.earlier,
    )

pub returns-in-None : goal.returns-in-None
returns-in-None c =
    let t = plain_tree (table_of c.args.y.now) c.args.node in
    subst (IsInside t) (ap inner_part_by (sym c.node.ensures.fields.production) ∙ sym c.inner_part.ensures ∙ c.in-None.is) (inner-name t)
