use Rattle.std.proofs.Common.{refl, arith, ap, length}
use Rattle.sym_demangle.proofs.Standing.{linked_of, shape_steps, shape_nodes}
use Rattle.sym_demangle.proofs.linker.finished.Goals as goal

pub returns-clause-stands : goal.returns-clause-stands
returns-clause-stands g c =
    let is = c.requires in
    let s = c.args.bytes.items in
    let linked = linked_of g.M.Mangling.mangled.table (g.M.Linked.Linking.view s) s _ _ _ _ _ _ _ _ _ is _ _ refl (ap (λ rs. length rs) c.rows.ensures) (omega (arith, c.steps.ensures)) in (
      is.shape,
      is.is_tree,
      is.is_shape.spelled,
      c.finish.ensures.whole is.shape (rw c.deref.ensures.value linked),
    )

pub returns-clause-all_steps : goal.returns-clause-all_steps
returns-clause-all_steps g c =
    let is = c.requires in
    let s = c.args.bytes.items in
    shape_steps g.M.Mangling.mangled.table g.M.Mangling.mangled.lawful s s is.shape _ is.is_tree is.is_shape.spelled refl (is.all_steps refl)

pub returns-clause-nodes : goal.returns-clause-nodes
returns-clause-nodes g c =
    let is = c.requires in
    let s = c.args.bytes.items in
    let linked = linked_of g.M.Mangling.mangled.table (g.M.Linked.Linking.view s) s _ _ _ _ _ _ _ _ _ is _ _ refl (ap (λ rs. length rs) c.rows.ensures) (omega (arith, c.steps.ensures)) in
    shape_nodes g.M.Mangling.mangled.table g.M.Mangling.mangled.lawful g.M.Mangling.are_nodes s is.shape _
    is.is_tree is.is_shape.spelled
    (c.finish.ensures.nodes is.shape (rw c.deref.ensures.value linked))
