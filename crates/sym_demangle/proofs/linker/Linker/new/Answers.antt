use Rattle.std.proofs.Common.{arith, sym}
use Rattle.sym_demangle.proofs.Standing.{begun}
use Rattle.sym_demangle.proofs.linker.Linker.new.Goals as goal

pub returns-clause-nodes : goal.returns-clause-nodes
returns-clause-nodes g c =
    let counts = g.met.M.Mangling.counts_nodes c.deref.result.now in
    omega (arith, counts.few, counts.most c.restart.new.linked, c.in_ok-restart.ensures.begins.size)

pub invariant_of-result : goal.invariant_of-result
invariant_of-result g c =
    let s = c.args.bytes.items in
    rw (c.new.ensures.steps, c.new.ensures.refused, c.new.ensures.next, c.new.ensures.frames, c.new.ensures.parts)
    (begun (g.M.Linked.Linking.view s) g.M.Mangling.mangled.table s c.args.shape.rows c.args.shape.steps c.restart.new.linked
    (g.met.M.Mangling.view_table s) c.requires.fits c.requires.rows c.requires.few (rw (sym c.deref.ensures.value) c.in_ok-restart.ensures.begins))
