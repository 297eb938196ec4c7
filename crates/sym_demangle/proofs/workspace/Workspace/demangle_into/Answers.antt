use Rattle.sym_demangle.proofs.workspace.Workspace.demangle_into.Goals as goal

pub returns-then-write-clause-text : goal.returns-then-write-clause-text
returns-then-write-clause-text g c =
    (c.text.result.now, c.in_ok-extend_from_slice.ensures.items, rw c.text.ensures (c.write.ensures c.if-write.true))
