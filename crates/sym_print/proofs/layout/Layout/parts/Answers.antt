use Rattle.sym_print.proofs.layout.Layout.parts.Goals as goal

pub returns : goal.returns
returns g c = record { parts = c.fill.ensures.parts; may_come = c.fill.ensures.may_come }
