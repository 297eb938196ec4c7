use Rattle.sym_calls.proofs.text.text_by.Goals as goal

pub returns : goal.returns
returns g c = c.or_type.ensures c.args.buffer.now c.name_by-outcome.ensures
