use Rattle.sym_calls.specs.Calls.{ending_of}
use Rattle.sym_calls.proofs.Telling.{told-within}
use Rattle.sym_calls.proofs.texts.told_of.Goals as goal

pub returns-clause-told : goal.returns-clause-told
returns-clause-told g c = c.or_type.ensures c.args.buffer.now c.name_with-outcome.ensures

pub returns-clause-within : goal.returns-clause-within
returns-clause-within g c =
    told-within (g.D.Demangler.answer c.args.demangler.now) c.args.asked c.args.name.now c.args.buffer.now (ending_of c.or_type.result c.or_type.new.buffer) (c.or_type.ensures c.args.buffer.now c.name_with-outcome.ensures)
