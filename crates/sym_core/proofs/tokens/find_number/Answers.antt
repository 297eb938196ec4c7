use Rattle.sym_core.proofs.NumberTokens.{number_read, number_breaks}
use Rattle.sym_core.proofs.tokens.find_number.Goals as goal

pub returns-in-Ok : goal.returns-in-Ok
returns-in-Ok c = number_read c.args.kind c.args.bytes.now c.args.at c.in-Ok.digits _ c.in-Ok.ensures.number c.behind_number.ensures

pub returns-in-Err : goal.returns-in-Err
returns-in-Err c = (c.in-Err.ensures.number.0, number_breaks c.args.kind c.args.bytes.now c.args.at c.in-Err.bad c.in-Err.ensures.number)
