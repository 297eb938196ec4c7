use Rattle.sym_core.proofs.NameTokens.{name_unbegun}
use Rattle.sym_core.proofs.tokens.find_name.Goals as goal

pub returns-in-Err : goal.returns-in-Err
returns-in-Err c = (c.in-Err.ensures.number.0, name_unbegun c.args.names _ _ c.in-Err.ensures.number.1)
