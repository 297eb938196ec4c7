use Rattle.wide_rows.proofs.Right.{right_0, right_1, right_2}
use Rattle.wide_rows.proofs.laws.symbols_are_read.Goals as goal

pub returns-clause-first : goal.returns-clause-first
returns-clause-first c = right_0

pub returns-clause-second : goal.returns-clause-second
returns-clause-second c = right_1

pub returns-clause-third : goal.returns-clause-third
returns-clause-third c = right_2
