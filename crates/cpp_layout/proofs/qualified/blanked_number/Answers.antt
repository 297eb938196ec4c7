use Rattle.cpp_layout.proofs.Typing.{blanked-some, blanked-none}
use Rattle.cpp_layout.proofs.qualified.blanked_number.Goals as goal

pub returns-clause-some : goal.returns-clause-some
returns-clause-some c = blanked-some c.args.qualifiers c.number.result c.number.ensures.is

pub returns-clause-none : goal.returns-clause-none
returns-clause-none c = blanked-none c.args.qualifiers c.number.result c.number.ensures.is
