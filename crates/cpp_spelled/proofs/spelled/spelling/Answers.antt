use Rattle.std.proofs.Common.{sym, subst}
use Rattle.sym_parts.specs.Within.{IsWithin}
use Rattle.cpp_spelled.proofs.Bounded.{spelling_within}
use Rattle.cpp_spelled.proofs.spelled.spelling.Goals as goal

pub returns-clause-within : goal.returns-clause-within
returns-clause-within c = λ n all. subst (IsWithin n) (sym c.in_ok-found.ensures.spelling) (spelling_within n c.args.rows.now c.args.returns all)
