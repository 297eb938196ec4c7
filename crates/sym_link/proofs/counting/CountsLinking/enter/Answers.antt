use Rattle.sym_link.proofs.Basics.{sym, refl, counted_language}
use Rattle.sym_link.proofs.Cases.{plain_next}
use Rattle.sym_link.proofs.Lists.{taken_dropped}
use Rattle.sym_link.proofs.counting.CountsLinking.enter.Goals as goal

pub returns-clause-opens : goal.returns-clause-opens
returns-clause-opens c around known from left state rule taken inner rest is left_is row_is after =
    rw (plain_next counted_language around known from left state)
    (_, refl, tt, is.holds, _, sym (taken_dropped _ _), is.parts)
