use Rattle.cpp_grammar.proofs.Basics.{sym, arith, slice_get_past, kinds}
use Rattle.cpp_grammar.proofs.kind.kind_of.Goals as goal

pub returns-in_default : goal.returns-in_default
unfolding kinds
returns-in_default c = sym (slice_get_past kinds c.args.number (omega arith))
