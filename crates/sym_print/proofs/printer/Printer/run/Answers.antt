use Rattle.std.proofs.Common.{refl, inl, arith}
use Rattle.sym_print.proofs.printer.Printer.run.Goals as goal

pub returns-in-Some-clause-may_come : goal.returns-in-Some-clause-may_come
returns-in-Some-clause-may_come g c = c.requires

pub returns-in-Some-clause-text : goal.returns-in-Some-clause-text
returns-in-Some-clause-text g c = refl

pub returns-in-Some-clause-cost : goal.returns-in-Some-clause-cost
returns-in-Some-clause-cost g c = refl

pub returns-in-Some-clause-limit : goal.returns-in-Some-clause-limit
returns-in-Some-clause-limit g c = refl

pub returns-in-Some-clause-refuses : goal.returns-in-Some-clause-refuses
returns-in-Some-clause-refuses g c = c.in-Some.is

pub returns-in-Some-clause-own : goal.returns-in-Some-clause-own
returns-in-Some-clause-own g c = inl c.in-Some.is

pub returns-in-Some-clause-entry_room : goal.returns-in-Some-clause-entry_room
returns-in-Some-clause-entry_room g c = omega arith

pub returns-in-Some-clause-text_room : goal.returns-in-Some-clause-text_room
returns-in-Some-clause-text_room g c = omega arith

pub returns-in-Some-clause-done : goal.returns-in-Some-clause-done
returns-in-Some-clause-done g c = tt

pub returns-in-Some-clause-counted : goal.returns-in-Some-clause-counted
returns-in-Some-clause-counted g c = tt

pub returns-clause-may_come : goal.returns-clause-may_come
returns-clause-may_come g c = c.print_stack-outcome.ensures.may_come

pub returns-clause-text : goal.returns-clause-text
returns-clause-text g c = c.print_stack-outcome.ensures.text

pub returns-clause-cost : goal.returns-clause-cost
returns-clause-cost g c = c.print_stack-outcome.ensures.cost

pub returns-clause-limit : goal.returns-clause-limit
returns-clause-limit g c = c.print_stack-outcome.ensures.limit

pub returns-clause-entry_room : goal.returns-clause-entry_room
returns-clause-entry_room g c = c.print_stack-outcome.ensures.entry_room

pub returns-clause-text_room : goal.returns-clause-text_room
returns-clause-text_room g c = c.print_stack-outcome.ensures.text_room

pub returns-in-Some-clause-peak : goal.returns-in-Some-clause-peak
returns-in-Some-clause-peak g c = omega arith

pub returns-in-Some-clause-bounded : goal.returns-in-Some-clause-bounded
returns-in-Some-clause-bounded g c = omega arith

pub returns-clause-peak : goal.returns-clause-peak
returns-clause-peak g c = c.print_stack-outcome.ensures.peak

pub returns-clause-bounded : goal.returns-clause-bounded
returns-clause-bounded g c = c.print_stack-outcome.ensures.bounded
