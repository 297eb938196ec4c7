use Rattle.std.proofs.Common.{◌==◌, refl, inl, inr, arith, ap, ◌∙◌}
use Rattle.sym_print.proofs.printer.Printer.step.Goals as goal

pub returns-in-Some-clause-may_come : goal.returns-in-Some-clause-may_come
returns-in-Some-clause-may_come g c = c.requires

pub returns-in-Some-clause-text : goal.returns-in-Some-clause-text
returns-in-Some-clause-text g c = refl

pub returns-in-Some-clause-cost : goal.returns-in-Some-clause-cost
returns-in-Some-clause-cost g c = refl

pub returns-in-Some-clause-limit : goal.returns-in-Some-clause-limit
returns-in-Some-clause-limit g c = refl

pub returns-in-Some-clause-refuses : goal.returns-in-Some-clause-refuses
returns-in-Some-clause-refuses g c = c.in-Some.is

pub returns-in-Some-clause-own : goal.returns-in-Some-clause-own
returns-in-Some-clause-own g c = inl c.in-Some.is

pub returns-in-Some-clause-entry_room : goal.returns-in-Some-clause-entry_room
returns-in-Some-clause-entry_room g c = omega arith

pub returns-in-Some-clause-text_room : goal.returns-in-Some-clause-text_room
returns-in-Some-clause-text_room g c = omega arith

pub returns-in-Some-clause-done : goal.returns-in-Some-clause-done
returns-in-Some-clause-done g c = tt

pub returns-in-Some-clause-goes_on : goal.returns-in-Some-clause-goes_on
returns-in-Some-clause-goes_on g c = tt

pub returns-in-Some-clause-remaining : goal.returns-in-Some-clause-remaining
returns-in-Some-clause-remaining g c = tt

pub returns-in-Ok-clause-may_come : goal.returns-in-Ok-clause-may_come
returns-in-Ok-clause-may_come g c = c.take.ensures.may_come

pub returns-in-Ok-clause-text : goal.returns-in-Ok-clause-text
returns-in-Ok-clause-text g c = c.take.ensures.text

pub returns-in-Ok-clause-cost : goal.returns-in-Ok-clause-cost
returns-in-Ok-clause-cost g c = c.take.ensures.cost

pub returns-in-Ok-clause-limit : goal.returns-in-Ok-clause-limit
returns-in-Ok-clause-limit g c = c.take.ensures.limit

pub returns-in-Ok-clause-entry_room : goal.returns-in-Ok-clause-entry_room
returns-in-Ok-clause-entry_room g c = c.take.ensures.entry_room

pub returns-in-Ok-clause-text_room : goal.returns-in-Ok-clause-text_room
returns-in-Ok-clause-text_room g c = c.take.ensures.text_room

pub returns-in-Ok-clause-goes_on : goal.returns-in-Ok-clause-goes_on
returns-in-Ok-clause-goes_on g c = c.take.ensures.goes_on

pub returns-in-Ok-clause-remaining : goal.returns-in-Ok-clause-remaining
returns-in-Ok-clause-remaining g c = c.take.ensures.remaining

pub returns-in-Ok-clause-refuses : goal.returns-in-Ok-clause-refuses
returns-in-Ok-clause-refuses g c = tt

pub returns-in-Ok-clause-own : goal.returns-in-Ok-clause-own
returns-in-Ok-clause-own g c = tt

pub returns-in-Err-clause-may_come : goal.returns-in-Err-clause-may_come
returns-in-Err-clause-may_come g c = c.take.ensures.may_come

pub returns-in-Err-clause-text : goal.returns-in-Err-clause-text
returns-in-Err-clause-text g c = c.take.ensures.text

pub returns-in-Err-clause-cost : goal.returns-in-Err-clause-cost
returns-in-Err-clause-cost g c = c.take.ensures.cost

pub returns-in-Err-clause-limit : goal.returns-in-Err-clause-limit
returns-in-Err-clause-limit g c = c.take.ensures.limit

pub returns-in-Err-clause-entry_room : goal.returns-in-Err-clause-entry_room
returns-in-Err-clause-entry_room g c = c.take.ensures.entry_room

pub returns-in-Err-clause-text_room : goal.returns-in-Err-clause-text_room
returns-in-Err-clause-text_room g c = c.take.ensures.text_room

pub returns-in-Err-clause-done : goal.returns-in-Err-clause-done
returns-in-Err-clause-done g c = tt

pub returns-in-Err-clause-goes_on : goal.returns-in-Err-clause-goes_on
returns-in-Err-clause-goes_on g c = tt

pub returns-in-Err-clause-refuses : goal.returns-in-Err-clause-refuses
returns-in-Err-clause-refuses g c = refl

pub returns-in-Err-clause-remaining : goal.returns-in-Err-clause-remaining
returns-in-Err-clause-remaining g c = tt

pub returns-in-Err-clause-own : goal.returns-in-Err-clause-own
returns-in-Err-clause-own g c = inr c.in-Err.ensures.own

pub returns-in-Ok-clause-done : goal.returns-in-Ok-clause-done
returns-in-Ok-clause-done g c = c.is_empty.ensures ∙ ap (λ n. n == 0) c.take.new.self.stack.ok.0

pub returns-in-Some-clause-peak : goal.returns-in-Some-clause-peak
returns-in-Some-clause-peak g c = omega arith

pub returns-in-Some-clause-bounded : goal.returns-in-Some-clause-bounded
returns-in-Some-clause-bounded g c = omega arith

pub returns-in-Ok-clause-peak : goal.returns-in-Ok-clause-peak
returns-in-Ok-clause-peak g c = c.take.ensures.peak

pub returns-in-Ok-clause-bounded : goal.returns-in-Ok-clause-bounded
returns-in-Ok-clause-bounded g c = c.take.ensures.bounded

pub returns-in-Err-clause-peak : goal.returns-in-Err-clause-peak
returns-in-Err-clause-peak g c = c.take.ensures.peak

pub returns-in-Err-clause-bounded : goal.returns-in-Err-clause-bounded
returns-in-Err-clause-bounded g c = c.take.ensures.bounded
