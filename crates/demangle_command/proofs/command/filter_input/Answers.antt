use Rattle.std.proofs.Common.{inl, inr}
use Rattle.demangle_command.proofs.command.filter_input.Goals as goal

pub returns-in-Err-clause-err : goal.returns-in-Err-clause-err
returns-in-Err-clause-err g c = inl c.in-Err.ensures.err

pub returns-in-Err-say_summary-clause-err : goal.returns-in-Err-say_summary-clause-err
returns-in-Err-say_summary-clause-err g c = inr (c.in-Ok.tally, g.E.Sink.taken c.filter_by.new.err, c.in-Ok.ensures.ok, c.in-Err-say_summary.ensures.err)
