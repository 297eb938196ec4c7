use Rattle.demangle_command.proofs.Basics.{[], IfOk-weaker, on_err_weaker, Appends-none, PutsFront-none}
use Rattle.demangle_command.proofs.command.filter_by.Goals as goal

pub returns-then-why-clause-ok : goal.returns-then-why-clause-ok
returns-then-why-clause-ok g c = rw c.if-why.true c.filter_saying.ensures.ok

pub returns-then-why-clause-err : goal.returns-then-why-clause-err
returns-then-why-clause-err g c = rw c.if-why.true c.filter_saying.ensures.err

pub returns-clause-ok : goal.returns-clause-ok
returns-clause-ok g c = rw c.if-why.false (IfOk-weaker c.filter_words.result _ _ (λ tally all. record {
  text = all.text;
  reads = all.reads;
  ends = all.ends;
  writes = all.writes;
  counts = all.counts;
  says = Appends-none (g.E.Sink.taken c.args.err.now);
}) c.filter_words.ensures.ok)

pub returns-clause-err : goal.returns-clause-err
returns-clause-err g c = rw c.if-why.false (on_err_weaker c.filter_words.result (λ front. record {
  text = front.text;
  reads = front.reads;
  writes = record { gone = front.gone; writes = front.writes; begins = front.begins };
  says = PutsFront-none (g.E.Sink.taken c.args.err.now) [] [];
}) c.filter_words.ensures.err)
