use Rattle.std.proofs.Common.{List, ℕ, Bor, map, inr, refl}
use Rattle.sym_command.proofs.PageLemmas.{OnErr-anyway}
use Rattle.symfilt_command.proofs.CommandLemmas.{filtered-stopped, filtered-whole}
use Rattle.symfilt_command.proofs.command.run_over.Goals as goal

pub returns-in_err-filter_asked-in-Filter-clause-err : goal.returns-in_err-filter_asked-in-Filter-clause-err
returns-in_err-filter_asked-in-Filter-clause-err g c =
    OnErr-anyway c.from_residual-in_err-filter_asked-in-Filter.result _ (inr (filtered-stopped (map (λ (word : Bor (List ℕ)). word.now) c.args.words.now) c.in_ok-status.field-0 c.in-Filter.filtering
    (g.S.Source.coming c.args.input.now) (g.S.Source.coming c.filter_asked.new.input) (g.W.Sink.taken c.args.out.now) (g.W.Sink.taken c.run_to.new.out) (g.W.Sink.taken c.filter_asked.new.out)
    (g.E.Sink.taken c.args.err.now) (g.E.Sink.taken c.run_to.new.err) c.in-Filter.is c.in_ok-status.ensures.ok c.in_err-filter_asked-in-Filter.ensures.err))

pub returns-in_ok-filter_asked-in-Filter-clause-ok : goal.returns-in_ok-filter_asked-in-Filter-clause-ok
returns-in_ok-filter_asked-in-Filter-clause-ok g c =
    inr (
      refl,
      filtered-whole (map (λ (word : Bor (List ℕ)). word.now) c.args.words.now) c.in_ok-status.field-0 c.in-Filter.filtering
          (g.S.Source.coming c.args.input.now) (g.S.Source.coming c.filter_asked.new.input) (g.W.Sink.taken c.args.out.now) (g.W.Sink.taken c.run_to.new.out) (g.W.Sink.taken c.filter_asked.new.out)
          (g.E.Sink.taken c.args.err.now) (g.E.Sink.taken c.run_to.new.err) c.in_ok-filter_asked-in-Filter.field-0 c.in-Filter.is c.in_ok-status.ensures.ok c.in_ok-filter_asked-in-Filter.ensures.ok,
    )
