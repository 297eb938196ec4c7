use Rattle.std.proofs.lemmas.Result.{IfOk-weaker, on_err_weaker}
use Rattle.sym_filter.proofs.filtering.filter_words.Goals as goal

pub returns-clause-ok : goal.returns-clause-ok
returns-clause-ok g c =
    IfOk-weaker c.filter_telling.result _ _ (λ tally told. record {
      text = told.text;
      reads = told.reads;
      ends = told.ends;
      writes = told.writes;
      counts = told.counts;
    }) c.filter_telling.ensures.ok

pub returns-clause-err : goal.returns-clause-err
returns-clause-err g c =
    on_err_weaker c.filter_telling.result (λ told. record {
      text = told.text;
      gone = told.gone;
      reads = told.reads;
      writes = told.writes;
      begins = told.begins;
    }) c.filter_telling.ensures.err
