use Rattle.demangle_command.proofs.Basics.{◌∙◌, ap, sym, IfOk-weaker, on_err_weaker}
use Rattle.sym_filter.specs.Entries.{entries_of}
use Rattle.sym_filter.specs.declared.kinds.Letters.TheVariants.{Within}
use Rattle.demangle_names.specs.SayingLaws.{text-begun, text-said}
use Rattle.demangle_names.specs.Reasons.{reasons_of}
use Rattle.demangle_command.proofs.command.filter_saying.Goals as goal

pub returns-clause-ok : goal.returns-clause-ok
returns-clause-ok g c = IfOk-weaker c.filter_telling.result _ _ (λ tally told.
    let answers = g.D.Demangler.answer c.args.demangler.now in
    let made = c.new-report.ensures in record {
      text = told.text;
      reads = told.reads;
      ends = told.ends;
      writes = told.writes;
      counts = told.counts;
      says = text-said (reasons_of answers) _ _ _ _ _ _ _ _ _ _ (entries_of Within answers told.text) (ap (λ reasons. reasons_of (g.D.Demangler.answer reasons.demangler.now)) made.says) made.first (ap g.E.Sink.taken made.out)
          (ap g.E.Sink.taken (sym (c.err-1.given.1 (sym made.same_reference ∙ told.gives.0)))) told.gives.1;
    }) c.filter_telling.ensures.ok

pub returns-clause-err : goal.returns-clause-err
returns-clause-err g c = on_err_weaker c.filter_telling.result (λ told.
    let answers = g.D.Demangler.answer c.args.demangler.now in
    let made = c.new-report.ensures in record {
      text = told.text;
      reads = told.reads;
      writes = record { gone = told.gone; writes = told.writes; begins = told.begins };
      says = text-begun (reasons_of answers) _ _ _ _ _ _ (entries_of Within answers told.text) (ap (λ reasons. reasons_of (g.D.Demangler.answer reasons.demangler.now)) made.says) made.first (ap g.E.Sink.taken made.out)
          (ap g.E.Sink.taken (sym (c.err-1.given.1 (sym made.same_reference ∙ told.gives.0)))) told.gives.1;
    }) c.filter_telling.ensures.err
