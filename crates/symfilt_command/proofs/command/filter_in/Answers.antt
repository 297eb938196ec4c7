use Rattle.std.proofs.Common.{true, false}
use Rattle.std.specs.Prelude.{IfOk, OnErr}
use Rattle.sym_filter.specs.Streams.{FiltersAllAt, FiltersFrontAt}
use Rattle.sym_short.specs.Rewriting.{answers_as}
use Rattle.symfilt_command.proofs.CommandLemmas.{by-legacy}
use Rattle.symfilt_command.proofs.command.filter_in.Goals as goal

pub returns-then-legacy-clause-ok : goal.returns-then-legacy-clause-ok
returns-then-legacy-clause-ok g c =
    let by = c.args.filtering in
    by-legacy (λ answers. IfOk c.filter_as.result (λ tally. FiltersAllAt by.letters (answers_as by.texts by.legacy answers) (g.S.Source.coming c.args.input.now) (g.S.Source.coming c.filter_as.new.input) (g.W.Sink.taken c.args.out.now) (g.W.Sink.taken c.filter_as.new.out) tally))
    g.C.Mangling.mangled by.legacy true by.limit by.detail c.if-legacy.true c.filter_as.ensures.ok

pub returns-then-legacy-clause-err : goal.returns-then-legacy-clause-err
returns-then-legacy-clause-err g c =
    let by = c.args.filtering in
    by-legacy (λ answers. OnErr c.filter_as.result (FiltersFrontAt by.letters (answers_as by.texts by.legacy answers) (g.S.Source.coming c.args.input.now) (g.S.Source.coming c.filter_as.new.input) (g.W.Sink.taken c.args.out.now) (g.W.Sink.taken c.filter_as.new.out)))
    g.C.Mangling.mangled by.legacy true by.limit by.detail c.if-legacy.true c.filter_as.ensures.err

pub returns-clause-ok : goal.returns-clause-ok
returns-clause-ok g c =
    let by = c.args.filtering in
    by-legacy (λ answers. IfOk c.filter_as-2.result (λ tally. FiltersAllAt by.letters (answers_as by.texts by.legacy answers) (g.S.Source.coming c.args.input.now) (g.S.Source.coming c.filter_as-2.new.input) (g.W.Sink.taken c.args.out.now) (g.W.Sink.taken c.filter_as-2.new.out) tally))
    g.C.Mangling.mangled by.legacy false by.limit by.detail c.if-legacy.false c.filter_as-2.ensures.ok

pub returns-clause-err : goal.returns-clause-err
returns-clause-err g c =
    let by = c.args.filtering in
    by-legacy (λ answers. OnErr c.filter_as-2.result (FiltersFrontAt by.letters (answers_as by.texts by.legacy answers) (g.S.Source.coming c.args.input.now) (g.S.Source.coming c.filter_as-2.new.input) (g.W.Sink.taken c.args.out.now) (g.W.Sink.taken c.filter_as-2.new.out)))
    g.C.Mangling.mangled by.legacy false by.limit by.detail c.if-legacy.false c.filter_as-2.ensures.err
