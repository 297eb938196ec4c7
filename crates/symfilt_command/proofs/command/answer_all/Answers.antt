use Rattle.std.proofs.Common.{List, ℕ, Bor, map, ◌∙◌, sym}
use Rattle.clap.specs.Words.{found_of, rows_of}
use Rattle.sym_command.proofs.CommandLemmas.{no-words}
use Rattle.sym_command.proofs.PageLemmas.{OnErr-anyway}
use Rattle.symfilt_command.proofs.CommandLemmas.{answered-run, begun-run, refused-run, refused-stopped, some-words}
use Rattle.symfilt_command.proofs.command.answer_all.Goals as goal

pub returns-then-not-is_empty-clause-ok : goal.returns-then-not-is_empty-clause-ok
returns-then-not-is_empty-clause-ok g c =
    let symbols = c.symbols_of-symbols.result.now in
    answered-run (rows_of (found_of c.args.matches.now)) c.options_of-options.result (map (λ (symbol : Bor (List ℕ)). symbol.now) symbols) c.in_ok-status.status
    (g.W.Sink.taken c.args.out.now) (g.W.Sink.taken c.answer_symbols.new.out) (g.E.Sink.taken c.args.err.now) (g.E.Sink.taken c.answer_symbols.new.err)
    c.options_of-options.ensures c.symbols_of-symbols.ensures (some-words symbols (sym c.is_empty.ensures ∙ c.if-not-is_empty.true)) c.in_ok-status.ensures.ok

pub returns-in_err-status-clause-err : goal.returns-in_err-status-clause-err
returns-in_err-status-clause-err g c =
    OnErr-anyway c.from_residual.result _ (begun-run (rows_of (found_of c.args.matches.now)) c.options_of-options.result (map (λ (symbol : Bor (List ℕ)). symbol.now) c.symbols_of-symbols.result.now)
    (g.W.Sink.taken c.args.out.now) (g.W.Sink.taken c.answer_symbols.new.out) (g.E.Sink.taken c.args.err.now) (g.E.Sink.taken c.answer_symbols.new.err)
    c.options_of-options.ensures c.symbols_of-symbols.ensures c.in_err-status.ensures.err)

pub returns-in-None-clause-ok : goal.returns-in-None-clause-ok
returns-in-None-clause-ok g c =
    let symbols = c.symbols_of-symbols.result.now in
    let none = no-words symbols (sym c.is_empty.ensures ∙ c.if-not-is_empty.false) in
    refused-run (rows_of (found_of c.args.matches.now)) (g.W.Sink.taken c.args.out.now) (g.E.Sink.taken c.args.err.now) (g.E.Sink.taken c.refuse_run.new.err) c.refuse_run.result
    (c.options_of-options.result, c.options_of-options.ensures, sym c.symbols_of-symbols.ensures ∙ none, sym c.filtering_of.ensures ∙ c.in-None.is) c.refuse_run.ensures.wrong_use c.refuse_run.ensures.says

pub returns-in-None-clause-err : goal.returns-in-None-clause-err
returns-in-None-clause-err g c = refused-stopped (rows_of (found_of c.args.matches.now)) (g.W.Sink.taken c.args.out.now) (g.E.Sink.taken c.args.err.now) (g.E.Sink.taken c.refuse_run.new.err) c.refuse_run.result c.refuse_run.ensures.says
