use Rattle.std.proofs.Common.{◌∙◌, sym, ap}
use Rattle.std.specs.Prelude.{option_map}
use Rattle.sym_command.proofs.PageLemmas.{OnErr-anyway}
use Rattle.type_names.specs.Types.{type_for}
use Rattle.demangle_names.proofs.NameLemmas.{line-front, nothing-front}
use Rattle.demangle_names.proofs.names.answer_name.Goals as goal

pub returns-in_err-text-clause-err : goal.returns-in_err-text-clause-err
returns-in_err-text-clause-err g c =
    let answers = g.D.Demangler.answer c.args.demangler.now in
    OnErr-anyway c.from_residual.result _ (nothing-front answers c.args.options.why c.args.name.now (type_for c.args.options.types answers c.args.name.now) (g.W.Sink.taken c.args.out.now) (g.E.Sink.taken c.args.err.now))

pub returns-in-None-clause-err : goal.returns-in-None-clause-err
returns-in-None-clause-err g c =
    let answers = g.D.Demangler.answer c.args.demangler.now in
    line-front answers c.args.options.why c.args.name.now (type_for c.args.options.types answers c.args.name.now) (g.W.Sink.taken c.args.out.now) (g.W.Sink.taken c.answer_line.new.out)
    (g.E.Sink.taken c.args.err.now) (g.E.Sink.taken c.answer_line.new.err) c.answer_line.result
    (sym c.in_ok-text.ensures ∙ ap (option_map (λ text. text.items)) c.in-None.is) c.answer_line.ensures.err
