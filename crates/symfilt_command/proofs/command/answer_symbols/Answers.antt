use Rattle.std.proofs.Common.{List, ℕ, Bor, map}
use Rattle.std.specs.Prelude.{IfOk}
use Rattle.sym_command.specs.Command.{Took, AnswersWords}
use Rattle.sym_command.specs.declared.options.Asked.TheVariants.{Text}
use Rattle.symfilt_command.specs.Command.{answers_at, counting_at}
use Rattle.symfilt_command.proofs.CommandLemmas.{by-asked}
use Rattle.symfilt_command.proofs.command.answer_symbols.Goals as goal

pub returns-in-Text-clause-ok : goal.returns-in-Text-clause-ok
returns-in-Text-clause-ok g c =
    by-asked (λ asked. IfOk c.answer_in.result (λ status. Took (g.W.Sink.taken c.args.out.now) (g.W.Sink.taken c.answer_in.new.out) (g.E.Sink.taken c.args.err.now) (g.E.Sink.taken c.answer_in.new.err)
    (AnswersWords c.args.options.asked (answers_at asked c.args.options.texts c.args.options.legacy c.args.options.limit c.args.options.detail) (counting_at asked) c.args.options.stats (map (λ (word : Bor (List ℕ)). word.now) c.args.words.now) status)))
    c.args.options.asked Text c.in-Text.is c.answer_in.ensures.ok
