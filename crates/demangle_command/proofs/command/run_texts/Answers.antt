use Rattle.std.proofs.Common.{List, ℕ, Bor, map}
use Rattle.demangle_command.proofs.CommandLemmas.{told-stops}
use Rattle.demangle_command.proofs.command.run_texts.Goals as goal

pub returns-in-Err-clause-err : goal.returns-in-Err-clause-err
returns-in-Err-clause-err g c =
    told-stops (map (λ (text : Bor (List ℕ)). text.now) c.args.texts.now) c.args.terminal c.in-Err.error.kind (g.S.Source.coming c.args.input.now) (g.W.Sink.taken c.args.out.now) (g.W.Sink.taken c.tell.new.out)
    (g.E.Sink.taken c.args.err.now) (g.E.Sink.taken c.tell.new.err) c.tell.result c.in-Err.ensures.fails c.tell.ensures.err
