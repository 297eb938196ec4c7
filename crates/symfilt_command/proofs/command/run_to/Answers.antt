use Rattle.std.proofs.Common.{List, ℕ, Bor, map}
use Rattle.symfilt_command.proofs.CommandLemmas.{unparsed-run, unparsed-stopped}
use Rattle.symfilt_command.proofs.command.run_to.Goals as goal

pub returns-in-Err-clause-ok : goal.returns-in-Err-clause-ok
returns-in-Err-clause-ok g c =
    unparsed-run (map (λ (word : Bor (List ℕ)). word.now) c.args.words.now) c.in-Err.error.kind (g.W.Sink.taken c.args.out.now) (g.E.Sink.taken c.args.err.now) (g.E.Sink.taken c.refuse.new.err) c.refuse.result
    c.in-Err.ensures.fails c.refuse.ensures.known c.refuse.ensures.wrong_use c.refuse.ensures.says

pub returns-in-Err-clause-err : goal.returns-in-Err-clause-err
returns-in-Err-clause-err g c = unparsed-stopped (map (λ (word : Bor (List ℕ)). word.now) c.args.words.now) (g.W.Sink.taken c.args.out.now) (g.E.Sink.taken c.args.err.now) (g.E.Sink.taken c.refuse.new.err) c.refuse.result c.refuse.ensures.says
