use Rattle.demangle_command.proofs.Basics.{ap, map, Bor, List, ℕ, found_of, rows_of, bytes_of}
use Rattle.demangle_command.proofs.CommandLemmas.{objects-end, objects-stop, uncolored-are}
use Rattle.demangle_command.proofs.command.run_with.Goals as goal

pub returns-then-options-clause-ok : goal.returns-then-options-clause-ok
returns-then-options-clause-ok g c =
    let texts = c.names_of.result.now in
    objects-end (rows_of (found_of c.args.matches.now)) c.args.terminal c.args.options (g.D.Demangler.answer c.args.demangler) (g.D.Detailed.details c.args.demangler) (map bytes_of (map (λ (text : Bor (List ℕ)). text.now) texts)) c.write_objects.result
    (g.S.Source.coming c.args.input.now) (g.S.Source.coming c.write_objects.new.input) (g.W.Sink.taken c.args.out.now) (g.W.Sink.taken c.write_objects.new.out) (g.E.Sink.taken c.args.err.now)
    c.requires.given c.if-options.true c.requires.texts c.requires.details (ap (map bytes_of) c.names_of.ensures) c.write_objects.ensures.ok

pub returns-then-options-clause-err : goal.returns-then-options-clause-err
returns-then-options-clause-err g c =
    let texts = c.names_of.result.now in
    objects-stop (rows_of (found_of c.args.matches.now)) c.args.terminal c.args.options (g.D.Demangler.answer c.args.demangler) (g.D.Detailed.details c.args.demangler) (map bytes_of (map (λ (text : Bor (List ℕ)). text.now) texts)) c.write_objects.result
    (g.S.Source.coming c.args.input.now) (g.S.Source.coming c.write_objects.new.input) (g.W.Sink.taken c.args.out.now) (g.W.Sink.taken c.write_objects.new.out) (g.E.Sink.taken c.args.err.now)
    c.requires.given c.if-options.true c.requires.texts c.requires.details (ap (map bytes_of) c.names_of.ensures) c.write_objects.ensures.err

pub run_lines-requires-clause-texts : goal.run_lines-requires-clause-texts
run_lines-requires-clause-texts g c = uncolored-are (g.D.Demangler.answer c.args.demangler) c.args.options c.requires.uncolored c.requires.texts
