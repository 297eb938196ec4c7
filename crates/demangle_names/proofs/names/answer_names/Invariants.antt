use Rattle.std.proofs.Common.{◌≡◌, take, map}
use Rattle.demangle_names.proofs.NameLemmas.{SoFar}
use Rattle.demangle_names.proofs.names.answer_names.Given as goal

abbrev pub invariant-names : goal.invariant-names
invariant-names g l =
    let answers = g.D.Demangler.answer l.demangler in
    let names = map (λ name. name.now) (take l.name-index l.names) in record {
      so_far : SoFar answers l.options.types l.options.why names l.one_stays (g.W.Sink.taken l.fn.out) (g.W.Sink.taken l.out) (g.E.Sink.taken l.fn.err) (g.E.Sink.taken l.err);
      out_fails : g.W.Sink.failure_count l.out ≡ g.W.Sink.failure_count l.fn.out;
      err_fails : g.E.Sink.failure_count l.err ≡ g.E.Sink.failure_count l.fn.err;
    }
