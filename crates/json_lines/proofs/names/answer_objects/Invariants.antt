use Rattle.json_lines.proofs.Basics.{◌≡◌, take, map, reads_paths}
use Rattle.json_lines.proofs.NameLemmas.{SoFar}
use Rattle.json_lines.proofs.names.answer_objects.Given as goal

abbrev pub invariant-names : goal.invariant-names
invariant-names g l =
    let names = map (λ name. name.now) (take l.name-index l.names) in record {
      so_far : SoFar l.options.types (reads_paths l.options.style) (g.D.Demangler.answer l.demangler) (g.D.Detailed.details l.demangler) names l.one_stays (g.W.Sink.taken l.fn.out) (g.W.Sink.taken l.out);
      out_fails : g.W.Sink.failure_count l.out ≡ g.W.Sink.failure_count l.fn.out;
    }
