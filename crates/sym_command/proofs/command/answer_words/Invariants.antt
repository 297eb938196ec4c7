use Rattle.sym_command.proofs.Basics.{◌≡◌, take, map, status_of}
use Rattle.sym_command.proofs.PageLemmas.{SoFar}
use Rattle.sym_command.proofs.command.answer_words.Given as goal

abbrev pub invariant-words : goal.invariant-words
invariant-words g l =
    let answers = g.D.Demangler.answer l.demangler in
    let counting = g.D.Demangler.are_counts l.demangler in
    let words = map (λ word. word.now) (take l.word-index l.words) in record {
      so_far : SoFar l.options.asked answers counting l.options.stats words (g.W.Sink.taken l.fn.out) (g.W.Sink.taken l.out) (g.E.Sink.taken l.fn.err) (g.E.Sink.taken l.err) l.page.out.items l.page.err.items;
      status : l.status ≡ status_of answers words;
      out_fails : g.W.Sink.failure_count l.out ≡ g.W.Sink.failure_count l.fn.out;
      err_fails : g.E.Sink.failure_count l.err ≡ g.E.Sink.failure_count l.fn.err;
    }
