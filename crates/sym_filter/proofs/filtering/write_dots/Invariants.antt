use Rattle.sym_filter.proofs.Basics.{◌≡◌, ◌<◌, length, replicate, READ_SIZE, Puts}
use Rattle.sym_filter.proofs.filtering.write_dots.Given as goal

abbrev pub invariant-loop : goal.invariant-loop
invariant-loop g l = record {
  puts : Puts (g.W.Sink.taken l.fn.writer) (g.W.Sink.taken l.writer) l.fn.out.items l.out.items (replicate l.counter 46);
  few : length l.fn.out.items < READ_SIZE → length l.out.items < READ_SIZE;
  failures : g.W.Sink.failure_count l.writer ≡ g.W.Sink.failure_count l.fn.writer;
}
