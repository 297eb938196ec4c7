use Rattle.sym_filter.proofs.Basics.{◌≡◌, ◌≤◌, ◌-◌, length, take, Appends}
use Rattle.sym_filter.proofs.streams.write_all.Given as goal

abbrev pub invariant-loop-written : goal.invariant-loop-written
invariant-loop-written g l = record {
  within : l.written ≤ length l.bytes;
  writes : Appends (g.W.Sink.taken l.fn.writer) (g.W.Sink.taken l.writer) (take l.written l.bytes);
  failures : g.W.Sink.failure_count l.writer ≡ g.W.Sink.failure_count l.fn.writer;
}

abbrev pub decreases-loop-written : goal.decreases-loop-written
decreases-loop-written g l = length l.bytes - l.written
