use Rattle.sym_filter.proofs.Basics.{◌≡◌, ◌≤◌, ◌<◌, ◌-◌, List, ℕ, length, take, TakesEntries, Entry, Puts, Takes, READ_SIZE}
use Rattle.sym_filter.proofs.filtering.take_words.Given as goal

abbrev pub invariant-loop-at : goal.invariant-loop-at
invariant-loop-at g l = record {
  bytes : List ℕ;
  entries : List Entry;
  few : length l.out.items < READ_SIZE;
  within : l.at ≤ length l.piece;
  takes : Takes (g.D.Demangler.answer l.demangler) l.fn.words l.words (take l.at l.piece) bytes;
  puts : Puts (g.W.Sink.taken l.fn.writer) (g.W.Sink.taken l.writer) l.fn.out.items l.out.items bytes;
  tells : g.P.Report.Tells l.fn.report l.report entries;
  gives : TakesEntries (g.D.Demangler.answer l.demangler) l.fn.words l.words (take l.at l.piece) entries;
  failures : g.W.Sink.failure_count l.writer ≡ g.W.Sink.failure_count l.fn.writer;
  report_failures : g.P.Report.failure_count l.report ≡ g.P.Report.failure_count l.fn.report;
}

abbrev pub decreases-loop-at : goal.decreases-loop-at
decreases-loop-at g l = length l.piece - l.at
