use Rattle.sym_filter.proofs.Basics.{◌≡◌, ◌<◌, ◌+◌, ◌*◌, ◌^◌, ◌++◌, List, [], ℕ, length, Consumes, rest_of_text, tally_of_text, entries_in_rest, Entry, entries_of, filtered_at, tally_at, Puts, READ_SIZE}
use Rattle.sym_filter.proofs.filtering.filter_promptly.Given as goal

abbrev pub invariant-loop-count : goal.invariant-loop-count
invariant-loop-count g l = let answers = g.D.Demangler.answer l.demangler in record {
  text : List ℕ;
  bytes : List ℕ;
  entries : List Entry;
  reads : Consumes (g.R.PromptSource.coming l.fn.reader) (g.R.PromptSource.coming l.reader) text;
  puts : Puts (g.W.Sink.taken l.fn.writer) (g.W.Sink.taken l.writer) [] [] bytes;
  tells : g.P.Report.Tells l.fn.report l.report entries;
  gives : (more : List ℕ) → entries_of l.fn.letters answers (text ++ more) ≡ entries ++ entries_in_rest answers l.words l.escape more;
  report_failures : g.P.Report.failure_count l.report ≡ g.P.Report.failure_count l.fn.report;
  read_failures : g.R.PromptSource.failure_count l.reader ≡ g.R.PromptSource.failure_count l.fn.reader;
  write_failures : g.W.Sink.failure_count l.writer ≡ g.W.Sink.failure_count l.fn.writer;
  same_letters : l.words.letters ≡ l.fn.letters;
  room : length l.room.items ≡ READ_SIZE;
  nothing_waits : l.out.items ≡ [];
  rest : (more : List ℕ) → filtered_at l.fn.letters answers (text ++ more) ≡ bytes ++ rest_of_text answers l.words l.escape more;
  counts : (more : List ℕ) → tally_at l.fn.letters answers (text ++ more) ≡ tally_of_text answers l.words l.escape more;
  dots : l.words.dots + READ_SIZE * g.R.PromptSource.reads_left l.reader < 2 ^ 64 * READ_SIZE;
}

abbrev pub decreases-loop-count : goal.decreases-loop-count
decreases-loop-count g l = g.R.PromptSource.reads_left l.reader
