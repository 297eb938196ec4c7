use Rattle.std.proofs.Common.{take}
use Rattle.sym_filter.proofs.LaneLemmas.{of_letters}
use Rattle.sym_filter.proofs.words.run_front.Goals as goal

pub bytes-init : goal.bytes-init
bytes-init c = record {
  within = c.lanes_run-length.ensures.within;
  in_run = of_letters c.args.letters (take c.lanes_run-length.result c.args.text.now) c.lanes_run-length.ensures.in_run;
}
