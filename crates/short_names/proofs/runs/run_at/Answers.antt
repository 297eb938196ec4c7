use Rattle.short_names.proofs.RunLemmas.{run-is}
use Rattle.short_names.proofs.runs.run_at.Goals as goal

pub returns-clause-run : goal.returns-clause-run
returns-clause-run c = run-is c.args.text.now c.run_size.result c.run_size.ensures.within c.run_size.ensures.in_run c.run_size.ensures.stops
