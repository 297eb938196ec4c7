use Rattle.std.proofs.Common.{◌∙◌, sym}
use Rattle.short_names.proofs.PlainLemmas.{no_std_short, no_run}
use Rattle.short_names.proofs.runs.has_std.Goals as goal

pub returns : goal.returns
returns c = λ no_std keeps_inline. no_std_short c.args.text.now (no_run c.args.text.now c.std_run.result _ c.std_run.ensures (sym c.is_some.ensures ∙ no_std)) keeps_inline
