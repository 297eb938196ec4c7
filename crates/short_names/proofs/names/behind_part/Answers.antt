use Rattle.std.proofs.Common.{drop, sym, ap, ◌∙◌}
use Rattle.short_names.proofs.FrontLemmas.{rest-all}
use Rattle.short_names.proofs.NameLemmas.{same-part, no-low}
use Rattle.short_names.proofs.names.behind_part.Goals as goal

pub returns-then-starts_with : goal.returns-then-starts_with
returns-then-starts_with c = rest-all c.args.name.now c.row_size.result ∙ ap (λ n. drop n c.args.name.now) c.row_size.ensures.size

pub returns : goal.returns
returns c = sym (same-part c.args.name.now (no-low c.args.name.now (sym c.starts_with.ensures.value ∙ c.if-starts_with.false)))
