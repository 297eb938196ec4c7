use Rattle.short_names.proofs.Basics.{sym, ◌∙◌, and_left}
use Rattle.short_names.proofs.ChangeLemmas.{row-or-none}
use Rattle.short_names.proofs.names.list_row.Goals as goal

pub returns-then-starts_with : goal.returns-then-starts_with
returns-then-starts_with c = row-or-none c.args.name.now _ (sym c.starts_with.ensures.value ∙ c.if-starts_with.true) c.row_of.result c.row_of.ensures

pub returns-else-starts_with : goal.returns-else-starts_with
returns-else-starts_with c = and_left _ _ (sym c.starts_with.ensures.value ∙ c.if-starts_with.false)
