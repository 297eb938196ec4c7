use Rattle.std.proofs.Common.{◌∙◌, le-ltb}
use Rattle.short_names.proofs.NameLemmas.{no-letter}
use Rattle.short_names.proofs.names.has_letter.Goals as goal

pub returns-else-at-text : goal.returns-else-at-text
returns-else-at-text c = le-ltb _ _ c.if-at-text.false ∙ no-letter c.args.text.now c.args.at c.if-at-text.false
