use Rattle.std.proofs.Common.{◌∙◌, sym}
use Rattle.gnu_texts.proofs.FrontLemmas.{all-whole}
use Rattle.gnu_texts.proofs.names.begins_whole.Goals as goal

pub returns-then-text-name-clause-whole : goal.returns-then-text-name-clause-whole
returns-then-text-name-clause-whole c =
    sym (all-whole c.args.text.now c.args.name.now (sym c.starts_with.ensures.value ∙ c.if-not-starts_with.false) c.if-text-name.true)
