use Rattle.legacy_parts.proofs.Texts.{text-path}
use Rattle.legacy_parts.proofs.laws.marks_change_no_text.Goals as goal

pub returns : goal.returns
returns c path = text-path path
