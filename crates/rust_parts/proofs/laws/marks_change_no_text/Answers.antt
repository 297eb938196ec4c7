use Rattle.rust_parts.proofs.Texts.{text-symbol}
use Rattle.rust_parts.proofs.laws.marks_change_no_text.Goals as goal

pub returns : goal.returns
returns c s printed = text-symbol s printed
