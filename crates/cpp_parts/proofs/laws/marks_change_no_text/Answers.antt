use Rattle.cpp_parts.proofs.Texts.{text-symbol}
use Rattle.cpp_parts.proofs.laws.marks_change_no_text.Goals as goal

pub returns : goal.returns
returns c t printed = text-symbol t printed
