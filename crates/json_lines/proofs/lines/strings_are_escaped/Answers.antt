use Rattle.json_lines.proofs.StringLemmas.{escape-text}
use Rattle.json_lines.proofs.lines.strings_are_escaped.Goals as goal

pub returns : goal.returns
returns c = escape-text
