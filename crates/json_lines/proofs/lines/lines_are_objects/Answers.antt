use Rattle.json_lines.proofs.LineLemmas.{line-read}
use Rattle.json_lines.proofs.lines.lines_are_objects.Goals as goal

pub returns : goal.returns
returns c = line-read
