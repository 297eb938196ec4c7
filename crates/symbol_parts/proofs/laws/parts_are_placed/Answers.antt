use Rattle.symbol_parts.proofs.Placed.{parsed-placed, parsed-within}
use Rattle.symbol_parts.proofs.laws.parts_are_placed.Goals as goal

pub returns-clause-text : goal.returns-clause-text
returns-clause-text g c = λ detail s limit bytes. parsed-placed g.M.Marked.over g.M.Marked.marking detail limit g.met.M.Marked.marks_only s bytes

pub returns-clause-bytes : goal.returns-clause-bytes
returns-clause-bytes g c = λ detail s limit bytes. parsed-within g.M.Marked.over g.M.Marked.marking detail limit g.met.M.Marked.spelled_within s bytes
