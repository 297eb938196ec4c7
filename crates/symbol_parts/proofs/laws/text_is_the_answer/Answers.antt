use Rattle.symbol_parts.specs.ParsedLaws.{over_text}
use Rattle.symbol_parts.proofs.laws.text_is_the_answer.Goals as goal

pub returns : goal.returns
returns g c = λ detail s limit bytes. over_text g.M.Mangling.mangled g.M.Marked.over g.M.Marked.marking g.met.M.Marked.answers detail limit s bytes
